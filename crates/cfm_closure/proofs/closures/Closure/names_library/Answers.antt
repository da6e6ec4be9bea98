-- A fragment that has such an entry decides.
use Rattle.std.proofs.Common.{◌≡◌, ℕ, Some, sym, ap, subst, ◌∙◌, inl, inr, arith, slice_index_or, Contains}
use Rattle.std.specs.Option.{option_and_then}
use Rattle.std.proofs.lemmas.Bool.Decides.{eqb_tells}
use Rattle.std.proofs.lemmas.List.{get_or_default}
use Rattle.pef_loader.specs.Loader.{library_of}
use Rattle.cfm_closure.specs.Closures.{Closed}
use Rattle.cfm_closure.specs.Fragments.{loader_at}
use Rattle.cfm_closure.proofs.closures.Closure.names_library.Goals as goal

pub loop-p-init : goal.loop-p-init
loop-p-init c = λ i under. absurd (omega arith)

pub loop-p-preserved : goal.loop-p-preserved
loop-p-preserved c = λ i under k library there named. elim (eqb_tells i c.loop-p.p-index) [
  | inl same ↦ (
      let P : ℕ → Type 0 = λ i. option_and_then (λ x. library_of x k) (loader_at c.args.self.now.pairs (slice_index_or c.order-p-items.result.now i 0)) ≡ Some library in
      c.fragment_names.ensures.no c.if-fragment_names.false k library (subst P same.1 there) named)
  | inr other ↦ (let apart = other.1 in c.loop-p.invariant i (omega arith) k library there named)
]

pub returns-clause-no : goal.returns-clause-no
returns-clause-no c = λ never names.
    let whole : c.args.self.now.order ≡ c.order-p-items.result.now = sym (ap (λ (closed : Closed). closed.order) c.self.view_is) ∙ sym c.order-p-items.ensures.order in
    let there = subst (λ order. Contains order names.fragment) whole names.member in
    let place : slice_index_or c.order-p-items.result.now there.0 0 ≡ names.fragment = get_or_default c.order-p-items.result.now there.0 0 names.fragment there.1 ∙ there.2 in
    let entry = ap (λ p. option_and_then (λ x. library_of x names.index) (loader_at c.args.self.now.pairs p)) place ∙ ap (option_and_then (λ x. library_of x names.index)) names.read ∙ names.entry in
    let under = there.1 in
    c.loop-p.invariant there.0 (omega arith) names.index names.library entry names.named
