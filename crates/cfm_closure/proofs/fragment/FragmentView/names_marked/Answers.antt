-- An entry that names a marked fragment decides.
use Rattle.std.proofs.Common.{◌≡◌, ℕ, Some, subst, inl, inr, arith}
use Rattle.std.proofs.lemmas.Bool.Decides.{eqb_tells}
use Rattle.pef_loader.specs.Loader.{library_of}
use Rattle.pef_loader.specs.Views.{loaded}
use Rattle.cfm_closure.proofs.BoundLemmas.{library_of-below}
use Rattle.cfm_closure.proofs.fragment.FragmentView.names_marked.Goals as goal

pub loop-l-preserved : goal.loop-l-preserved
loop-l-preserved c = λ k under library there. elim (eqb_tells k c.loop-l.l) [
  | inl same ↦ (
      let P : ℕ → Type 0 = λ k. library_of (loaded c.args.self.now.loader) k ≡ Some library in
      c.entry_is_marked.ensures c.if-entry_is_marked.false library (subst P same.1 there))
  | inr other ↦ (let apart = other.1 in c.loop-l.invariant k (omega arith) library there)
]

pub returns : goal.returns
returns c = λ never l library there.
    let low = library_of-below (loaded c.args.self.now.loader) l library there in
    let count = c.libraries-l-end.ensures.count in
    c.loop-l.invariant l (omega arith) library there
