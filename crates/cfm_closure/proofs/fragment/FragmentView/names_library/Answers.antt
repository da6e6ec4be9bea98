-- An entry that has the name decides.
use Rattle.std.proofs.Common.{◌≡◌, ℕ, List, Some, None, false, true≢false, sym, ap, subst, ◌∙◌, inl, inr, arith}
use Rattle.std.proofs.lemmas.Bool.Decides.{eqb_tells}
use Rattle.pef_loader.specs.Library.{Library}
use Rattle.pef_loader.specs.Loader.{library_of}
use Rattle.std.proofs.lemmas.Slice.Eq.{bytes_eq-Decides}
use Rattle.std.specs.Str.{bytes_eq}
use Rattle.pef_loader.specs.Views.{library_seen, loaded}
use Rattle.cfm_closure.proofs.BoundLemmas.{library_of-below}
use Rattle.cfm_closure.proofs.fragment.FragmentView.names_library.Goals as goal
use Rattle.cfm_closure.proofs.fragment.FragmentView.names_library.Goals.{in-Some+else-eq, in_default}

-- equal bytes are told equal
eq_not_bytes : (xs ys : List ℕ) → xs ≡ ys → bytes_eq xs ys ≡ false → ⊥
eq_not_bytes xs ys same not_equal = true≢false (sym ((bytes_eq-Decides xs ys).1 same) ∙ not_equal)

pub loop-l-init : goal.loop-l-init
loop-l-init c = λ k under. absurd (omega arith)

pub loop-l-preserved : goal.loop-l-preserved
loop-l-preserved c = λ k under library there named. elim (eqb_tells k c.loop-l.l) [
  | inl same ↦ (
      let P : ℕ → Type 0 = λ k. library_of (loaded c.args.self.now.loader) k ≡ Some library in
      let here = subst P same.1 there in
      elim c.match-library.branch [
        | in-Some+else-eq w ↦ (
            let value : Some (library_seen w.in-Some.library) ≡ Some library = w.in-Some.ensures.value ∙ here in
            let is : library_seen w.in-Some.library ≡ library = cc in
            let equal : w.in-Some.library.name.now ≡ c.args.name.now = ap (λ (x : Library). x.name) is ∙ named in
            eq_not_bytes w.in-Some.library.name.now c.args.name.now equal (sym w.eq.ensures ∙ w.if-eq.false))
        | in_default w ↦ (let none : None ≡ Some library = w.in_default.ensures.value ∙ here in cc)
      ])
  | inr other ↦ (let apart = other.1 in c.loop-l.invariant k (omega arith) library there named)
]

pub returns-clause-no : goal.returns-clause-no
returns-clause-no c = λ never l library there named.
    let low = library_of-below (loaded c.args.self.now.loader) l library there in
    let count = c.libraries-l-end.ensures.count in
    c.loop-l.invariant l (omega arith) library there named
