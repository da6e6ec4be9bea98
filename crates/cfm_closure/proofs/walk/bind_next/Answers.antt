-- The next library entry is refused, has a fragment that wasn't visited, or is passed by.
use Rattle.std.proofs.Common.{◌≡◌, ◌-◌, ◌<◌, ◌∙◌, Ok, inl, inr, length, refl, sym, ap, subst, arith}
use Rattle.std.proofs.Math.Nat.{eq-or-lt_of_le}
use Rattle.std.proofs.lemmas.Result.{err_from_is_err_and}
use Rattle.pef_loader.specs.Loader.{library_of}
use Rattle.pef_loader.specs.Views.{library_seen}
use Rattle.cfm_closure.specs.Faults.{FailsAs}
use Rattle.cfm_closure.specs.Libraries.{bound}
use Rattle.cfm_closure.specs.Kept.Paths.{count_of, visit}
use Rattle.cfm_closure.specs.Walk.{joining, walks_from}
use Rattle.pef_words.specs.Results.{◌>>=◌}
use Rattle.cfm_closure.specs.Views.{fragment_seen}
use Rattle.cfm_closure.proofs.PathLemmas.{Fails-also}
use Rattle.cfm_closure.proofs.FrameLemmas.{frame-more, frame-passed, frame-refused, frame-unmet, unmet-below, unmet-unmarked}
use Rattle.cfm_closure.proofs.walk.bind_next.Goals as goal

pub returns-in_err-bound-clause-next : goal.returns-in_err-bound-clause-next
returns-in_err-bound-clause-next c =
    let f = c.loop-library.frame in
    let is = ap (library_of (fragment_seen f.fragment).loader) (sym c.len.ensures) ∙ sym c.in-Some.ensures.value in
    let there = c.in-Some.ensures.there.0 refl in
    let under : length f.libraries < count_of f = let e = c.len.ensures in omega arith in
    let p = err_from_is_err_and c.from_residual.result c.from_residual.ensures.1 in
    λ order. rw (p.1, p.2)
    (Fails-also c.in_err-bound.field-0.0 _ _ (λ r refused. c.loop-library.invariant.rest order ∙ refused)
    (frame-refused c.args.store.now c.loop-library.fragments f c.loop-library.invariant.read c.loop-library.invariant.frame (library_seen c.in-Some.library) is under
    c.in_err-bound.field-0.0 (record { marked = c.args.marked.now; order = order })
    (subst (λ n. FailsAs c.in_err-bound.field-0.0 (bound c.args.store.now (fragment_seen f.fragment) n (library_seen c.in-Some.library))) c.len-l.ensures c.in_err-bound.ensures.answer)))

pub returns-in-Some-unmet-clause-next : goal.returns-in-Some-unmet-clause-next
returns-in-Some-unmet-clause-next c =
    let f = c.loop-library.frame in
    let is = ap (library_of (fragment_seen f.fragment).loader) (sym c.len.ensures) ∙ sym c.in-Some.ensures.value in
    let there = c.in-Some.ensures.there.0 refl in
    let under : length f.libraries < count_of f = let e = c.len.ensures in omega arith in
    let answer = subst (λ n. bound c.args.store.now (fragment_seen f.fragment) n (library_seen c.in-Some.library) ≡ Ok c.in_ok-bound.bound) c.len-l.ensures c.in_ok-bound.ensures.answer in
    λ order. (
      c.loop-library.invariant.rest order
          ∙ frame-unmet c.args.store.now c.loop-library.fragments f c.loop-library.invariant.read c.loop-library.invariant.frame (library_seen c.in-Some.library) is under
          c.in_ok-bound.bound c.push.new.self answer c.in_ok-push.ensures (record { marked = c.args.marked.now; order = order }) c.in-Some-unmet.q (sym c.in-Some-unmet.ensures),
      unmet-unmarked c.args.marked.now c.in_ok-bound.bound c.in-Some-unmet.q (sym c.in-Some-unmet.ensures),
      unmet-below c.args.marked.now c.in_ok-bound.bound c.in-Some-unmet.q _ (sym c.in-Some-unmet.ensures) c.in_ok-bound.ensures.below,
    )

pub returns-in-Some-unmet-clause-frame : goal.returns-in-Some-unmet-clause-frame
returns-in-Some-unmet-clause-frame c =
    let f = c.loop-library.frame in
    let is = ap (library_of (fragment_seen f.fragment).loader) (sym c.len.ensures) ∙ sym c.in-Some.ensures.value in
    let there = c.in-Some.ensures.there.0 refl in
    let under : length f.libraries < count_of f = let e = c.len.ensures in omega arith in
    let answer = subst (λ n. bound c.args.store.now (fragment_seen f.fragment) n (library_seen c.in-Some.library) ≡ Ok c.in_ok-bound.bound) c.len-l.ensures c.in_ok-bound.ensures.answer in
    frame-more c.args.store.now c.loop-library.fragments f c.loop-library.invariant.read c.loop-library.invariant.frame (library_seen c.in-Some.library) is under
    c.in_ok-bound.bound c.push.new.self answer c.in_ok-push.ensures c.bind.new.fragments c.in_ok-bound.ensures.kept

pub loop-library-preserved : goal.loop-library-preserved
loop-library-preserved c =
    let f = c.loop-library.frame in
    let inv = c.loop-library.invariant in
    let is = ap (library_of (fragment_seen f.fragment).loader) (sym c.len.ensures) ∙ sym c.in-Some.ensures.value in
    let there = c.in-Some.ensures.there.0 refl in
    let under : length f.libraries < count_of f = let e = c.len.ensures in omega arith in
    let answer = subst (λ n. bound c.args.store.now (fragment_seen f.fragment) n (library_seen c.in-Some.library) ≡ Ok c.in_ok-bound.bound) c.len-l.ensures c.in_ok-bound.ensures.answer in
    record {
      size = c.in_ok-bound.ensures.size;
      read = c.in_ok-bound.ensures.read;
      kept = λ p g here. c.in_ok-bound.ensures.kept p g (inv.kept p g here);
      frame = frame-more c.args.store.now c.loop-library.fragments f inv.read inv.frame (library_seen c.in-Some.library) is under
          c.in_ok-bound.bound c.push.new.self answer c.in_ok-push.ensures c.bind.new.fragments c.in_ok-bound.ensures.kept;
      same = record { p = inv.same.p; fragment = inv.same.fragment };
      rest = λ order. inv.rest order
          ∙ frame-passed c.args.store.now c.loop-library.fragments f inv.read inv.frame (library_seen c.in-Some.library) is under
          c.in_ok-bound.bound c.push.new.self answer c.in_ok-push.ensures (record { marked = c.args.marked.now; order = order }) c.requires.marks (sym c.in-None.ensures);
    }

pub returns-clause-next : goal.returns-clause-next
returns-clause-next c =
    let f = c.loop-library.frame in
    let over : length f.libraries < count_of f → ⊥ = λ under. absurd (let some = c.in_default.ensures.there.1 (let e = c.len.ensures in omega arith) in cc) in
    let all : length f.libraries ≡ count_of f = elim (eq-or-lt_of_le c.loop-library.invariant.frame.few) [
      | inl same ↦ same
      | inr under ↦ absurd (over under)
    ] in
    let none : count_of f - length f.libraries ≡ 0 = omega (arith, all) in
    λ order. (
      c.loop-library.invariant.rest order
          ∙ ap (λ n. walks_from (visit c.args.store.now) c.args.store.now f.p (length f.libraries) n (record { marked = c.args.marked.now; order = order }) >>= (λ s. Ok (joining f.p s))) none
          ∙ ap (λ p. Ok (joining p (record { marked = c.args.marked.now; order = order }))) c.loop-library.invariant.same.p,
      all,
    )
