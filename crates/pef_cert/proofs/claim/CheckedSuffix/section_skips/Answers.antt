use Rattle.std.proofs.Common.{rules, ◌≡◌, ◌+◌, inl, inr, ℕ, Some, drop, arith, slice_index, sym, subst, ◌∙◌}
use Rattle.std.specs.Prelude.{slice_set}
use Rattle.std.proofs.lemmas.List.{get_or-set_other, get_or-set_same, length-set}
use Rattle.std.proofs.lemmas.Bool.Decides.{eqb_tells}
use Rattle.pef_cert.specs.Extension.{skips_at}
use Rattle.pef_cert.specs.Kept.Claims.{labels_claimed}
use Rattle.pef_cert.specs.Labels.{class_of}
use Rattle.pef_cert.proofs.ClaimLemmas.{shaped-few}
use Rattle.pef_cert.proofs.SweepLemmas.{section-offers, skip-small}
use Rattle.pef_cert.proofs.claim.CheckedSuffix.section_skips.Goals as goal

pub overflow_cast-least : goal.overflow_cast-least
overflow_cast-least c =
    let r = c.requires in
    let low = skip-small c.args.self.claim c.args.at c.args.section c.loop-c.c c.least_skip.result c.args.fixup r.knows.shaped r.here r.base r.beyond (omega (arith, c.loop-c-test.true, c.classes-c-end.ensures)) c.least_skip.ensures.is in
    search (rules, low)

pub bounds-least-c : goal.bounds-least-c
bounds-least-c c = let few = shaped-few c.args.self.claim c.requires.knows.shaped in omega (arith, few, c.loop-c-test.true, c.classes-c-end.ensures)

pub loop-c-preserved : goal.loop-c-preserved
loop-c-preserved c =
    let few = shaped-few c.args.self.claim c.requires.knows.shaped in
    record {
      len = length-set c.loop-c.least c.loop-c.c c.least_skip.result ∙ c.loop-c.invariant.len;
      are = λ x under.
          let s = c.args.self in
          let at : ℕ → ℕ → Type 0 = λ y v. skips_at (labels_claimed s.claim) c.args.fixup (drop (c.args.at + 1) s.claim.fixups.now) y (class_of s.claim.registers.now c.args.section) ≡ Some v in
          elim (eqb_tells x c.loop-c.c) [
            | inl same ↦ subst (λ (y : ℕ). at y (slice_index (slice_set c.loop-c.least c.loop-c.c c.least_skip.result) y)) (sym same.1)
                (subst (λ (v : ℕ). at c.loop-c.c v) (sym (get_or-set_same c.loop-c.least c.loop-c.c c.least_skip.result 0 (omega (arith, few, c.loop-c.invariant.len, c.loop-c-test.true, c.classes-c-end.ensures)))) c.least_skip.ensures.is)
            | inr other ↦ subst (λ (v : ℕ). at x v) (sym (get_or-set_other c.loop-c.least c.loop-c.c x c.least_skip.result 0 other.1)) (c.loop-c.invariant.are x (omega (arith, under, other.1)))
          ];
    }

pub returns : goal.returns
returns c =
    let r = c.requires in
    section-offers c.args.self.claim c.args.at c.args.section c.args.fixup c.loop-c.least r.knows.shaped r.here r.base r.beyond
    (λ x under. c.loop-c.invariant.are x (omega (arith, under, c.loop-c-test.false, c.classes-c-end.ensures)))
