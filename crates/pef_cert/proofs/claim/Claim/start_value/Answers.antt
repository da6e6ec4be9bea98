use Rattle.std.proofs.Common.{◌≡◌, ◌+◌, ◌-◌, ℕ, List, [], ◌∷◌, replicate, drop, take, length, refl, subst, ◌∙◌, arith, true, false}
use Rattle.std.proofs.Math.Path.{ap₂}
use Rattle.std.proofs.lemmas.List.{length-replicate}
use Rattle.std.proofs.lemmas.Option.{slice_get-get_or}
use Rattle.pef_reloc.specs.Deliveries.{index_after}
use Rattle.pef_cert.specs.Extension.{extension}
use Rattle.pef_cert.specs.Feasible.{FeasibleFrom}
use Rattle.pef_cert.specs.Kept.Claims.{Swept, labels_claimed}
use Rattle.pef_labels.specs.Rows.{rows_from}
use Rattle.pef_cert.proofs.ClassLemmas.{class_of-below}
use Rattle.pef_cert.proofs.SweepLemmas.{feasible-before, feasible-end, feasible-there, feasible-whole, last-zero, row-last, swept-close, swept-end, swept-next, zero-last}
use Rattle.pef_cert.proofs.claim.Claim.start_value.Goals as goal

pub returns-then-not-is_zero : goal.returns-then-not-is_zero
returns-then-not-is_zero c = λ feasible.
    let s = c.args.self in
    let n = length s.fixups.now in
    let row = row-last s.kept.width n s.kept.ends.now s.kept.values.now c.requires.full c.requires.rows in
    let wrong : false ≡ true = c.if-not-is_zero.ensures.1 (last-zero s.registers.now c.row.result.now (rows_from s.kept.width 0 s.kept.ends.now s.kept.values.now) n (c.row.ensures.is n row) c.row.ensures.len feasible.last) in
    absurd (cc)

pub fixups-init : goal.fixups-init
fixups-init c =
    let s = c.args.self in
    let n = length s.fixups.now in
    let row = row-last s.kept.width n s.kept.ends.now s.kept.values.now c.requires.full c.requires.rows in
    record {
      under = omega arith;
      row = row;
      swept = swept-end s (length s.kept.ends.now - 1) (replicate 1024 0) (replicate 1024 (0 ∷ 0 ∷ 0 ∷ 0 ∷ 0 ∷ 0 ∷ 0 ∷ 0 ∷ 0 ∷ 0 ∷ 0 ∷ 0 ∷ 0 ∷ 0 ∷ 0 ∷ 0 ∷ 0 ∷ [])) c.requires row (length-replicate {A = ℕ} 1024 0) (length-replicate {A = List ℕ} 1024 (0 ∷ 0 ∷ 0 ∷ 0 ∷ 0 ∷ 0 ∷ 0 ∷ 0 ∷ 0 ∷ 0 ∷ 0 ∷ 0 ∷ 0 ∷ 0 ∷ 0 ∷ 0 ∷ 0 ∷ []));
      feasible = feasible-end (labels_claimed s) (index_after (take n s.fixups.now) 0) s.fixups.now;
    }

pub fixup_holds-requires : goal.fixup_holds-requires
fixup_holds-requires c =
    let step : c.fixups.at ≡ c.fixups.at - 1 + 1 = omega (arith, c.fixups-test.true) in
    record {
      knows = subst (λ (n : ℕ). Swept c.args.self c.fixups.rows c.fixups.skips n) step c.fixups.invariant.swept;
      beyond = subst (λ (n : ℕ). FeasibleFrom (labels_claimed c.args.self) (index_after (take n c.args.self.fixups.now) 0) (drop n c.args.self.fixups.now)) step c.fixups.invariant.feasible;
      here = slice_get-get_or c.args.self.fixups.now (c.fixups.at - 1) _ (omega (arith, c.fixups-test.true, c.fixups.invariant.under));
      row = c.row_before-row.ensures;
    }

pub returns-then-not-fixup_holds : goal.returns-then-not-fixup_holds
returns-then-not-fixup_holds c = λ feasible.
    let wrong : false ≡ true = c.if-not-fixup_holds.ensures.1 (feasible-there (labels_claimed c.args.self) 0 c.args.self.fixups.now (c.fixups.at - 1) _ (slice_get-get_or c.args.self.fixups.now (c.fixups.at - 1) _ (omega (arith, c.fixups-test.true, c.fixups.invariant.under))) feasible.each) in
    absurd (cc)

pub fixups-preserved : goal.fixups-preserved
fixups-preserved c =
    let s = c.args.self in
    let step : c.fixups.at ≡ c.fixups.at - 1 + 1 = omega (arith, c.fixups-test.true) in
    let here = slice_get-get_or s.fixups.now (c.fixups.at - 1) _ (omega (arith, c.fixups-test.true, c.fixups.invariant.under)) in
    record {
      under = omega (arith, c.fixups.invariant.under);
      row = c.row_before-row.ensures;
      swept = swept-close s c.row_before-row.result (c.fixups.at - 1) c.fixups.rows c.fixups.skips _
          (subst (λ (n : ℕ). Swept s c.fixups.rows c.fixups.skips n) step c.fixups.invariant.swept) here c.row_before-row.ensures c.in_default.ensures;
      feasible = feasible-before (labels_claimed s) s.fixups.now (c.fixups.at - 1) _ here (c.if-not-fixup_holds.ensures.0 refl)
          (subst (λ (n : ℕ). FeasibleFrom (labels_claimed s) (index_after (take n s.fixups.now) 0) (drop n s.fixups.now)) step c.fixups.invariant.feasible);
    }

pub fixups-preserved-in-Some : goal.fixups-preserved-in-Some
fixups-preserved-in-Some c =
    let s = c.args.self in
    let step : c.fixups.at ≡ c.fixups.at - 1 + 1 = omega (arith, c.fixups-test.true) in
    let here = slice_get-get_or s.fixups.now (c.fixups.at - 1) _ (omega (arith, c.fixups-test.true, c.fixups.invariant.under)) in
    record {
      under = omega (arith, c.fixups.invariant.under);
      row = c.row_before-row.ensures;
      swept = swept-next s c.row_before-row.result (c.fixups.at - 1) c.fixups.rows c.fixups.skips _ c.in-Some.least
          (subst (λ (n : ℕ). Swept s c.fixups.rows c.fixups.skips n) step c.fixups.invariant.swept) here c.row_before-row.ensures c.in-Some.ensures;
      feasible = feasible-before (labels_claimed s) s.fixups.now (c.fixups.at - 1) _ here (c.if-not-fixup_holds.ensures.0 refl)
          (subst (λ (n : ℕ). FeasibleFrom (labels_claimed s) (index_after (take n s.fixups.now) 0) (drop n s.fixups.now)) step c.fixups.invariant.feasible);
    }

pub value-requires-clause-sees : goal.value-requires-clause-sees
value-requires-clause-sees c =
    let w = c.fixups.invariant.swept in
    record {
      shaped = w.shaped;
      rows = w.rows;
      skips = w.skips;
      inside = omega arith;
      known = w.at 0 (omega (arith, c.fixups-test.false)) (omega arith) (omega arith);
    }

pub value-requires-clause-c : goal.value-requires-clause-c
value-requires-clause-c c = let low = class_of-below (labels_claimed c.args.self) 0 in omega (arith, low, c.class_of-c.ensures)

pub value-requires-clause-d : goal.value-requires-clause-d
value-requires-clause-d c = let low = class_of-below (labels_claimed c.args.self) 1 in omega (arith, low, c.class_of-d.ensures)

pub returns : goal.returns
returns c =
    let s = c.args.self in
    let n = length s.fixups.now in
    let l = labels_claimed s in
    let row = row-last s.kept.width n s.kept.ends.now s.kept.values.now c.requires.full c.requires.rows in
    let last = zero-last s.registers.now c.row.result.now (rows_from s.kept.width 0 s.kept.ends.now s.kept.values.now) n (c.row.ensures.is n row) c.row.ensures.len (c.if-not-is_zero.ensures.0 refl) in (
      feasible-whole l s.fixups.now c.fixups.at (omega (arith, c.fixups-test.false)) last c.fixups.invariant.feasible,
      c.value.ensures.is ∙ ap₂ (λ x y. extension l s.fixups.now 0 x y) c.class_of-c.ensures c.class_of-d.ensures,
    )
