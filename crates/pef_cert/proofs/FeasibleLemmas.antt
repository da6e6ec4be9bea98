-- Whether labels are feasible at a fixup, and from it on.
use Rattle.std.proofs.Common.{◌≡◌, ℕ, ◌+◌, ◌-◌, ◌<◌, ◌≤◌, Bool, false, ◌&&◌, List, [], ◌∷◌, length, take, drop, Some, sym, subst, arith, slice_get}
use Rattle.std.specs.Prelude.{slice_index_or}
use Rattle.std.proofs.lemmas.List.{length-drop}
use Rattle.pef_reloc.specs.declared.fixup.Base.{Base}
use Rattle.pef_reloc.specs.declared.fixup.Base.TheVariants.{Section}
use Rattle.pef_reloc.specs.declared.fixup.Fixup.{Fixup}
use Rattle.pef_reloc.specs.Deliveries.{index_after}
use Rattle.pef_reloc.proofs.Laws.{fixup_fits-parts}
use Rattle.pef_words.proofs.Laws.Lists.{all-get}
use Rattle.std.proofs.lemmas.Bool.{and_from, and_parts}
use Rattle.pef_cert.specs.declared.claim.CheckedSuffix.{CheckedSuffix}
use Rattle.pef_cert.specs.declared.claim.Claim.{Claim}
use Rattle.pef_cert.specs.declared.feasible.TestedFixup.{TestedFixup}
use Rattle.pef_cert.specs.Labels.{Labels, class_of}
use Rattle.pef_cert.specs.Feasible.{FeasibleAt}
use Rattle.pef_cert.specs.Kept.Claims.{Shaped, UnderTest, labels_claimed}
use Rattle.pef_labels.specs.Rows.{rows_from}
use Rattle.pef_cert.specs.Kept.Sets.{RowHolds}
use Rattle.pef_cert.specs.Fixups.Answers.{Says}
use Rattle.pef_cert.specs.Kept.Tests.{AllTests}
use Rattle.pef_cert.specs.LabelTests.{SetsHold, TestsHold}
use Rattle.pef_cert.proofs.AdditionLemmas.{got-fits}
use Rattle.pef_cert.proofs.ClaimLemmas.{get_under}
use Rattle.pef_cert.proofs.ClassLemmas.{RegisteredBase, all_registered, numbers}
use Rattle.pef_cert.proofs.LabelFacts.{Stands}
use Rattle.pef_cert.proofs.NeededTests.{tests_needed}
use Rattle.pef_cert.proofs.SetLemmas.{row-sets, sets-row}
use Rattle.pef_cert.proofs.TestLemmas.{feasible-tested}

-- how many fixups are left
pub left_count : (fixups : List Fixup) (at : ℕ) (f : Fixup) → slice_get fixups at ≡ Some f → length fixups - at ≡ length (f ∷ drop (at + 1) fixups)
left_count fixups at f e = let under = get_under fixups at f e in omega (arith, under, length-drop (at + 1) fixups)

-- the tests of a fixup
tests_of : (l : Labels) (index : ℕ) (fixups : List Fixup) (at : ℕ) (f : Fixup) → slice_get fixups at ≡ Some f → SetsHold l (length fixups - at) → AllTests l index f (drop (at + 1) fixups) → TestsHold l index f (drop (at + 1) fixups)
tests_of l index fixups at f e sets adds = record {
  sets = subst (SetsHold l) (left_count fixups at f e) sets;
  adds = adds;
}

-- labels of a claim that are feasible at a fixup are in order there
pub claim-stands : (c : Claim) (at index : ℕ) (f : Fixup) → Shaped c → slice_get c.fixups.now at ≡ Some f → FeasibleAt (labels_claimed c) index f (drop (at + 1) c.fixups.now) → Stands (labels_claimed c) index f (drop (at + 1) c.fixups.now)
claim-stands c at index f shaped e feasible = record {
  numbers = numbers c.fixups.now (labels_claimed c) shaped.fit shaped.registers;
  here = all-get (λ (g : Fixup). RegisteredBase c.registers.now g.base) c.fixups.now at f (all_registered c.fixups.now c.registers.now shaped.registers) e;
  feasible = feasible;
}

pub needed_of : (c : Claim) (at index : ℕ) (f : Fixup) → Shaped c → slice_get c.fixups.now at ≡ Some f → FeasibleAt (labels_claimed c) index f (drop (at + 1) c.fixups.now) → TestsHold (labels_claimed c) index f (drop (at + 1) c.fixups.now)
needed_of c at index f shaped e feasible =
    tests_needed (labels_claimed c) index f (drop (at + 1) c.fixups.now) (claim-stands c at index f shaped e feasible) (fixup_fits-parts f (got-fits c at f shaped e)).base

both_say : (a b : Bool) (P Q R : Type 0) → Says a P → Says b Q → (P → Q → R) → (R → P) → (R → Q) → Says (a && b) R
both_say a b P Q R p q join first second =
    (λ e. let both = and_parts a b e in join (p.0 both.0) (q.0 both.1), λ r. and_from a b (p.1 (first r)) (q.1 (second r)))

-- the result of a check of a fixup is whether labels are feasible there
pub fixup-says : (b : CheckedSuffix) (u : TestedFixup) (row : List ℕ) (sets adds : Bool) → UnderTest b u
    → row ≡ slice_index_or (rows_from b.claim.kept.width 0 b.claim.kept.ends.now b.claim.kept.values.now) u.at []
    → Says sets (RowHolds row (length b.claim.registers.now + 1))
    → Says adds (AllTests (labels_claimed b.claim) (index_after (take u.at b.claim.fixups.now) 0) u.fixup (drop (u.at + 1) b.claim.fixups.now))
    → Says (sets && adds) (FeasibleAt (labels_claimed b.claim) (index_after (take u.at b.claim.fixups.now) 0) u.fixup (drop (u.at + 1) b.claim.fixups.now))
fixup-says b u row sets adds under is first second =
    let l = labels_claimed b.claim in
    let fixups = b.claim.fixups.now in
    let rows = rows_from b.claim.kept.width 0 b.claim.kept.ends.now b.claim.kept.values.now in
    let index = index_after (take u.at fixups) 0 in
    let inside : u.at ≤ length fixups = omega (arith, get_under fixups u.at u.fixup under.here) in
    both_say sets adds
    (RowHolds row (length b.claim.registers.now + 1))
    (AllTests l index u.fixup (drop (u.at + 1) fixups))
    (FeasibleAt l index u.fixup (drop (u.at + 1) fixups))
    first second
    (λ p q. feasible-tested l index u.fixup (drop (u.at + 1) fixups) (tests_of l index fixups u.at u.fixup under.here (sets-row b.claim.registers.now row rows (length fixups) u.at inside is p) q))
    (λ feasible.
    let tests = needed_of b.claim u.at index u.fixup under.knows.shaped under.here feasible in
    row-sets b.claim.registers.now row rows (length fixups) u.at inside is (subst (SetsHold l) (sym (left_count fixups u.at u.fixup under.here)) tests.sets))
    (λ feasible. (needed_of b.claim u.at index u.fixup under.knows.shaped under.here feasible).adds)

-- if the change of a register costs too much they aren't
pub fixup-fails : (b : CheckedSuffix) (u : TestedFixup) (row : List ℕ) → UnderTest b u
    → row ≡ slice_index_or (rows_from b.claim.kept.width 0 b.claim.kept.ends.now b.claim.kept.values.now) u.at []
    → Says false (RowHolds row (length b.claim.registers.now + 1))
    → Says false (FeasibleAt (labels_claimed b.claim) (index_after (take u.at b.claim.fixups.now) 0) u.fixup (drop (u.at + 1) b.claim.fixups.now))
fixup-fails b u row under is sets = (
  λ e. absurd (cc),
  λ feasible.
      let fixups = b.claim.fixups.now in
      let rows = rows_from b.claim.kept.width 0 b.claim.kept.ends.now b.claim.kept.values.now in
      let inside : u.at ≤ length fixups = omega (arith, get_under fixups u.at u.fixup under.here) in
      let tests = needed_of b.claim u.at (index_after (take u.at fixups) 0) u.fixup under.knows.shaped under.here feasible in
      sets.1 (row-sets b.claim.registers.now row rows (length fixups) u.at inside is (subst (SetsHold (labels_claimed b.claim)) (sym (left_count fixups u.at u.fixup under.here)) tests.sets)),
)

counts_of : (registers : List ℕ) (b : Base) (k : ℕ) → b ≡ Section k → RegisteredBase registers b → class_of registers k < length registers
counts_of registers b k is here = subst (λ (y : Base). RegisteredBase registers y) is here

-- the section of a fixup counts
pub section-counts : (c : Claim) (at k : ℕ) (f : Fixup) → Shaped c → slice_get c.fixups.now at ≡ Some f → f.base ≡ Section k → class_of c.registers.now k < length c.registers.now
section-counts c at k f shaped e base =
    counts_of c.registers.now f.base k base
    (all-get (λ (g : Fixup). RegisteredBase c.registers.now g.base) c.fixups.now at f (all_registered c.fixups.now c.registers.now shaped.registers) e)
