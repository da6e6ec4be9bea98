-- The state of a check: the labels that are claimed, and the results after the fixup under test.
use Rattle.std.specs.Prelude.{◌≡◌, ◌≤◌, ◌<◌, ℕ, zero, suc, ◌+◌, ◌-◌, ◌*◌, ◌%◌, true, ◌&&◌, List, [], ◌∷◌, length, take, drop, slice_get, slice_index, slice_index_or, Some}
use Rattle.std.specs.List.{AllByRecursion}
use Rattle.std.specs.Option.{option_map_or}
use Rattle.pef_reloc.specs.declared.fixup.Base.{Base}
use Rattle.pef_reloc.specs.declared.fixup.Base.TheVariants.{Section}
use Rattle.pef_reloc.specs.declared.fixup.Fixup.{Fixup}
use Rattle.pef_reloc.specs.declared.instr.Instr.{Instr}
use Rattle.pef_reloc.specs.Deliveries.{index_after}
use Rattle.pef_reloc.specs.Fixups.{fixups_fit}
use Rattle.pef_reloc.specs.Instrs.{program_length}
use Rattle.pef_reloc.specs.Steps.{Makes, is_flat, start}
use Rattle.pef_cert.specs.declared.claim.CheckedSuffix.{CheckedSuffix}
use Rattle.pef_cert.specs.declared.claim.Claim.{Claim}
use Rattle.pef_cert.specs.declared.feasible.TestedFixup.{TestedFixup}
use Rattle.pef_cert.specs.declared.runs.TestedState.{TestedState}
use Rattle.pef_cert.specs.Labels.{Labels, classes}
use Rattle.pef_cert.specs.Extension.{OfferIs, extension_at}
use Rattle.pef_cert.specs.Feasible.{Feasible, FeasibleFrom}
use Rattle.pef_cert.specs.Kept.Tests.{adds_first}
use Rattle.pef_cert.specs.LabelTests.{pairs_test, row_test}
use Rattle.pef_labels.specs.Rows.{RowsFull, rows_from}
use Rattle.pef_cert.specs.Valid.{RegistersOf, labels_in}

-- the labels that are claimed
abbrev pub labels_claimed : Claim → Labels
labels_claimed c = labels_in c.registers.now (rows_from c.kept.width 0 c.kept.ends.now c.kept.values.now) (length c.fixups.now)

-- a claim with the right shape
pub record Shaped (c : Claim) : Type 0 where
  pub fit : fixups_fit c.fixups.now ≡ true
  pub registers : RegistersOf c.fixups.now c.registers.now
  pub full : RowsFull c.kept.width c.kept.ends.now c.kept.values.now
  pub width : c.kept.width ≡ (length c.registers.now + 1) * (length c.registers.now + 1)
  pub rows : length (rows_from c.kept.width 0 c.kept.ends.now c.kept.values.now) ≡ length c.fixups.now + 1

-- how many rows there are before a kept one
abbrev pub rows_before : List ℕ → ℕ → ℕ
rows_before ends zero = 0
rows_before ends (suc q) = slice_index ends q

-- a kept row is the row of an index
pub record IsRowOf (ends : List ℕ) (q j : ℕ) : Type 0 where
  pub kept : q < length ends
  pub after : rows_before ends q ≤ j
  pub before : j < slice_index ends q

-- the least skips with register C in each class, at a fixup when others are left
abbrev pub SkipsAre : Claim → Fixup → List Fixup → List ℕ → Type 0
SkipsAre claim f rest least = (c d : ℕ) → c < classes (labels_claimed claim) → d < classes (labels_claimed claim) → OfferIs (labels_claimed claim) f rest c d (slice_index least c) f.base

-- the end of the word of the fixup before an index
abbrev pub word_end : List Fixup → ℕ → ℕ
word_end fixups zero = 0
word_end fixups (suc k) = option_map_or (λ f. f.offset + 4) (slice_get fixups k) 0

-- the least skips at an index, if there is a gap before its word; otherwise no move leads to the fixup
abbrev pub SkipsKept : Claim → ℕ → Fixup → List Fixup → List ℕ → Type 0
SkipsKept claim j f rest least = word_end claim.fixups.now j < f.offset → SkipsAre claim f rest least

-- the facts of an index after the fixup under test, from the rows and skips in the ring
pub record KnownAt (claim : Claim) (ring : List ℕ) (least : List (List ℕ)) (j : ℕ) : Type 0 where
  pub row : IsRowOf claim.kept.ends.now (slice_index ring (j % 1024)) j
  pub offer : (f : Fixup) (rest : List Fixup) → drop j claim.fixups.now ≡ f ∷ rest → SkipsKept claim j f rest (slice_index_or least (j % 1024) [])

-- the facts of an index, if everything has the right shape
pub record Sees (b : CheckedSuffix) (j : ℕ) : Type 0 where
  pub shaped : Shaped b.claim
  pub rows : length b.rows.now ≡ 1024
  pub skips : length b.skips.now ≡ 1024
  pub inside : j ≤ length b.claim.fixups.now
  pub known : KnownAt b.claim b.rows.now b.skips.now j

-- the facts of the indices from one on
pub record Swept (claim : Claim) (ring : List ℕ) (least : List (List ℕ)) (from : ℕ) : Type 0 where
  pub shaped : Shaped claim
  pub rows : length ring ≡ 1024
  pub skips : length least ≡ 1024
  pub at : (j : ℕ) → from ≤ j → j < from + 1024 → j ≤ length claim.fixups.now → KnownAt claim ring least j

abbrev pub Knows : CheckedSuffix → ℕ → Type 0
Knows b from = Swept b.claim b.rows.now b.skips.now from

-- the labels after an index are feasible
abbrev pub FeasibleAfter : Claim → ℕ → Type 0
FeasibleAfter claim at = FeasibleFrom (labels_claimed claim) (index_after (take (at + 1) claim.fixups.now) 0) (drop (at + 1) claim.fixups.now)

-- a state at a fixup, whose label is tested against the later fixups
pub record Tests (b : CheckedSuffix) (s : TestedState) : Type 0 where
  pub knows : Knows b (s.at + 1)
  pub beyond : FeasibleAfter b.claim s.at
  pub here : slice_get b.claim.fixups.now s.at ≡ Some s.fixup
  pub c_class : s.c < length b.claim.registers.now + 1
  pub d_class : s.d < length b.claim.registers.now + 1

-- the state of a fixup in two classes, with its label
abbrev pub state_of : Claim → TestedFixup → ℕ → ℕ → TestedState
state_of claim u c d = record {
  at = u.at;
  fixup = u.fixup;
  c = c;
  d = d;
  label = (labels_claimed claim).label (length claim.fixups.now - u.at) c d;
}

-- the label of an index, in the classes of a tested state
abbrev pub label_after : CheckedSuffix → TestedState → ℕ → ℕ
label_after b s j = (labels_claimed b.claim).label (length b.claim.fixups.now - j) s.c s.d

-- for each label after a tested one the test of a run of a base that begins there holds
abbrev pub RowMet : CheckedSuffix → TestedState → ℕ → Base → Type 0
RowMet b s w base = (j p : ℕ) → s.at < j → adds_first p base (drop j b.claim.fixups.now) ≡ true
    → row_test (labels_claimed b.claim) (label_after b s j) w base s.c s.d 512 p (drop j b.claim.fixups.now) ≡ true

-- and that of a run of two bases side by side
abbrev pub PairsMet : CheckedSuffix → TestedState → ℕ → Base → Base → Type 0
PairsMet b s w first second = (j p : ℕ) → s.at < j → (adds_first p first (drop j b.claim.fixups.now) && adds_first (p + 4) second (drop (j + 1) b.claim.fixups.now)) ≡ true
    → pairs_test (labels_claimed b.claim) (label_after b s j) w first second s.c s.d 512 p (drop j b.claim.fixups.now) ≡ true

-- an index after a tested state whose label is no lower
pub record Covers (b : CheckedSuffix) (s : TestedState) (j : ℕ) : Type 0 where
  pub after : s.at < j
  pub low : s.label ≤ label_after b s j

-- a fixup under test, with its row of labels
pub record UnderTest (b : CheckedSuffix) (u : TestedFixup) : Type 0 where
  pub knows : Knows b (u.at + 1)
  pub beyond : FeasibleAfter b.claim u.at
  pub here : slice_get b.claim.fixups.now u.at ≡ Some u.fixup
  pub row : IsRowOf b.claim.kept.ends.now u.row u.at

-- the row of an index
abbrev pub row_at : Claim → ℕ → List ℕ
row_at claim at = slice_index_or (rows_from claim.kept.width 0 claim.kept.ends.now claim.kept.values.now) at []

-- a fixup under test and the next one have the same kept row
pub record SharesRow (b : CheckedSuffix) (u : TestedFixup) : Type 0 where
  pub inside : u.at + 1 < length b.claim.fixups.now
  pub row : IsRowOf b.claim.kept.ends.now u.row (u.at + 1)

-- and the next word adds a base
pub record GoesOn (b : CheckedSuffix) (u : TestedFixup) (base : Base) : Type 0 where
  pub shares : SharesRow b u
  pub adds : adds_first (u.fixup.offset + 4) base (drop (u.at + 1) b.claim.fixups.now) ≡ true

-- an index at a section's fixup, if everything after it is known and labels are feasible there
pub record Skips (b : CheckedSuffix) (at : ℕ) (f : Fixup) (k : ℕ) : Type 0 where
  pub knows : Knows b (at + 1)
  pub beyond : FeasibleAfter b.claim at
  pub here : slice_get b.claim.fixups.now at ≡ Some f
  pub base : f.base ≡ Section k

-- rows with the right shape for this many fixups and classes
pub record RowsFit (count classes : ℕ) (rows : List (List ℕ)) : Type 0 where
  pub count_is : length rows ≡ count + 1
  pub row : AllByRecursion (λ row. length row ≡ classes * classes) rows

-- a claim has these fixups, registers and rows
pub record IsClaim (fixups : List Fixup) (registers : List ℕ) (rows : List (List ℕ)) (claim : Claim) : Type 0 where
  pub fixups_are : claim.fixups.now ≡ fixups
  pub registers_are : claim.registers.now ≡ registers
  pub rows_are : rows_from claim.kept.width 0 claim.kept.ends.now claim.kept.values.now ≡ rows

-- a claim holds for a program
pub record Holds (claim : Claim) (program : List Instr) : Type 0 where
  pub feasible : Feasible (labels_claimed claim) claim.fixups.now
  pub flat : is_flat program ≡ true
  pub makes : Makes claim.fixups.now program
  pub length_is : program_length program ≡ extension_at (labels_claimed claim) claim.fixups.now start
