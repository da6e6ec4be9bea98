-- The ends of runs, and the windows that keep the extensions after them.
use Rattle.std.specs.Prelude.{◌≡◌, ◌≤◌, ◌<◌, ◌⊎◌, ℕ, suc, ◌+◌, ◌-◌, ◌*◌, List, [], ◌∷◌, ◌++◌, length, Bool, true, false, Option, None, Some, slice_index}
use Rattle.pef_reloc.specs.declared.fixup.Base.{Base}
use Rattle.pef_reloc.specs.declared.fixup.Base.TheVariants.{Section, Import}
use Rattle.pef_reloc.specs.declared.fixup.Fixup.{Fixup}
use Rattle.pef_reloc.specs.Steps.{added}
use Rattle.pef_cert.specs.Labels.{Labels, class_of, classes}
use Rattle.pef_cert.specs.Extension.{extension}
use Rattle.pef_plan.specs.declared.runs.suffix.SolvedSuffix.{SolvedSuffix}
use Rattle.pef_plan.specs.declared.runs.run.Run.{Run}
use Rattle.pef_plan.specs.declared.runs.run.Run.TheVariants.{WordsOfC, WordsOfD, Spaced, Pairs, SpacedPairs, Imports, Skip}
use Rattle.pef_plan.specs.declared.runs.ends.RunEnds.{RunEnds}
use Rattle.pef_plan.specs.declared.runs.ends.WordWindows.{WordWindows}
use Rattle.pef_plan.specs.Runs.Kept.Turns.{Turns}
use Rattle.pef_plan.specs.Runs.Runs.{imports, stride, unit}
use Rattle.pef_plan.specs.Runs.Tables.{Agrees, number_in, place_of}
use Rattle.pef_plan.specs.Windows.Windows.{WindowOf, Windowed}

-- at one place, rows have the extension after each end of a run with up to so many units, the shortest run
-- first, at a pair of classes
abbrev pub EndRows : Labels → Run → ℕ → List Fixup → ℕ → ℕ → ℕ → ℕ → ℕ → List (List ℕ) → Type 0
EndRows l r n fixups p m c d i [] = (n ≡ 0) ⊎ ((left : List Fixup) → fixups ≡ unit r p m ++ left → ⊥)
EndRows l r n fixups p m c d i (q ∷ qs) =
    (less : ℕ) × (left : List Fixup) × (n ≡ suc less) × (fixups ≡ unit r p m ++ left) × (slice_index q i ≡ extension l left (p + stride r) c d)
    × EndRows l r less left (p + stride r) (m + imports r) c d i qs

-- the rows of a run that continues after its first unit, and the row after that unit
abbrev pub OnWith : Labels → Run → ℕ → List Fixup → ℕ → ℕ → List (List ℕ) → ℕ → ℕ → ℕ → Type 0
OnWith l r n fixups p m rows c d i = (rest left : List Fixup) → fixups ≡ unit r p m ++ rest → rest ≡ unit r (p + stride r) (m + imports r) ++ left → EndRows l r n rest (p + stride r) (m + imports r) c d i rows

abbrev pub RowIs : Labels → Run → List Fixup → ℕ → ℕ → List ℕ → ℕ → ℕ → ℕ → Type 0
RowIs l r fixups p m row c d i = (rest : List Fixup) → fixups ≡ unit r p m ++ rest → slice_index row i ≡ extension l rest (p + stride r) c d

-- whether fixups begin with a unit of a run
abbrev pub Begins : Run → ℕ → ℕ → List Fixup → Bool → Type 0
Begins r p m fixups true = (left : List Fixup) × (fixups ≡ unit r p m ++ left)
Begins r p m fixups false = (left : List Fixup) → fixups ≡ unit r p m ++ left → ⊥

-- whether a run, if there is one, continues after its first unit; or no unit begins
abbrev pub GoesOnMaybe : Option Run → List Fixup → ℕ → ℕ → Option Bool → Type 0
GoesOnMaybe None fixups p m on = Unit {0}
GoesOnMaybe (Some r) fixups p m None = (left : List Fixup) → fixups ≡ unit r p m ++ left → ⊥
GoesOnMaybe (Some r) fixups p m (Some on) = (rest : List Fixup) × (fixups ≡ unit r p m ++ rest) × Begins r (p + stride r) (m + imports r) rest on

-- the same for a run of pairs, from the fixups after the first and the second section
abbrev pub GoesOnAfter : Run → List Fixup → ℕ → ℕ → Option Bool → Type 0
GoesOnAfter r others p k None = (left : List Fixup) → others ≡ added (p + 4) (Section k) ∷ left → ⊥
GoesOnAfter r others p k (Some on) = (rest : List Fixup) × (others ≡ added (p + 4) (Section k) ∷ rest) × Begins r (p + stride r) 0 rest on

-- a window was moved to fixups: if it had the rows of a run that continues after its first unit, it now has
-- those of the whole run
pub record Brought (r : Run) (count limit : ℕ) (fixups : List Fixup) (p m : ℕ) (rows : List (List ℕ)) (row : List ℕ) (w : Windowed) : Type 0 where
  pub now : List (List ℕ)
  pub is : WindowOf count limit now w
  pub ends : (l : Labels) (c d i : ℕ) → OnWith l r limit fixups p m rows c d i → RowIs l r fixups p m row c d i → EndRows l r limit fixups p m c d i now

-- the same, if there is a run
abbrev pub BroughtMaybe : Option Run → ℕ → ℕ → List Fixup → ℕ → ℕ → List (List ℕ) → List ℕ → Windowed → Type 0
BroughtMaybe None count limit fixups p m rows row w = (now : List (List ℕ)) × WindowOf count limit now w
BroughtMaybe (Some r) count limit fixups p m rows row w = Brought r count limit fixups p m rows row w

-- the sections of two fixups
abbrev pub second_of : ℕ → Base → Option (ℕ × ℕ)
second_of j (Section k) = Some (j, k)
second_of j (Import i) = None

abbrev pub sections_of : Base → List Fixup → Option (ℕ × ℕ)
sections_of (Section j) [] = None
sections_of (Section j) (g ∷ rest) = second_of j g.base
sections_of (Import i) rest = None

abbrev pub pairs_run : Option (ℕ × ℕ) → Option Run
pairs_run None = None
pairs_run (Some s) = Some (Pairs s.0 s.1)

abbrev pub far_pairs_run : Option (ℕ × ℕ) → Option Run
far_pairs_run None = None
far_pairs_run (Some s) = Some (SpacedPairs s.0 s.1)

-- the rows of the runs that begin at fixups, by the fixups' bases. Rows have a number for each class of one
-- register if the other one holds the section, or one number for the classes of two sections, or a number for
-- each pair of classes
abbrev pub WordsOfCAt : Labels → ℕ → List Fixup → List (List ℕ) → Base → Type 0
WordsOfCAt l p fixups rows (Section k) = (c d : ℕ) → c ≡ class_of l.registers k → d < classes l → EndRows l (WordsOfD k) 512 fixups p 0 c d d rows
WordsOfCAt l p fixups rows (Import i) = Unit {0}

-- here with up to so many words
abbrev pub WordsOfDAt : ℕ → Labels → ℕ → List Fixup → List (List ℕ) → Base → Type 0
WordsOfDAt n l p fixups rows (Section k) = (c d : ℕ) → c < classes l → d ≡ class_of l.registers k → EndRows l (WordsOfD k) n fixups p 0 c d c rows
WordsOfDAt n l p fixups rows (Import i) = Unit {0}

abbrev pub ImportsAt : Labels → ℕ → List Fixup → List (List ℕ) → Base → Type 0
ImportsAt l p fixups rows (Section k) = Unit {0}
ImportsAt l p fixups rows (Import i) = (c d : ℕ) → c < classes l → d < classes l → EndRows l Imports 512 fixups p i c d (place_of (classes l) c d) rows

abbrev pub SpacedAt : Labels → ℕ → List Fixup → List (List ℕ) → Base → Type 0
SpacedAt l p fixups rows (Section k) = (c d : ℕ) → c < classes l → d ≡ class_of l.registers k → EndRows l (Spaced k) 512 fixups p 0 c d c rows
SpacedAt l p fixups rows (Import i) = Unit {0}

abbrev pub PairsAt : Labels → ℕ → List Fixup → List (List ℕ) → Base → Base → Type 0
PairsAt l p fixups rows (Section j) (Section k) = (c d : ℕ) → c ≡ class_of l.registers j → d ≡ class_of l.registers k → EndRows l (Pairs j k) 512 fixups p 0 c d 0 rows
PairsAt l p fixups rows (Section j) (Import i) = Unit {0}
PairsAt l p fixups rows (Import i) b = Unit {0}

abbrev pub FarPairsAt : Labels → ℕ → List Fixup → List (List ℕ) → Base → Base → Type 0
FarPairsAt l p fixups rows (Section j) (Section k) = (c d : ℕ) → c ≡ class_of l.registers j → d ≡ class_of l.registers k → EndRows l (SpacedPairs j k) 512 fixups p 0 c d 0 rows
FarPairsAt l p fixups rows (Section j) (Import i) = Unit {0}
FarPairsAt l p fixups rows (Import i) b = Unit {0}

abbrev pub WordsOfCKept : Labels → List Fixup → List (List ℕ) → Type 0
WordsOfCKept l [] rows = Unit {0}
WordsOfCKept l (f ∷ rest) rows = WordsOfCAt l f.offset (f ∷ rest) rows f.base

abbrev pub WordsOfDKept : ℕ → Labels → List Fixup → List (List ℕ) → Type 0
WordsOfDKept n l [] rows = Unit {0}
WordsOfDKept n l (f ∷ rest) rows = WordsOfDAt n l f.offset (f ∷ rest) rows f.base

abbrev pub ImportsKept : Labels → List Fixup → List (List ℕ) → Type 0
ImportsKept l [] rows = Unit {0}
ImportsKept l (f ∷ rest) rows = ImportsAt l f.offset (f ∷ rest) rows f.base

abbrev pub SpacedKept : Labels → List Fixup → List (List ℕ) → Type 0
SpacedKept l [] rows = Unit {0}
SpacedKept l (f ∷ rest) rows = SpacedAt l f.offset (f ∷ rest) rows f.base

abbrev pub PairsKept : Labels → List Fixup → List (List ℕ) → Type 0
PairsKept l [] rows = Unit {0}
PairsKept l (f ∷ []) rows = Unit {0}
PairsKept l (f ∷ g ∷ rest) rows = PairsAt l f.offset (f ∷ g ∷ rest) rows f.base g.base

abbrev pub FarPairsKept : Labels → List Fixup → List (List ℕ) → Type 0
FarPairsKept l [] rows = Unit {0}
FarPairsKept l (f ∷ []) rows = Unit {0}
FarPairsKept l (f ∷ g ∷ rest) rows = FarPairsAt l f.offset (f ∷ g ∷ rest) rows f.base g.base

-- the extension after the first fixup, and the extension one word further on with register D in the class of
-- its section
abbrev pub NearKept : Labels → List Fixup → List ℕ → Type 0
NearKept l [] row = Unit {0}
NearKept l (f ∷ rest) row = (c d : ℕ) → c < classes l → d < classes l → slice_index row (place_of (classes l) c d) ≡ extension l rest (f.offset + 4) c d

-- the numbers of such a row are small, for a number of classes
abbrev pub NearSmall : ℕ → List Fixup → List ℕ → Type 0
NearSmall count fixups row = (c d : ℕ) → c < count → d < count → number_in count row c d ≤ 4 * (length fixups - 1) + 2

-- a column has the extension right after the first fixup with register D in a section's class
abbrev pub ColumnAt : Labels → Fixup → List Fixup → List ℕ → ℕ → Type 0
ColumnAt l f rest column k = (c d : ℕ) → c < classes l → d ≡ class_of l.registers k → slice_index column c ≡ extension l rest (f.offset + 4) c d

abbrev pub FarAt : Labels → ℕ → List Fixup → List ℕ → Base → Type 0
FarAt l p rest row (Section k) = (c d : ℕ) → c < classes l → d ≡ class_of l.registers k → slice_index row c ≡ extension l rest (p + 8) c d
FarAt l p rest row (Import i) = Unit {0}

abbrev pub FarKept : Labels → List Fixup → List ℕ → Type 0
FarKept l [] row = Unit {0}
FarKept l (f ∷ rest) row = FarAt l f.offset rest row f.base

-- the extension so many bytes after the second of two fixups with sections, in their classes
abbrev pub PairAfter : Labels → ℕ → List Fixup → Option (ℕ × ℕ) → ℕ → Type 0
PairAfter l w [] s v = Unit {0}
PairAfter l w (g ∷ rest) None v = Unit {0}
PairAfter l w (g ∷ rest) (Some s) v = v ≡ extension l rest (g.offset + w) (class_of l.registers s.0) (class_of l.registers s.1)

-- a window with the rows of some runs, for labels with the property P
pub record Holding (P : Labels → Type 0) (width limit : ℕ) (Kept : Labels → List (List ℕ) → Type 0) (w : Windowed) : Type 0 where
  pub rows : List (List ℕ)
  pub is : WindowOf width limit rows w
  pub kept : (l : Labels) → P l → Kept l rows

abbrev pub rest_of : List Fixup → List Fixup
rest_of [] = []
rest_of (f ∷ rest) = rest

-- two alternating windows: one at some fixups, and one at those after the first
pub record HoldingTwo (P : Labels → Type 0) (Kept : Labels → List Fixup → List (List ℕ) → Type 0) (fixups : List Fixup) (w : Turns) : Type 0 where
  pub here : Holding P 1 512 (λ l rows. Kept l fixups rows) w.here
  pub next : Holding P 1 512 (λ l rows. Kept l (rest_of fixups) rows) w.next

-- the windows of runs that begin only at a section
pub record WordEnds (P : Labels → Type 0) (count : ℕ) (fixups : List Fixup) (w : WordWindows) : Type 0 where
  pub in_c : Holding P count 512 (λ l rows. WordsOfCKept l fixups rows) w.in_c
  pub in_d : Holding P count 512 (λ l rows. WordsOfDKept 512 l fixups rows) w.in_d
  pub skips : Holding P count 63 (λ l rows. WordsOfDKept 63 l fixups rows) w.skips
  pub spaced : Holding P count 512 (λ l rows. SpacedKept l fixups rows) w.spaced

-- all windows at some fixups, with count classes
pub record EndsOf (P : Labels → Type 0) (count : ℕ) (fixups : List Fixup) (e : RunEnds) : Type 0 where
  pub words : WordEnds P count fixups e.words
  pub imports : Holding P (count * count) 512 (λ l rows. ImportsKept l fixups rows) e.imports
  pub pairs : HoldingTwo P PairsKept fixups e.pairs
  pub far_pairs : HoldingTwo P FarPairsKept fixups e.far_pairs
  pub near_len : length e.near.items ≡ count * count
  pub column_len : length e.column.items ≡ count
  pub far_len : length e.far.items ≡ count
  pub near : (l : Labels) → P l → NearKept l fixups e.near.items
  pub near_small : NearSmall count fixups e.near.items
  pub far : (l : Labels) → P l → FarKept l fixups e.far.items

-- the windows at some fixups, for labels that the tables agree with
abbrev pub EndsAt : SolvedSuffix → List Fixup → List Fixup → RunEnds → Type 0
EndsAt k others fixups e = EndsOf (λ l. Agrees l k others) (length k.registers.now + 1) fixups e

-- the window that keeps the ends of a run, and the place of a pair of classes in its rows
abbrev pub window_of : RunEnds → Run → Windowed
window_of e (WordsOfC k) = e.words.in_c
window_of e (WordsOfD k) = e.words.in_d
window_of e (Spaced k) = e.words.spaced
window_of e (Pairs j k) = e.pairs.here
window_of e (SpacedPairs j k) = e.far_pairs.here
window_of e Imports = e.imports
window_of e (Skip words k) = e.words.skips

abbrev pub place_in : ℕ → Run → ℕ → ℕ → ℕ
place_in count (WordsOfC k) c d = d
place_in count (WordsOfD k) c d = c
place_in count (Spaced k) c d = c
place_in count (Pairs j k) c d = 0
place_in count (SpacedPairs j k) c d = 0
place_in count Imports c d = place_of count c d
place_in count (Skip words k) c d = c
