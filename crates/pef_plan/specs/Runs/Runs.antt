-- The runs of additions that one instruction makes.
use Rattle.std.specs.Prelude.{◌≡◌, ◌≤◌, ◌<◌, ℕ, zero, suc, ◌+◌, ◌*◌, List, [], ◌∷◌, ◌++◌, length}
use Rattle.pef_reloc.specs.declared.fixup.Base.{Base}
use Rattle.pef_reloc.specs.declared.fixup.Base.TheVariants.{Section, Import}
use Rattle.pef_reloc.specs.declared.fixup.Fixup.{Fixup}
use Rattle.pef_reloc.specs.declared.instr.Instr.{Instr}
use Rattle.pef_reloc.specs.declared.instr.Instr.TheVariants.{BySectDWithSkip, BySectC, BySectD, TVector12, TVector8, VTable8, ImportRun}
use Rattle.pef_reloc.specs.Steps.{added}
use Rattle.pef_cert.specs.Labels.{Labels, class_of}
use Rattle.pef_cert.specs.Extension.{extension}
use Rattle.pef_plan.specs.declared.runs.state.PlanState.{PlanState}
use Rattle.pef_plan.specs.declared.runs.state.OpenState.{OpenState}
use Rattle.pef_plan.specs.declared.runs.run.Run.{Run}
use Rattle.pef_plan.specs.declared.runs.run.Run.TheVariants.{WordsOfC, WordsOfD, Spaced, Pairs, SpacedPairs, Imports, Skip}

-- the fixups that one unit of a run adds, at a position and with the next import
abbrev pub unit : Run → ℕ → ℕ → List Fixup
unit (WordsOfC k) p m = added p (Section k) ∷ []
unit (WordsOfD k) p m = added p (Section k) ∷ []
unit (Spaced k) p m = added p (Section k) ∷ []
unit (Pairs j k) p m = added p (Section j) ∷ added (p + 4) (Section k) ∷ []
unit (SpacedPairs j k) p m = added p (Section j) ∷ added (p + 4) (Section k) ∷ []
unit Imports p m = added p (Import m) ∷ []
unit (Skip words k) p m = added p (Section k) ∷ []

-- the bytes and the imports that each unit advances, and the maximum number of units
abbrev pub stride : Run → ℕ
stride (WordsOfC k) = 4
stride (WordsOfD k) = 4
stride (Spaced k) = 8
stride (Pairs j k) = 8
stride (SpacedPairs j k) = 12
stride Imports = 4
stride (Skip words k) = 4

abbrev pub imports : Run → ℕ
imports Imports = 1
imports _ = 0

abbrev pub limit : Run → ℕ
limit (Skip words k) = 63
limit _ = 512

-- the instruction that adds so many units
abbrev pub run_instr : Run → ℕ → Instr
run_instr (WordsOfC k) n = BySectC n
run_instr (WordsOfD k) n = BySectD n
run_instr (Spaced k) n = VTable8 n
run_instr (Pairs j k) n = TVector8 n
run_instr (SpacedPairs j k) n = TVector12 n
run_instr Imports n = ImportRun n
run_instr (Skip words k) n = BySectDWithSkip words n

-- the fixups of so many consecutive units
unfoldable pub units : Run → ℕ → ℕ → ℕ → List Fixup
units r zero p m = []
units r (suc n) p m = unit r p m ++ units r n (p + stride r) (m + imports r)

-- a register holds a section of the list
abbrev pub Holds : List ℕ → ℕ → ℕ → Type 0
Holds registers k class = (class_of registers k ≡ class) × (class < length registers)

-- the registers at a place allow a run to begin at a position
abbrev pub RunOf : List ℕ → Run → PlanState → ℕ → Type 0
RunOf registers (WordsOfC k) p from = Holds registers k p.c × (from ≡ p.position)
RunOf registers (WordsOfD k) p from = Holds registers k p.d × (from ≡ p.position)
RunOf registers (Spaced k) p from = Holds registers k p.d × (from ≡ p.position)
RunOf registers (Pairs j k) p from = (Holds registers j p.c × Holds registers k p.d) × (from ≡ p.position)
RunOf registers (SpacedPairs j k) p from = (Holds registers j p.c × Holds registers k p.d) × (from ≡ p.position)
RunOf registers Imports p from = Unit {0} × (from ≡ p.position)
RunOf registers (Skip words k) p from = (Holds registers k p.d × (words ≤ 255)) × (from ≡ p.position + 4 * words)

-- a value is at most 1 plus the extension after each end of a run with up to so many units
abbrev pub EndsFrom : Labels → Run → ℕ → ℕ → List Fixup → ℕ → ℕ → ℕ → ℕ → Type 0
EndsFrom l r value n fixups p m c d = (j : ℕ) (left : List Fixup) → j < n → fixups ≡ units r (suc j) p m ++ left → value ≤ 1 + extension l left (p + stride r * suc j) c d

abbrev pub Ends : Labels → Run → OpenState → ℕ → ℕ → Type 0
Ends l r h from value = EndsFrom l r value (limit r) h.place.left.now from h.place.import_index h.place.c h.place.d

-- a value is 1 plus the extension after one of the ends
pub record EndAmong (l : Labels) (r : Run) (n : ℕ) (fixups : List Fixup) (p m c d value : ℕ) : Type 0 where
  pub more : ℕ
  pub left : List Fixup
  pub under : more < n
  pub parts : fixups ≡ units r (suc more) p m ++ left
  pub is : value ≡ 1 + extension l left (p + stride r * suc more) c d

abbrev pub EndOf : Labels → Run → OpenState → ℕ → ℕ → Type 0
EndOf l r h from value = EndAmong l r (limit r) h.place.left.now from h.place.import_index h.place.c h.place.d value

-- the first of some fixups has a base
abbrev pub NextBase : Base → List Fixup → Type 0
NextBase b [] = ⊥
NextBase b (f ∷ rest) = f.base ≡ b

-- a run can begin at fixups; the arguments are the next import, the base of the first fixup, and the others
abbrev pub RunBegins : Run → ℕ → Base → List Fixup → Type 0
RunBegins (WordsOfC k) m b others = b ≡ Section k
RunBegins (WordsOfD k) m b others = b ≡ Section k
RunBegins (Spaced k) m b others = b ≡ Section k
RunBegins (Pairs j k) m b others = (b ≡ Section j) × NextBase (Section k) others
RunBegins (SpacedPairs j k) m b others = (b ≡ Section j) × NextBase (Section k) others
RunBegins Imports m b others = b ≡ Import m
RunBegins (Skip words k) m b others = b ≡ Section k
