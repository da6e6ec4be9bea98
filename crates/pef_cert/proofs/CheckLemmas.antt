-- A check returns true exactly if a certificate is valid.
use Rattle.std.proofs.Common.{◌≡◌, ℕ, ◌+◌, ◌-◌, ◌*◌, ◌<◌, ◌≤◌, Bool, true, false, List, [], ◌∷◌, length, ap, sym, ◌∙◌, subst, arith}
use Rattle.std.specs.List.{AllByRecursion}
use Rattle.std.proofs.Math.Nat.{mul-le-mul_left}
use Rattle.pef_reloc.specs.declared.fixup.Fixup.{Fixup}
use Rattle.pef_reloc.specs.declared.instr.Instr.{Instr}
use Rattle.pef_reloc.specs.Fixups.{fixups_fit}
use Rattle.pef_reloc.specs.Instrs.{program_length}
use Rattle.pef_reloc.specs.Limits.{most_sections}
use Rattle.pef_reloc.specs.Steps.{Least, start}
use Rattle.pef_reloc.proofs.Laws.{used_section-below}
use Rattle.pef_labels.proofs.Laws.{rows-wide}
use Rattle.pef_cert.specs.declared.claim.Claim.{Claim}
use Rattle.pef_cert.specs.Extension.{extension_at}
use Rattle.pef_cert.specs.Labels.{Labels, class_of, classes}
use Rattle.pef_cert.specs.Certified.{Certified}
use Rattle.pef_cert.specs.Valid.{RegistersOf, Valid}
use Rattle.pef_cert.specs.Kept.Claims.{Holds, IsClaim, RowsFit, Shaped, labels_claimed}
use Rattle.pef_labels.specs.Rows.{RowsFull, rows_from}
use Rattle.pef_cert.specs.Fixups.Answers.{Says}
use Rattle.pef_cert.proofs.ClaimLemmas.{few_rising}
use Rattle.pef_cert.proofs.ExtensionLemmas.{extension-end}
use Rattle.pef_cert.proofs.LabelFacts.{extension-label}
use Rattle.pef_cert.proofs.Soundness.{valid-least}

-- the extension at the start is at most 2 more than the label at the first fixup
pub start-near : (l : Labels) (fixups : List Fixup) → extension_at l fixups start ≤ 2 + l.label (length fixups) (class_of l.registers 0) (class_of l.registers 1)
start-near l [] = let none = extension-end l 0 (class_of l.registers 0) (class_of l.registers 1) in omega (arith, none)
start-near l (f ∷ rest) = extension-label l f rest 0 (class_of l.registers 0) (class_of l.registers 1)

-- a program that is too long for that
pub too-long : (claim : Claim) (program : List Instr) (label c d n : ℕ) → label ≡ (labels_claimed claim).label (length claim.fixups.now - 0) c d → c ≡ class_of claim.registers.now 0 → d ≡ class_of claim.registers.now 1 → n ≡ program_length program → 2 + label < n → Says false (Holds claim program)
too-long claim program label c d n is c_is d_is length_is over = (
  λ yes. absurd (cc),
  λ holds.
      let l = labels_claimed claim in
      let near = start-near l claim.fixups.now in
      let all : length claim.fixups.now - 0 ≡ length claim.fixups.now = omega arith in
      let there : label ≡ l.label (length claim.fixups.now) (class_of claim.registers.now 0) (class_of claim.registers.now 1) =
      is ∙ (ap (λ m. l.label m c d) all ∙ (ap (λ x. l.label (length claim.fixups.now) x d) c_is ∙ ap (λ x. l.label (length claim.fixups.now) (class_of claim.registers.now 0) x) d_is)) in
      absurd (omega (arith, near, there, length_is, over, holds.length_is)),
)

-- registers are few
pub registers-few : (fixups : List Fixup) (registers : List ℕ) → fixups_fit fixups ≡ true → RegistersOf fixups registers → length registers ≤ most_sections
registers-few fixups registers fit right =
    few_rising most_sections registers right.rising (λ k among. used_section-below fixups k fit (sym (right.used k) ∙ among))

both_widths : (w v : ℕ) (rows : List (List ℕ)) → 0 < length rows → AllByRecursion (λ (r : List ℕ). length r ≡ w) rows → AllByRecursion (λ (r : List ℕ). length r ≡ v) rows → w ≡ v
both_widths w v [] some one two = absurd (omega (arith, some))
both_widths w v (r ∷ rows) some one two = sym one.0 ∙ two.0

-- rows that are too many, too few or of another width
pub not-fit : (w n classes count : ℕ) (ends values : List ℕ) (rows : List (List ℕ)) → rows ≡ rows_from w 0 ends values → RowsFull w ends values → count ≡ length rows → (w ≡ classes * classes → count ≡ n + 1 → ⊥) → RowsFit n classes rows → ⊥
not-fit w n classes count ends values rows is full count_is never fit =
    let wide = subst (λ (rs : List (List ℕ)). AllByRecursion (λ (r : List ℕ). length r ≡ w) rs) (sym is) (rows-wide w ends values full) in
    let sum = fit.count_is in
    never (both_widths w (classes * classes) rows (omega (arith, sum)) wide fit.row) (count_is ∙ sum)

-- a claim that holds is a valid certificate, and the other way round
claim_valid : (claim : Claim) (section : ℕ) (program : List Instr) → Shaped claim → Holds claim program → Valid claim.fixups.now (record { section = section; program = program; registers = claim.registers.now; labels = rows_from claim.kept.width 0 claim.kept.ends.now claim.kept.values.now })
claim_valid claim section program shaped holds = record {
  registers = shaped.registers;
  rows = shaped.rows;
  row = subst (λ (w : ℕ). AllByRecursion (λ (r : List ℕ). length r ≡ w) (rows_from claim.kept.width 0 claim.kept.ends.now claim.kept.values.now)) shaped.width (rows-wide claim.kept.width claim.kept.ends.now claim.kept.values.now shaped.full);
  feasible = holds.feasible;
  flat = holds.flat;
  makes = holds.makes;
  length_is = holds.length_is;
}

valid_claim : (claim : Claim) (section : ℕ) (program : List Instr) → Valid claim.fixups.now (record { section = section; program = program; registers = claim.registers.now; labels = rows_from claim.kept.width 0 claim.kept.ends.now claim.kept.values.now }) → Holds claim program
valid_claim claim section program valid = record {
  feasible = valid.feasible;
  flat = valid.flat;
  makes = valid.makes;
  length_is = valid.length_is;
}

-- the facts of a claim's certificate
same_certified : (claim : Claim) (fixups : List Fixup) (program : List Instr) (registers : List ℕ) (rows : List (List ℕ)) (c : Certified) → IsClaim fixups registers rows claim → registers ≡ c.registers → rows ≡ c.labels → program ≡ c.program
    → (P : List Fixup → Certified → Type 0) → P claim.fixups.now (record { section = c.section; program = program; registers = claim.registers.now; labels = rows_from claim.kept.width 0 claim.kept.ends.now claim.kept.values.now }) → P fixups c
same_certified claim fixups program registers rows c is registers_are rows_are program_is P p =
    subst (λ (fs : List Fixup). P fs c) is.fixups_are
    (subst (λ (rs : List (List ℕ)). P claim.fixups.now (record { section = c.section; program = c.program; registers = c.registers; labels = rs })) (is.rows_are ∙ rows_are)
    (subst (λ (rs : List ℕ). P claim.fixups.now (record { section = c.section; program = c.program; registers = rs; labels = rows_from claim.kept.width 0 claim.kept.ends.now claim.kept.values.now })) (is.registers_are ∙ registers_are)
    (subst (λ (xs : List Instr). P claim.fixups.now (record { section = c.section; program = xs; registers = claim.registers.now; labels = rows_from claim.kept.width 0 claim.kept.ends.now claim.kept.values.now })) program_is p)))

-- the result of a check
pub check-says : (claim : Claim) (fixups : List Fixup) (program : List Instr) (registers : List ℕ) (rows : List (List ℕ)) (c : Certified) (answer : Bool) → Shaped claim → IsClaim fixups registers rows claim → registers ≡ c.registers → rows ≡ c.labels → program ≡ c.program → Says answer (Holds claim program) → Says answer (Valid fixups c)
check-says claim fixups program registers rows c answer shaped is registers_are rows_are program_is says =
    same_certified claim fixups program registers rows c is registers_are rows_are program_is (λ fs x. Says answer (Valid fs x))
    (λ yes. claim_valid claim c.section program shaped (says.0 yes), λ valid. says.1 (valid_claim claim c.section program valid))

pub check-registers : (fixups : List Fixup) (registers : List ℕ) (c : Certified) → registers ≡ c.registers → Says false (RegistersOf fixups registers) → Says false (Valid fixups c)
check-registers fixups registers c are says = (λ yes. absurd (cc), λ valid. says.1 (subst (λ (rs : List ℕ). RegistersOf fixups rs) (sym are) valid.registers))

pub check-rows : (fixups : List Fixup) (registers : List ℕ) (rows : List (List ℕ)) (c : Certified) → registers ≡ c.registers → rows ≡ c.labels → (RowsFit (length fixups) (length registers + 1) rows → ⊥) → Says false (Valid fixups c)
check-rows fixups registers rows c registers_are rows_are never = (
  λ yes. absurd (cc),
  λ valid. absurd (never
      (subst (λ (rs : List ℕ). RowsFit (length fixups) (length rs + 1) rows) (sym registers_are)
      (subst (λ (xs : List (List ℕ)). RowsFit (length fixups) (length c.registers + 1) xs) (sym rows_are) (record { count_is = valid.rows; row = valid.row })))),
)

-- and its consequence
pub check-least : (fixups : List Fixup) (c : Certified) (answer : Bool) → fixups_fit fixups ≡ true → Says answer (Valid fixups c) → answer ≡ true → Least fixups c.program
check-least fixups c answer fit says e = valid-least fixups c fit (says.0 e)

-- a few classes have few pairs
pub small-square : (r : ℕ) → r ≤ most_sections + 1 → r * r ≤ (most_sections + 1) * (most_sections + 1)
small-square r few = let low = mul-le-mul_left r few in omega (arith, low, few)
