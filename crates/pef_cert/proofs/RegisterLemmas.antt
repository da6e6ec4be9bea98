-- The tests of registers hold exactly if these are the sections that the fixups use, rising.
use Rattle.std.proofs.Common.{◌≡◌, ℕ, ◌<◌, inl, inr, Bool, true, false, ◌||◌, ◌==◌, List, [], ◌∷◌, length, refl, ap, sym, ◌∙◌, arith, eq-eqb}
use Rattle.std.specs.List.{AllByRecursion}
use Rattle.std.proofs.lemmas.Bool.{ltb-true, lt-ltb, or_right, or_left, or_cases, and_from, and_parts}
use Rattle.std.proofs.lemmas.Bool.Decides.{eqb_tells}
use Rattle.pef_reloc.specs.declared.fixup.Base.{Base}
use Rattle.pef_reloc.specs.declared.fixup.Base.TheVariants.{Section, Import}
use Rattle.pef_reloc.specs.declared.fixup.Fixup.{Fixup}
use Rattle.pef_reloc.specs.Deliveries.{all_meet, is_section, uses_section}
use Rattle.pef_cert.specs.Labels.{class_of}
use Rattle.pef_cert.specs.Valid.{RegistersOf, is_among, rises}
use Rattle.pef_cert.specs.Kept.Registers.{all_registered, is_registered}
use Rattle.pef_cert.specs.Fixups.Answers.{Says}
use Rattle.pef_cert.proofs.ClassLemmas.{RegisteredBase, all_registered as each_registered, class_of-other}

-- a test holds for each element of a list
meets_each : (test : ℕ → Bool) (ks : List ℕ) → ((k : ℕ) → is_among ks k ≡ true → test k ≡ true) → all_meet test ks ≡ true
meets_each test [] each = refl
meets_each test (k ∷ ks) each =
    and_from (test k) (all_meet test ks) (each k (or_left (k == k) (is_among ks k) (eq-eqb k k refl)))
    (meets_each test ks (λ j among. each j (or_right (k == j) (is_among ks j) among)))

each_meets : (test : ℕ → Bool) (ks : List ℕ) (k : ℕ) → all_meet test ks ≡ true → is_among ks k ≡ true → test k ≡ true
each_meets test [] k all among = absurd (cc)
each_meets test (j ∷ ks) k all among =
    let both = and_parts (test j) (all_meet test ks) all in
    elim (eqb_tells j k) [
      | inl same ↦ ap test (sym same.1) ∙ both.0
      | inr other ↦ each_meets test ks k both.1 (sym (ap (λ b. b || is_among ks k) other.0) ∙ among)
    ]

-- a register's class is below the number of registers
among_of : (rs : List ℕ) (k : ℕ) (b : Bool) → is_among rs k ≡ b → class_of rs k < length rs → is_among rs k ≡ true
among_of rs k true e under = e
among_of rs k false e under = let last = class_of-other rs k e in absurd (omega (arith, under, last))

registered_among : (rs : List ℕ) (k : ℕ) (b : Base) → is_registered rs b ≡ true → is_section k b ≡ true → is_among rs k ≡ true
registered_among rs k (Section j) e is =
    elim (eqb_tells j k) [
      | inl same ↦ ap (is_among rs) (sym same.1) ∙ among_of rs j (is_among rs j) refl (ltb-true (class_of rs j) (length rs) e)
      | inr other ↦ (let wrong : true ≡ false = sym is ∙ other.0 in absurd (cc))
    ]
registered_among rs k (Import j) e is = absurd (cc)

used_among : (rs : List ℕ) (fixups : List Fixup) (k : ℕ) → all_registered rs fixups ≡ true → uses_section fixups k ≡ true → is_among rs k ≡ true
used_among rs [] k all used = absurd (cc)
used_among rs (f ∷ fixups) k all used =
    let both = and_parts (is_registered rs f.base) (all_registered rs fixups) all in
    elim (or_cases (is_section k f.base) (uses_section fixups k) used) [
      | inl here ↦ registered_among rs k f.base both.0 here
      | inr later ↦ used_among rs fixups k both.1 later
    ]

same_bools : (a b : Bool) → (a ≡ true → b ≡ true) → (b ≡ true → a ≡ true) → a ≡ b
same_bools true b p q = sym (p refl)
same_bools false true p q = q refl
same_bools false false p q = refl

base_registered : (rs : List ℕ) (b : Base) → RegisteredBase rs b → is_registered rs b ≡ true
base_registered rs (Section k) under = lt-ltb (class_of rs k) (length rs) under
base_registered rs (Import k) under = refl

bases_registered : (rs : List ℕ) (fixups : List Fixup) → AllByRecursion (λ f. RegisteredBase rs f.base) fixups → all_registered rs fixups ≡ true
bases_registered rs [] each = refl
bases_registered rs (f ∷ fixups) each = and_from (is_registered rs f.base) (all_registered rs fixups) (base_registered rs f.base each.0) (bases_registered rs fixups each.1)

-- registers that don't rise, or one of which isn't used
pub not_rising : (fixups : List Fixup) (rs : List ℕ) → false ≡ rises rs → Says false (RegistersOf fixups rs)
not_rising fixups rs e = (λ yes. absurd (cc), λ right. e ∙ right.rising)

pub not_used : (fixups : List Fixup) (rs : List ℕ) → false ≡ all_meet (uses_section fixups) rs → Says false (RegistersOf fixups rs)
not_used fixups rs e = (λ yes. absurd (cc), λ right. e ∙ meets_each (uses_section fixups) rs (λ k among. sym (right.used k) ∙ among))

-- registers that rise and are used
pub registers-say : (fixups : List Fixup) (rs : List ℕ) (answer : Bool) → true ≡ rises rs → true ≡ all_meet (uses_section fixups) rs → answer ≡ all_registered rs fixups → Says answer (RegistersOf fixups rs)
registers-say fixups rs answer rise used e = (
  λ yes. record {
    rising = sym rise;
    used = λ k. same_bools (is_among rs k) (uses_section fixups k) (each_meets (uses_section fixups) rs k (sym used)) (used_among rs fixups k (sym e ∙ yes));
  },
  λ right. e ∙ bases_registered rs fixups (each_registered fixups rs right),
)
