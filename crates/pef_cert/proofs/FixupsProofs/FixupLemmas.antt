-- A fixup adds a base at a position exactly if it is that addition.
use Rattle.std.proofs.Common.{◌≡◌, ℕ, inl, inr, true, false, ◌==◌, refl, ap, sym, ◌∙◌, eq-eqb}
use Rattle.std.proofs.lemmas.Bool.Decides.{eqb_tells}
use Rattle.pef_reloc.specs.declared.fixup.Base.{Base}
use Rattle.pef_reloc.specs.declared.fixup.Base.TheVariants.{Section, Import}
use Rattle.pef_reloc.specs.declared.fixup.Fixup.{Fixup}
use Rattle.pef_reloc.specs.Steps.{added}
use Rattle.std.proofs.lemmas.Bool.{and_parts}
use Rattle.pef_cert.specs.Fixups.Additions.{is_added, same_base}

-- a base equals itself, and one that tests equal to it is it
same_base-refl : (b : Base) → same_base b b ≡ true
same_base-refl (Section k) = eq-eqb k k refl
same_base-refl (Import k) = eq-eqb k k refl

same_base-is : (a b : Base) → same_base a b ≡ true → a ≡ b
same_base-is (Section j) (Section k) e =
    elim (eqb_tells j k) [
      | inl same ↦ ap Section same.1
      | inr other ↦ (let wrong : true ≡ false = sym e ∙ other.0 in absurd (cc))
    ]
same_base-is (Section j) (Import k) e = absurd (cc)
same_base-is (Import j) (Section k) e = absurd (cc)
same_base-is (Import j) (Import k) e =
    elim (eqb_tells j k) [
      | inl same ↦ ap Import same.1
      | inr other ↦ (let wrong : true ≡ false = sym e ∙ other.0 in absurd (cc))
    ]

pub is_added-refl : (p : ℕ) (b : Base) (f : Fixup) → f ≡ added p b → is_added p b f ≡ true
is_added-refl p b f is = rw (is, eq-eqb p p refl, same_base-refl b) refl

pub is_added-is : (p : ℕ) (b : Base) (f : Fixup) → is_added p b f ≡ true → f ≡ added p b
is_added-is p b f e =
    let both = and_parts (f.offset == p) (same_base f.base b) e in
    let base = same_base-is f.base b both.1 in
    elim (eqb_tells f.offset p) [
      | inl same ↦ (λ i. record { offset = same.1 i; base = base i })
      | inr other ↦ (let wrong : true ≡ false = sym both.0 ∙ other.0 in absurd (cc))
    ]
