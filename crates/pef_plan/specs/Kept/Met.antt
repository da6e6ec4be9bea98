-- The tests that a value has to pass at a fixup, by the register that holds the fixup's section.
use Rattle.std.specs.Prelude.{◌≡◌, ℕ, true, ◌∷◌}
use Rattle.pef_reloc.specs.declared.fixup.Base.TheVariants.{Section}
use Rattle.pef_cert.specs.Labels.{Labels}
use Rattle.pef_cert.specs.LabelTests.{pair_test, row_test, second_test}
use Rattle.pef_plan.specs.declared.runs.state.OpenState.{OpenState}

-- the tests for runs of a section in register C, and for those of a section in register D
pub record MetInC (l : Labels) (h : OpenState) (k value : ℕ) : Type 0 where
  pub words : row_test l value 4 (Section k) h.place.c h.place.d 512 h.first.offset (h.first ∷ h.others.now) ≡ true
  pub second : second_test l value k h.place.c h.place.d h.first h.others.now ≡ true

pub record MetInD (l : Labels) (h : OpenState) (k value : ℕ) : Type 0 where
  pub words : row_test l value 4 (Section k) h.place.c h.place.d 512 h.first.offset (h.first ∷ h.others.now) ≡ true
  pub spaced : row_test l value 8 (Section k) h.place.c h.place.d 512 h.first.offset (h.first ∷ h.others.now) ≡ true

-- the test for pairs of a section in register C and a second one
abbrev pub PairsMet : Labels → OpenState → ℕ → ℕ → ℕ → Type 0
PairsMet l h j k value = pair_test l value j h.place.c h.place.d h.first.offset (h.first ∷ h.others.now) (Section k) ≡ true
