-- Numbers in little memory: each is kept as a step from the one before it, or as itself.
use Rattle.std.specs.Prelude.{◌≡◌, ℕ, ◌+◌, ◌-◌, ◌^◌, ◌==◌, List, [], ◌∷◌, ◌++◌, drop, if◌then◌else◌, min, slice_index_or}

-- the number at a step from another one. A step of 127 leads to the same number
abbrev pub stepped : ℕ → ℕ → ℕ
stepped before step = min (before + step) (2 ^ 32 - 1) - 127

-- the number of a step: the step 255 leads to the first of the numbers that are far away
abbrev pub number_after : ℕ → ℕ → List ℕ → ℕ
number_after before step far = if step == 255 then slice_index_or far 0 0 else stepped before step

-- the numbers far away that are left
abbrev pub far_after : ℕ → List ℕ → List ℕ
far_after step far = if step == 255 then drop 1 far else far

-- the numbers of some steps
abbrev pub numbers_at : ℕ → List ℕ → List ℕ → List ℕ
numbers_at before [] far = []
numbers_at before (step ∷ steps) far = number_after before step far ∷ numbers_at (number_after before step far) steps (far_after step far)

-- one more step leads to a number, whatever other numbers are far away
pub record AddsNumber (before number : ℕ) (steps far steps' far' : List ℕ) : Type 0 where
  pub step : ℕ
  pub more : List ℕ
  pub steps_are : steps' ≡ steps ++ step ∷ []
  pub far_are : far' ≡ far ++ more
  pub leads : (left : List ℕ) → number_after before step (more ++ left) ≡ number
  pub rest : (left : List ℕ) → far_after step (more ++ left) ≡ left
