-- The steps between cells that no library has painted.
use Rattle.std.proofs.Common.{◌≡◌, ℕ, ◌+◌, List, length, replicate, sym, subst, ◌∙◌, arith}
use Rattle.std.specs.Prelude.{slice_index}
use Rattle.std.proofs.lemmas.List.{get_or-replicate, length-replicate}
use Rattle.pef_loader.specs.Kept.Blocks.{AreSteps, IsStep}

-- a step of one cell from each
pub first_steps : (n : ℕ) (cells : List ℕ) → length cells ≡ n → AreSteps cells (replicate n 1)
first_steps n cells all = record {
  as_many = length-replicate n 1 ∙ sym all;
  each = λ k under. (
      let e : 1 ≡ slice_index (replicate n 1) k = sym (get_or-replicate n k 1 0 (omega arith)) in
      subst (λ s. IsStep cells k (k + s)) e (record { ahead = omega arith; within = omega arith; over = λ m low high. absurd (omega arith) }));
}
