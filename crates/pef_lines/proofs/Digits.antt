-- Numbers that digits spell.
use Rattle.std.proofs.Common.{◌≡◌, ℕ, ◌+◌, ◌*◌, ◌<◌, ◌≤◌, List, [], ◌∷◌, Option, None, Some, drop, get_or, length, refl, add-one, drop-cons, arith}
use Rattle.std.specs.Option.{option_and_then}
use Rattle.std.proofs.lemmas.Bool.{le-ltb}
use Rattle.std.proofs.Math.Nat.{mul-le-mul_left}
use Rattle.pef_lines.specs.Numbers.{below, digits_value, hex_value}

-- a number past a limit stays past it, whatever digits follow
pub past_limit : (limit base so_far : ℕ) (bytes : List ℕ) → 1 ≤ base → limit ≤ so_far → below limit (digits_value base so_far bytes) ≡ None
past_limit limit base so_far [] least past = rw (le-ltb so_far limit past) refl
past_limit limit base so_far (b ∷ bytes) least past =
    further (below base (hex_value b)) (λ d. past_limit limit base (so_far * base + d) bytes least (omega (arith, mul-le-mul_left so_far least)))
  where
    further : (digit : Option ℕ) → ((d : ℕ) → below limit (digits_value base (so_far * base + d) bytes) ≡ None) → below limit (option_and_then (λ d. digits_value base (so_far * base + d) bytes) digit) ≡ None
    further None later = refl
    further (Some d) later = later d

-- one more digit
pub digits_value-next : (base so_far : ℕ) (bytes : List ℕ) (i d : ℕ) → i < length bytes → Some d ≡ below base (hex_value (get_or bytes i 0)) → digits_value base so_far (drop i bytes) ≡ digits_value base (so_far * base + d) (drop (i + 1) bytes)
digits_value-next base so_far bytes i d under digit = rw (add-one, drop-cons bytes i 0, ← digit) refl
