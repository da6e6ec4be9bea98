-- The digits of each byte, as the table of them has them.
use Rattle.std.proofs.Common.{◌≡◌, ℕ, zero, suc, ◌+◌, ◌-◌, ◌*◌, ◌/◌, ◌%◌, ◌<◌, Bool, true, ◌&&◌, T, eqb, get_or, inl, inr, arith, eq-zero-or-pos, eqb→eq}
use lib.Ieee.Fits.{and_l, and_r}
use Rattle.pef_ports.specs.Text.{hex_digit}
use Rattle.pef_ports.specs.declared.line.TheConstants.{DIGITS}

-- the table has the digits of the bytes below n
abbrev are_digits : ℕ → Bool
are_digits zero = true
are_digits (suc b) = (eqb (get_or DIGITS (b * 2) 0) (hex_digit (b / 16)) && eqb (get_or DIGITS (b * 2 + 1) 0) (hex_digit (b % 16))) && are_digits b

below : (n b : ℕ) → T (are_digits n) → b < n → (get_or DIGITS (b * 2) 0 ≡ hex_digit (b / 16)) × (get_or DIGITS (b * 2 + 1) 0 ≡ hex_digit (b % 16))
below zero b t h = absurd (omega arith)
below (suc n) b t h =
    elim (eq-zero-or-pos (n - b)) [
      | inl z ↦ let e : b ≡ n = omega arith in let a = and_l _ (are_digits n) t in rw e (eqb→eq _ _ (and_l _ _ a), eqb→eq _ _ (and_r _ _ a))
      | inr g ↦ below n b (and_r _ (are_digits n) t) (omega arith)
    ]

-- the two digits of a byte
pub DIGITS_at : (b : ℕ) → b < 256 → (get_or DIGITS (b * 2) 0 ≡ hex_digit (b / 16)) × (get_or DIGITS (b * 2 + 1) 0 ≡ hex_digit (b % 16))
DIGITS_at b h = below 256 b tt h
