-- Slots of a hash word, and powers.
use Rattle.std.proofs.Common.{◌≡◌, ℕ, zero, suc, ◌+◌, ◌-◌, ◌*◌, ◌/◌, ◌%◌, ◌^◌, ◌<◌, ◌≤◌, refl, sym, arith}
use Rattle.std.proofs.Math.Nat.{pow-le-pow_right, mod-eq_of_lt, div-eq_of_lt}
use Rattle.std.proofs.lemmas.Bool.{cond_both, lt-ltb, le-ltb}
use Rattle.std.proofs.lemmas.Nat.{and_mask, pow_pos, pow_below, and_le_r}
use Rattle.std.specs.Int.Bits.{xor_zero_r}
use Rattle.std.specs.Prelude.{bit_xor, nat_lt as ltb}
use Rattle.pef_hash.specs.Limits.{exports_a_slot}
use Rattle.pef_hash.specs.Word.{least_power, slot}

-- a word is below the number of slots of a power past all its bits
pub word_below : (word power : ℕ) → word < 2 ^ 32 → 32 ≤ power → word < 2 ^ power
word_below word power small wide =
    let most : 2 ^ 32 ≤ 2 ^ power = pow-le-pow_right {n = 2} (omega arith) wide in
    omega arith

-- a power past all bits of the word keeps the word
pub slot_wide : (word power : ℕ) → word < 2 ^ 32 → 32 ≤ power → word ≡ slot word power
unfolding slot
slot_wide word power small wide =
    let under = word_below word power small wide in
    let none : word / 2 ^ power ≡ 0 = div-eq_of_lt under in
    rw (none, xor_zero_r, and_mask) (sym (mod-eq_of_lt under))

-- a slot is below the number of slots
pub slot_below : (word power : ℕ) → slot word power < 2 ^ power
unfolding slot
slot_below word power =
    let some = pow_pos power in
    let most = and_le_r (bit_xor word (word / 2 ^ power)) (2 ^ power - 1) in
    omega arith

-- the number of slots fits a word
pub power_below : (power : ℕ) → power < 32 → (1 * 2 ^ power) % 2 ^ 32 ≡ 2 ^ power
power_below power small =
    let under = pow_below power 32 small in
    let same : 1 * 2 ^ power ≡ 2 ^ power = omega arith in
    rw same (mod-eq_of_lt under)

-- the least power is looked for from the first on
pub least_power-here : (count power n : ℕ) → power < n → count / 2 ^ power < exports_a_slot → least_power count power (n - power) ≡ power
unfolding least_power
least_power-here count power n under few =
    let e : n - power ≡ suc (n - (power + 1)) = omega arith in
    rw (e, lt-ltb (count / 2 ^ power) exports_a_slot few) refl

pub least_power-next : (count power n : ℕ) → power < n → exports_a_slot ≤ count / 2 ^ power → least_power count power (n - power) ≡ least_power count (power + 1) (n - (power + 1))
unfolding least_power
least_power-next count power n under many =
    let e : n - power ≡ suc (n - (power + 1)) = omega arith in
    rw (e, le-ltb (count / 2 ^ power) exports_a_slot many) refl

pub least_power-end : (count power n : ℕ) → n ≤ power → least_power count power (n - power) ≡ power
unfolding least_power
least_power-end count power n past =
    let e : n - power ≡ 0 = omega arith in
    rw e refl

-- the least power is no more than the last one
pub least_power-most : (count power n : ℕ) → least_power count power n ≤ power + n
unfolding least_power
least_power-most count power zero = omega arith
least_power-most count power (suc n) =
    let later = least_power-most count (power + 1) n in
    cond_both (ltb (count / 2 ^ power) exports_a_slot) power (least_power count (power + 1) n) (λ x. x ≤ power + suc n) (λ few. omega arith) (λ many. omega arith)
