-- The bytes at the front of a list, from the number that they are.
use Rattle.std.proofs.Common.{◌≡◌, ℕ, zero, suc, ◌+◌, ◌*◌, ◌/◌, ◌^◌, ◌<◌, ◌≤◌, List, [], ◌∷◌, ◌++◌, length, take, slice_index, refl, sym, ap, ap₂, ◌∙◌, arith}
use Rattle.std.proofs.Math.Nat.{add-mul, mul_assoc, pow-le-pow_right, pow-succ'}
use Rattle.std.proofs.lemmas.Nat.{div-mul-add, pow-add, same_from_place}
use Rattle.byteorder.specs.Endian.{big_from, big_number}
use Rattle.byteorder.specs.Numbers.{big_from-append, big_from-cons, big_from-lt}
use Rattle.pef_lines.specs.Kept.Numbers.{AreBytes}

-- the number in some bytes, from that in the first of them and that in the others
big_from-split : (i n m : ℕ) (xs : List ℕ) → big_from i (n + m) xs ≡ big_from i n xs * 256 ^ m + big_from (i + n) m xs
big_from-split i zero m xs =
    let on : i + 0 ≡ i = omega arith in
    let all : 0 + m ≡ m = omega arith in
    rw (on, all) (omega arith)
big_from-split i (suc n) m xs =
    let later = big_from-split (suc i) n m xs in
    let longer : suc n + m ≡ suc (n + m) = omega arith in
    let on : i + suc n ≡ suc i + n = omega arith in
    let first = slice_index xs i in
    let high : first * 256 ^ (n + m) ≡ first * 256 ^ n * 256 ^ m = ap (λ (p : ℕ). first * p) (pow-add 256 n m) ∙ sym (mul_assoc first (256 ^ n) (256 ^ m)) in
    let sum : (first * 256 ^ n + big_from (suc i) n xs) * 256 ^ m ≡ first * 256 ^ n * 256 ^ m + big_from (suc i) n xs * 256 ^ m = add-mul (first * 256 ^ n) (big_from (suc i) n xs) (256 ^ m) in
    rw (longer, on) (omega (arith, later, high, sum))

-- the number in the first bytes of more
pub big_number-high : (n m : ℕ) (xs : List ℕ) → AreBytes xs → big_number (n + m) xs / 256 ^ m ≡ big_number n xs
big_number-high n m xs bytes =
    rw (big_from-split 0 n m xs) (div-mul-add (big_from 0 n xs) (256 ^ m) (big_from (0 + n) m xs) (big_from-lt (0 + n) m xs bytes))

-- the number after some bytes
big_from-after : (n : ℕ) (front xs : List ℕ) → big_from (length front) n (front ++ xs) ≡ big_number n xs
big_from-after n [] xs = refl
big_from-after n (a ∷ front) xs = big_from-cons (length front) n a (front ++ xs) ∙ big_from-after n front xs

-- the number in two more bytes
pub big_number-two : (front rest : List ℕ) (a b : ℕ) → big_number (length front + 2) (front ++ a ∷ b ∷ rest) ≡ big_number (length front) front * 65536 + a * 256 + b
big_number-two front rest a b =
    let start : 0 + length front ≡ length front = omega arith in
    let split = big_from-split 0 (length front) 2 (front ++ a ∷ b ∷ rest) in
    let low : big_from (0 + length front) 2 (front ++ a ∷ b ∷ rest) ≡ a * 256 + b = rw start (big_from-after 2 front (a ∷ b ∷ rest) ∙ omega arith) in
    let high = big_from-append (length front) front (a ∷ b ∷ rest) (omega arith) in
    split ∙ rw (low, high) (omega arith)

-- bytes with one number are the same
pub same_front : (n : ℕ) (xs ys : List ℕ) → n ≤ length xs → n ≤ length ys → AreBytes xs → AreBytes ys → big_number n xs ≡ big_number n ys → take n xs ≡ take n ys
same_front zero xs ys long longer are be same = refl
same_front (suc n) [] ys long longer are be same = absurd (omega arith)
same_front (suc n) (x ∷ xs) [] long longer are be same = absurd (omega arith)
same_front (suc n) (x ∷ xs) (y ∷ ys) long longer are be same =
    let more : AreBytes xs = λ k. are (suc k) in
    let others : AreBytes ys = λ k. be (suc k) in
    let parts : x * 256 ^ n + big_number n xs ≡ y * 256 ^ n + big_number n ys =
    ap (λ (r : ℕ). x * 256 ^ n + r) (sym (big_from-cons 0 n x xs)) ∙ same ∙ ap (λ (r : ℕ). y * 256 ^ n + r) (big_from-cons 0 n y ys) in
    let p = same_from_place x (big_number n xs) y (big_number n ys) (256 ^ n) (big_from-lt 0 n xs more) (big_from-lt 0 n ys others) parts in
    ap₂ (λ (b : ℕ) (bs : List ℕ). b ∷ bs) p.0 (same_front n xs ys (omega arith) (omega arith) more others p.1)

-- a shift by whole bytes
pub pow_bytes : (m : ℕ) → 2 ^ (8 * m) ≡ 256 ^ m
pow_bytes zero = refl
pow_bytes (suc m) =
    let more : 8 * suc m ≡ 8 + 8 * m = omega arith in
    rw (more, pow-add 2 8 (8 * m), pow_bytes m, pow-succ' 256 m) refl

-- the bytes at the front of others
pub AreBytes-front : (xs ys : List ℕ) → AreBytes (xs ++ ys) → AreBytes xs
AreBytes-front [] ys are = λ k. omega arith
AreBytes-front (x ∷ xs) ys are = by (AreBytes-front xs ys (λ k. are (suc k)))
  where
    by : AreBytes xs → (k : ℕ) → slice_index (x ∷ xs) k < 256
    by later zero = are zero
    by later (suc k) = later k

-- six bytes, and two after them, are below 2 ^ 64
pub big_number-small : (n : ℕ) (xs : List ℕ) → AreBytes xs → n ≤ 6 → big_number n xs < 2 ^ 48
big_number-small n xs bytes few =
    let small = big_from-lt 0 n xs bytes in
    let most : 256 ^ n ≤ 256 ^ 6 = pow-le-pow_right (omega arith) few in
    omega (arith, small, most)
