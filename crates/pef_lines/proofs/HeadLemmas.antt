-- The head of a number, which is its digits but the last one, and the numbers that have it.
use Rattle.std.proofs.Common.{◌≡◌, ℕ, zero, suc, ◌+◌, ◌-◌, ◌*◌, ◌/◌, ◌^◌, ◌<◌, ◌≤◌, ◌==◌, Bool, true, false, cond, List, [], ◌∷◌, ◌++◌, Option, None, Some, drop, length, take, slice_index, refl, sym, ap, ◌∙◌, append_assoc, arith}
use Rattle.std.specs.Prelude.{nat_lt}
use Rattle.std.specs.Option.{option_and_then, option_map_or}
use Rattle.std.proofs.Math.Seq.{take-length}
use Rattle.std.proofs.lemmas.Bool.{lt-ltb, ltb-true}
use Rattle.std.proofs.lemmas.List.{length-append, take-append-drop}
use Rattle.std.proofs.lemmas.Nat.{div-mul-add}
use Rattle.byteorder.specs.Endian.{big_number}
use Rattle.byteorder.specs.Numbers.{big_from-append, big_from-take}
use Rattle.pef_lines.specs.Cursor.{first_number, words_of}
use Rattle.pef_lines.specs.Kept.Numbers.{AreBytes, IsHead, digits_parted, key_of, limited, separated}
use Rattle.pef_lines.specs.Numbers.{below, decimal_number, digits_number, digits_value, hex_value, zero_before}
use Rattle.pef_lines.proofs.FirstNumber.{first_number_some}
use Rattle.pef_lines.proofs.Loads.{big_number-high, big_number-two, pow_bytes, same_front}

-- a number that is below a limit
below-some : (limit n : ℕ) (number : Option ℕ) → below limit number ≡ Some n → (number ≡ Some n) × (n < limit)
below-some limit n None is = absurd (cc)
below-some limit n (Some m) is = by (nat_lt m limit) refl is
  where
    by : (small : Bool) → nat_lt m limit ≡ small → cond {A = Option ℕ} small (Some m) None ≡ Some n → (Some m ≡ Some n) × (n < limit)
    by true small same = (same, (let e : m ≡ n = cc in rw (← e) (ltb-true m limit small)))
    by false small same = absurd (cc)

-- the digit that is spelled
digit_is : (d : ℕ) → d ≤ 9 → below 10 (hex_value (0x30 + d)) ≡ Some d
digit_is d digit = grind arith

-- the last digit is added to ten times the number of those before it
digits_value-last : {P : Type 0} (so_far n b : ℕ) (digits : List ℕ) → digits_value 10 so_far (digits ++ b ∷ []) ≡ Some n → ((q e : ℕ) → digits_value 10 so_far digits ≡ Some q → e < 10 → n ≡ q * 10 + e → P) → P
digits_value-last {P = P} so_far n b [] is go = by (below 10 (hex_value b)) refl is
  where
    by : (digit : Option ℕ) → below 10 (hex_value b) ≡ digit → option_and_then (λ d. Some (so_far * 10 + d)) digit ≡ Some n → P
    by None digit same = absurd (cc)
    by (Some e) digit same = go so_far e refl (below-some 10 e (hex_value b) digit).1 (let e : so_far * 10 + e ≡ n = cc in sym e)
digits_value-last {P = P} so_far n b (c ∷ digits) is go = by (below 10 (hex_value c)) refl is (λ d. digits_value-last (so_far * 10 + d) n b digits)
  where
    by : (digit : Option ℕ) → below 10 (hex_value c) ≡ digit → option_and_then (λ d. digits_value 10 (so_far * 10 + d) (digits ++ b ∷ [])) digit ≡ Some n
        → ((d : ℕ) → digits_value 10 (so_far * 10 + d) (digits ++ b ∷ []) ≡ Some n → ((q e : ℕ) → digits_value 10 (so_far * 10 + d) digits ≡ Some q → e < 10 → n ≡ q * 10 + e → P) → P) → P
    by None digit same later = absurd (cc)
    by (Some d) digit same later = later d same (λ q e value small sum. go q e (rw digit value) small sum)

-- digits in front of what follows are a number so far
digits_parted-after : (so_far n : ℕ) (digits rest : List ℕ) → digits_value 10 so_far digits ≡ Some n → digits_parted so_far (digits ++ rest) ≡ digits_parted n rest
digits_parted-after so_far n [] rest is =
    let same : so_far ≡ n = cc in
    ap (λ (m : ℕ). digits_parted m rest) same
digits_parted-after so_far n (b ∷ digits) rest is = by (below 10 (hex_value b)) is (λ d. digits_parted-after (so_far * 10 + d) n digits rest)
  where
    by : (digit : Option ℕ) → option_and_then (λ d. digits_value 10 (so_far * 10 + d) digits) digit ≡ Some n
        → ((d : ℕ) → digits_value 10 (so_far * 10 + d) digits ≡ Some n → digits_parted (so_far * 10 + d) (digits ++ rest) ≡ digits_parted n rest)
        → option_map_or (λ d. digits_parted (so_far * 10 + d) (digits ++ rest)) digit (separated (so_far, b ∷ (digits ++ rest))) ≡ digits_parted n rest
    by None same later = absurd (cc)
    by (Some d) same later = later d same

-- a number so far, with a last digit before a space
parted-last : (q d : ℕ) (rest : List ℕ) → d ≤ 9 → q * 10 + d < 2 ^ 32 → limited (digits_parted q ((0x30 + d) ∷ 0x20 ∷ rest)) ≡ Some (q * 10 + d, words_of rest)
parted-last q d rest digit small = rw (digit_is d digit, lt-ltb (q * 10 + d) (2 ^ 32) small) refl

none_after : (cs : List ℕ) (b : ℕ) → zero_before (cs ++ b ∷ []) ≡ None
none_after [] b = refl
none_after (c ∷ cs) b = refl

-- the digits of a number but the last one are a head
pub head_spells : (digits : List ℕ) (b n : ℕ) → 1 ≤ length digits → n + 9 < 2 ^ 32 → decimal_number (digits ++ b ∷ []) ≡ Some n → IsHead digits (n / 10 * 10)
head_spells [] b n some room is = absurd (omega arith)
head_spells (c ∷ cs) b n some room is = λ d rest digit. by d rest digit (c == 0x30) refl is
  where
    more : (d : ℕ) (rest : List ℕ) → d ≤ 9 → (c == 0x30) ≡ false → (q e f : ℕ) → below 10 (hex_value c) ≡ Some f → digits_value 10 (0 * 10 + f) cs ≡ Some q → e < 10 → n ≡ q * 10 + e
        → first_number (words_of (c ∷ (cs ++ (0x30 + d) ∷ 0x20 ∷ rest))) ≡ Some (n / 10 * 10 + d, words_of rest)
    more d rest digit other q e f first value small sum =
        let tens : n / 10 ≡ q = rw sum (div-mul-add q 10 e small) in
        let start : 0 * 10 + f ≡ f = omega arith in
        let later = digits_parted-after f q cs ((0x30 + d) ∷ 0x20 ∷ rest) (rw (← start) value) in
        sym (first_number_some c f (cs ++ (0x30 + d) ∷ 0x20 ∷ rest) other first) ∙ ap limited later ∙ rw tens (parted-last q d rest digit (omega (arith, room, sum)))

    by : (d : ℕ) (rest : List ℕ) → d ≤ 9 → (zero : Bool) → (c == 0x30) ≡ zero → cond zero (zero_before (cs ++ b ∷ [])) (digits_number 10 (c ∷ (cs ++ b ∷ []))) ≡ Some n
        → first_number (words_of (c ∷ (cs ++ (0x30 + d) ∷ 0x20 ∷ rest))) ≡ Some (n / 10 * 10 + d, words_of rest)
    by d rest digit true other same =
        let none = sym (none_after cs b) ∙ same in
        absurd (cc)
    by d rest digit false other same =
        digits_value-last 0 n b (c ∷ cs) (below-some (2 ^ 32) n (digits_value 10 0 (c ∷ (cs ++ b ∷ []))) same).0 (λ q e value small sum. first q e small sum (below 10 (hex_value c)) refl value)
      where
        first : (q e : ℕ) → e < 10 → n ≡ q * 10 + e → (found : Option ℕ) → below 10 (hex_value c) ≡ found → option_and_then (λ f. digits_value 10 (0 * 10 + f) cs) found ≡ Some q
            → first_number (words_of (c ∷ (cs ++ (0x30 + d) ∷ 0x20 ∷ rest))) ≡ Some (n / 10 * 10 + d, words_of rest)
        first q e small sum None is value = absurd (cc)
        first q e small sum (Some f) is value = more d rest digit other q e f is value small sum

AreBytes-append : (xs ys : List ℕ) → AreBytes xs → AreBytes ys → AreBytes (xs ++ ys)
AreBytes-append [] ys are be = be
AreBytes-append (x ∷ xs) ys are be = by (AreBytes-append xs ys (λ k. are (suc k)) be)
  where
    by : AreBytes (xs ++ ys) → (k : ℕ) → slice_index (x ∷ (xs ++ ys)) k < 256
    by later zero = are zero
    by later (suc k) = later k

two_bytes : (a b : ℕ) → a < 256 → b < 256 → AreBytes (a ∷ b ∷ [])
two_bytes a b small low zero = small
two_bytes a b small low (suc zero) = low
two_bytes a b small low (suc (suc k)) = omega arith

-- what a line begins with, from the number in its first bytes
line_is : (digits line : List ℕ) (shift d : ℕ) → AreBytes digits → AreBytes line → 8 ≤ length line → length digits ≤ 6 → shift + 8 * length digits ≡ 48 → big_number 8 line / 2 ^ shift ≡ key_of digits + 256 * d → d ≤ 9
    → line ≡ digits ++ (0x30 + d) ∷ 0x20 ∷ drop (length digits + 2) line
line_is digits line shift d are be long few shifted front digit =
    let len = length digits in
    let last = (0x30 + d) ∷ 0x20 ∷ [] in
    let m = 6 - len in
    let bits : shift ≡ 8 * m = omega arith in
    let eight : 8 ≡ (len + 2) + m = omega arith in
    let high : big_number 8 line / 2 ^ shift ≡ big_number (len + 2) line =
    rw (bits, pow_bytes m) (ap (λ (n : ℕ). big_number n line / 256 ^ m) eight ∙ big_number-high (len + 2) m line be) in
    let key : big_number (len + 2) (digits ++ last) ≡ key_of digits + 256 * d = big_number-two digits [] (0x30 + d) 0x20 ∙ omega arith in
    let long_last : length (digits ++ last) ≡ len + 2 = length-append digits last in
    let same = same_front (len + 2) line (digits ++ last) (omega arith) (omega (arith, long_last)) be (AreBytes-append digits last are (two_bytes (0x30 + d) 0x20 (omega arith) (omega arith))) (sym high ∙ front ∙ sym key) in
    let whole : take (len + 2) (digits ++ last) ≡ digits ++ last = rw (← long_last) (take-length (digits ++ last)) in
    sym (take-append-drop (len + 2) line) ∙ ap (λ (l : List ℕ). l ++ drop (len + 2) line) (same ∙ whole) ∙ append_assoc digits last (drop (len + 2) line)

-- the digits that a line begins with, from the number in its first bytes
pub head_loaded : (line word digits : List ℕ) (b : ℕ) → AreBytes line → length digits ≤ 6 → word ≡ digits ++ b ∷ [] → take (length word) line ≡ word
    → big_number 8 line / 2 ^ (48 - 8 * length digits + 16) ≡ big_number (length digits) digits
head_loaded line word digits b are few ends begins =
    let len = length digits in
    let bits : 48 - 8 * len + 16 ≡ 8 * (8 - len) = omega arith in
    let eight : 8 ≡ len + (8 - len) = omega arith in
    let longer : len ≤ length word = rw (ends, length-append digits (b ∷ [])) (omega arith) in
    let front : big_number len line ≡ big_number len digits =
    sym (big_from-take 0 len (length word) line (omega (arith, longer))) ∙ ap (big_number len) (begins ∙ ends) ∙ big_from-append len digits (b ∷ []) (omega arith) in
    rw (bits, pow_bytes (8 - len)) (ap (λ (n : ℕ). big_number n line / 256 ^ (8 - len)) eight ∙ big_number-high len (8 - len) line are ∙ front)

-- the first number of a line that begins with a head
pub head_reads : (digits line : List ℕ) (tens shift d : ℕ) → IsHead digits tens → AreBytes digits → AreBytes line → 8 ≤ length line → length digits ≤ 6 → shift + 8 * length digits ≡ 48 → big_number 8 line / 2 ^ shift ≡ key_of digits + 256 * d → d ≤ 9
    → first_number (words_of line) ≡ Some (tens + d, words_of (drop (length digits + 2) line))
head_reads digits line tens shift d head are be long few shifted front digit =
    ap (λ (l : List ℕ). first_number (words_of l)) (line_is digits line shift d are be long few shifted front digit) ∙ head d (drop (length digits + 2) line) digit
