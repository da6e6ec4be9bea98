-- Printed lines, words and numbers are read again.
use Rattle.std.proofs.Common.{◌≡◌, ℕ, zero, suc, ◌+◌, ◌*◌, ◌/◌, ◌%◌, ◌^◌, ◌<◌, ◌≤◌, ◌&&◌, Bool, true, false, List, [], ◌∷◌, ◌++◌, Option, None, Some, Ok, get_or, refl, ap, ◌∙◌, append_assoc, arith, eq-eqb}
use Rattle.std.specs.Prelude.{codes, decimal, nat_lt}
use Rattle.std.specs.Str.{bytes_eq}
use Rattle.std.specs.Option.{option_and_then}
use Rattle.std.proofs.lemmas.Bool.{ltb-true, lt-ltb, ne_eqb, and_from, and_parts}
use Rattle.std.proofs.lemmas.Fmt.{decimal_by_steps, decimal_digit, first_decimal}
use Rattle.std.proofs.lemmas.List.{append-nil}
use Rattle.pef_lines.specs.Cursor.{words_of}
use Rattle.pef_lines.specs.Lines.{cut_at}
use Rattle.pef_lines.specs.Numbers.{below, decimal_number, digits_value, hex_value}
use Rattle.pef_lines.proofs.Laws.{words_of-cut}
use Rattle.pef_cert.specs.Text.Grammar.{line_read}
use Rattle.pef_cert.specs.Text.Printed.{line_text, words_text}

-- all bytes are above a low one
abbrev pub above : ℕ → List ℕ → Bool
above low [] = true
above low (b ∷ bytes) = nat_lt low b && above low bytes

abbrev pub all_above : ℕ → List (List ℕ) → Bool
all_above low [] = true
all_above low (word ∷ words) = above low word && all_above low words

pub above-append : (low : ℕ) (bytes more : List ℕ) → above low bytes ≡ true → above low more ≡ true → above low (bytes ++ more) ≡ true
above-append low [] more is others = others
above-append low (b ∷ bytes) more is others =
    let p = and_parts (nat_lt low b) (above low bytes) is in
    and_from (nat_lt low b) (above low (bytes ++ more)) p.0 (above-append low bytes more p.1 others)

above-lower : (low high : ℕ) (bytes : List ℕ) → low ≤ high → above high bytes ≡ true → above low bytes ≡ true
above-lower low high [] less is = refl
above-lower low high (b ∷ bytes) less is =
    let p = and_parts (nat_lt high b) (above high bytes) is in
    let under = ltb-true high b p.0 in
    and_from (nat_lt low b) (above low bytes) (lt-ltb low b (omega (arith, under))) (above-lower low high bytes less p.1)

-- the bytes end at the first byte that they don't have
cut_at-above : (byte : ℕ) (bytes rest : List ℕ) → above byte bytes ≡ true → cut_at byte (bytes ++ byte ∷ rest) ≡ Some (bytes, rest)
cut_at-above byte [] rest is = rw (eq-eqb byte byte refl) refl
cut_at-above byte (b ∷ bytes) rest is =
    let p = and_parts (nat_lt byte b) (above byte bytes) is in
    let under = ltb-true byte b p.0 in
    rw (ne_eqb b byte (λ e. omega (arith, under, e)), cut_at-above byte bytes rest p.1) refl

words_of-one : (word : List ℕ) → above 0x20 word ≡ true → words_of word ≡ word ∷ []
words_of-one [] is = refl
words_of-one (b ∷ word) is =
    let p = and_parts (nat_lt 0x20 b) (above 0x20 word) is in
    let under = ltb-true 0x20 b p.0 in
    rw (ne_eqb b 0x20 (λ e. omega (arith, under, e)), words_of-one word p.1) refl

-- words with a space between are read as these
pub words_of-words : (word : List ℕ) (words : List (List ℕ)) → above 0x20 word ≡ true → all_above 0x20 words ≡ true → words_of (word ++ words_text words) ≡ word ∷ words
words_of-words word [] is others = ap words_of (append-nil word) ∙ words_of-one word is
words_of-words word (next ∷ words) is others =
    let p = and_parts (above 0x20 next) (all_above 0x20 words) others in
    words_of-cut (word ++ 0x20 ∷ (next ++ words_text words)) word (next ++ words_text words) (cut_at-above 0x20 word (next ++ words_text words) is)
    ∙ ap (λ (ws : List (List ℕ)). word ∷ ws) (words_of-words next words p.0 p.1)

words_text-above : (words : List (List ℕ)) → all_above 0x20 words ≡ true → above 0x0A (words_text words) ≡ true
words_text-above [] is = refl
words_text-above (word ∷ words) is =
    let p = and_parts (above 0x20 word) (all_above 0x20 words) is in
    above-append 0x0A word (words_text words) (above-lower 0x0A 0x20 word (omega arith) p.0) (words_text-above words p.1)

-- a line of words is read by the value of its words
pub line_read-line : {A : Type 0} (says : List ℕ → Option A) (number : ℕ) (word : List ℕ) (words : List (List ℕ)) (rest : List ℕ) (x : A) → above 0x20 word ≡ true → all_above 0x20 words ≡ true → says (word ++ words_text words) ≡ Some x
    → line_read says (record { number = number; text = line_text word words ++ rest }) ≡ Ok (x, record { number = number + 1; text = rest })
unfolding line_read
line_read-line says number word words rest x is others said =
    let line = word ++ words_text words in
    let parts : line_text word words ++ rest ≡ line ++ 0x0A ∷ rest = simp append_assoc in
    let cut : cut_at 0x0A (line ++ 0x0A ∷ rest) ≡ Some (line, rest) = cut_at-above 0x0A line rest (above-append 0x0A word (words_text words) (above-lower 0x0A 0x20 word (omega arith) is) (words_text-above words others)) in
    rw (parts, cut, said) refl

-- numbers

digit-is : (d : ℕ) → d < 10 → below 10 (hex_value (48 + d)) ≡ Some d
digit-is zero under = refl
digit-is (suc zero) under = refl
digit-is (suc (suc zero)) under = refl
digit-is (suc (suc (suc zero))) under = refl
digit-is (suc (suc (suc (suc zero)))) under = refl
digit-is (suc (suc (suc (suc (suc zero))))) under = refl
digit-is (suc (suc (suc (suc (suc (suc zero)))))) under = refl
digit-is (suc (suc (suc (suc (suc (suc (suc zero))))))) under = refl
digit-is (suc (suc (suc (suc (suc (suc (suc (suc zero)))))))) under = refl
digit-is (suc (suc (suc (suc (suc (suc (suc (suc (suc zero))))))))) under = refl
digit-is (suc (suc (suc (suc (suc (suc (suc (suc (suc (suc d)))))))))) under = absurd (omega arith)

-- one digit more
digits_value-more : (so_far n d : ℕ) (digits : List ℕ) → d < 10 → digits_value 10 so_far digits ≡ Some n → digits_value 10 so_far (digits ++ (48 + d) ∷ []) ≡ Some (n * 10 + d)
digits_value-more so_far n d [] under is = (let same : so_far ≡ n = cc in rw (digit-is d under, same) refl)
digits_value-more so_far n d (b ∷ digits) under is = by (below 10 (hex_value b)) is (λ e. digits_value-more (so_far * 10 + e) n d digits under)
  where
    by : (o : Option ℕ) → option_and_then (λ e. digits_value 10 (so_far * 10 + e) digits) o ≡ Some n → ((e : ℕ) → digits_value 10 (so_far * 10 + e) digits ≡ Some n → digits_value 10 (so_far * 10 + e) (digits ++ (48 + d) ∷ []) ≡ Some (n * 10 + d)) → option_and_then (λ e. digits_value 10 (so_far * 10 + e) (digits ++ (48 + d) ∷ [])) o ≡ Some (n * 10 + d)
    by None is others = absurd (cc)
    by (Some e) is others = others e is

decimal-value : (n : ℕ) → n < 2 ^ 64 → digits_value 10 0 (decimal n) ≡ Some n
decimal-value n small = decimal_by_steps (λ m ds. digits_value 10 0 ds ≡ Some m)
    (λ m under. let whole : 0 * 10 + m ≡ m = omega arith in rw (digit-is m under) (ap (λ (k : ℕ). Some k) whole))
    (λ m ds least is. (let whole : m / 10 * 10 + m % 10 ≡ m = omega arith in digits_value-more 0 (m / 10) (m % 10) ds (omega arith) is ∙ ap Some whole))
    n small

-- digits are above 2F
digits-above : (n : ℕ) → n < 2 ^ 64 → above 0x2F (decimal n) ≡ true
digits-above n small = decimal_by_steps (λ m ds. above 0x2F ds ≡ true)
    (λ m under. and_from (nat_lt 0x2F (48 + m)) true (lt-ltb 0x2F (48 + m) (omega arith)) refl)
    (λ m ds least is. above-append 0x2F ds ((48 + m % 10) ∷ []) is (and_from (nat_lt 0x2F (48 + m % 10)) true (lt-ltb 0x2F (48 + m % 10) (omega arith)) refl))
    n small

pub decimal-above : (n : ℕ) → n < 2 ^ 64 → above 0x20 (decimal n) ≡ true
decimal-above n small = above-lower 0x20 0x2F (decimal n) (omega arith) (digits-above n small)

-- and none of them is the one byte of `*`
pub decimal-no_star : (n : ℕ) → n < 2 ^ 64 → bytes_eq (decimal n) (codes "*") ≡ false
decimal-no_star n small = by (decimal n) (digits-above n small)
  where
    by : (ds : List ℕ) → above 0x2F ds ≡ true → bytes_eq ds (codes "*") ≡ false
    by [] is = refl
    by (b ∷ ds) is =
        let p = and_parts (nat_lt 0x2F b) (above 0x2F ds) is in
        let under = ltb-true 0x2F b p.0 in
        rw (ne_eqb b 42 (λ e. omega (arith, under, e))) refl

-- a number in decimal is read as this
pub decimal_number-decimal : (n : ℕ) → n < 2 ^ 32 → decimal_number (decimal n) ≡ Some n
decimal_number-decimal zero small = rw (decimal_digit 0 (omega arith)) refl
decimal_number-decimal (suc n) small = by (decimal (suc n)) (decimal-value (suc n) (omega arith)) (first_decimal (suc n) (omega arith) (omega arith))
  where
    by : (ds : List ℕ) → digits_value 10 0 ds ≡ Some (suc n) → 48 < get_or ds 0 0 → decimal_number ds ≡ Some (suc n)
    by [] value first = absurd (omega arith)
    by (b ∷ ds) value first = rw (ne_eqb b 0x30 (λ e. omega (arith, e)), value, lt-ltb (suc n) (2 ^ 32) small) refl
