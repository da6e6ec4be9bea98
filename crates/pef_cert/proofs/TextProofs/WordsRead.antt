-- Words and numbers that are read are those that are printed.
use Rattle.std.proofs.Common.{◌≡◌, ℕ, ◌+◌, ◌*◌, ◌-◌, ◌/◌, ◌%◌, ◌^◌, ◌<◌, ◌≤◌, ◌==◌, ◌&&◌, Bool, true, false, cond, List, [], ◌∷◌, ◌++◌, Option, None, Some, refl, sym, ap, ap₂, ◌∙◌, subst, append_assoc, arith}
use Rattle.std.specs.Prelude.{decimal, nat_le, nat_lt}
use Rattle.std.specs.List.{AllByRecursion}
use Rattle.std.specs.Str.{bytes_eq}
use Rattle.std.proofs.lemmas.Bool.{and_parts, eqb-false, eqb-true, leb-true, ltb-true}
use Rattle.std.proofs.lemmas.Fmt.{decimal_digit, decimal_step}
use Rattle.std.proofs.lemmas.List.{append-nil}
use Rattle.std.proofs.lemmas.Option.{option_and_then_some}
use Rattle.std.proofs.lemmas.Slice.Eq.{bytes_eq-Decides}
use Rattle.pef_lines.specs.Cursor.{behind, first_of, none_left, provided, words_of}
use Rattle.pef_lines.specs.Lines.{longer_first}
use Rattle.pef_lines.specs.Numbers.{below, decimal_number, digits_value, hex_value, zero_before}
use Rattle.pef_lines.proofs.Laws.{words_of-some}
use Rattle.pef_words.specs.Refusals.{◌>>=◌}
use Rattle.pef_cert.specs.Text.Printed.{IsNumber, number_words, words_text}
use Rattle.pef_cert.specs.Text.Words.{numbers_in}

-- the results of steps

pub then_some : {A B P : Type 0} (first : Option A) (others : A → Option B) (y : B) → (first >>= others) ≡ Some y → ((x : A) → first ≡ Some x → others x ≡ Some y → P) → P
then_some None others y is go = absurd (cc)
then_some (Some x) others y is go = go x refl is

pub provided-some : {A : Type 0} (condition : Bool) (x y : A) → provided condition x ≡ Some y → (condition ≡ true) × (x ≡ y)
provided-some true x y is = (refl, (let same : x ≡ y = cc in same))
provided-some false x y is = absurd (cc)

-- words

pub is_word : (word wanted : List ℕ) → bytes_eq word wanted ≡ true → word ≡ wanted
is_word word wanted same = (bytes_eq-Decides word wanted).0 same

pub first_of-some : (words : List (List ℕ)) (x : List ℕ × List (List ℕ)) → first_of words ≡ Some x → words ≡ x.0 ∷ x.1
first_of-some [] x is = absurd (cc)
first_of-some (word ∷ words) x is =
    let same : (word, words) ≡ x = cc in
    ap (λ (p : List ℕ × List (List ℕ)). p.0 ∷ p.1) same

pub after-some : (wanted : List ℕ) (words others : List (List ℕ)) → behind wanted words ≡ Some others → words ≡ wanted ∷ others
after-some wanted words others is = then_some (first_of words) (λ first. provided (bytes_eq first.0 wanted) first.1) others is (λ first found rest.
    let p = provided-some (bytes_eq first.0 wanted) first.1 others rest in
    first_of-some words first found ∙ ap₂ (λ (w : List ℕ) (ws : List (List ℕ)). w ∷ ws) (is_word first.0 wanted p.0) p.1)

pub none_left-true : (words : List (List ℕ)) → none_left words ≡ true → words ≡ []
none_left-true [] is = refl
none_left-true (word ∷ words) is = absurd (cc)

-- a line is its words, with a space between
abbrev pub joined : List (List ℕ) → List ℕ
joined [] = []
joined (word ∷ words) = word ++ words_text words

pub joined-words_of : (line : List ℕ) → joined (words_of line) ≡ line
joined-words_of [] = refl
joined-words_of (b ∷ bytes) = by (b == 0x20) refl (words_of bytes) (joined-words_of bytes) (words_of-some bytes)
  where
    by : (here : Bool) → (b == 0x20) ≡ here → (words : List (List ℕ)) → joined words ≡ bytes → none_left words ≡ false → joined (cond here ([] ∷ words) (longer_first b words)) ≡ b ∷ bytes
    by here is [] same some = absurd (cc)
    by true is (word ∷ words) same some = ap (λ (t : List ℕ). 0x20 ∷ t) same ∙ ap (λ (c : ℕ). c ∷ bytes) (sym (eqb-true b 0x20 is))
    by false is (word ∷ words) same some = ap (λ (t : List ℕ). b ∷ t) same

-- a line that begins with a word
pub line-is : (line word : List ℕ) (words others : List (List ℕ)) → behind word (words_of line) ≡ Some words → words ≡ others → line ≡ word ++ words_text others
line-is line word words others first are =
    sym (joined-words_of line) ∙ ap joined (after-some word (words_of line) words first ∙ ap (λ (ws : List (List ℕ)). word ∷ ws) are)

-- numbers

pub below-some : (limit : ℕ) (o : Option ℕ) (d : ℕ) → below limit o ≡ Some d → (o ≡ Some d) × (d < limit)
below-some limit None d is = absurd (cc)
below-some limit (Some n) d is = by (nat_lt n limit) refl is
  where
    by : (under : Bool) → nat_lt n limit ≡ under → cond under (Some n) None ≡ Some d → (Some n ≡ Some d) × (d < limit)
    by true under is =
        let same : n ≡ d = cc in
        (is, omega (arith, same, ltb-true n limit under))
    by false under is = absurd (cc)

-- a decimal digit is the byte of its value
digit-is : (b d : ℕ) → hex_value b ≡ Some d → d < 10 → b ≡ 48 + d
digit-is b d is under = by (nat_le 0x30 b && nat_le b 0x39) refl (nat_le 0x41 b && nat_le b 0x46) refl (nat_le 0x61 b && nat_le b 0x66) refl is
  where
    by : (x : Bool) → (nat_le 0x30 b && nat_le b 0x39) ≡ x → (y : Bool) → (nat_le 0x41 b && nat_le b 0x46) ≡ y → (z : Bool) → (nat_le 0x61 b && nat_le b 0x66) ≡ z
        → cond x (Some (b - 0x30)) (cond y (Some (b - 0x37)) (cond z (Some (b - 0x57)) None)) ≡ Some d → b ≡ 48 + d
    by true first y second z third is =
        let same : b - 0x30 ≡ d = cc in
        let low = leb-true 0x30 b (and_parts (nat_le 0x30 b) (nat_le b 0x39) first).0 in
        omega (arith, same, low)
    by false first true second z third is =
        let same : b - 0x37 ≡ d = cc in
        let low = leb-true 0x41 b (and_parts (nat_le 0x41 b) (nat_le b 0x46) second).0 in
        absurd (omega (arith, same, low))
    by false first false second true third is =
        let same : b - 0x57 ≡ d = cc in
        let low = leb-true 0x61 b (and_parts (nat_le 0x61 b) (nat_le b 0x66) third).0 in
        absurd (omega (arith, same, low))
    by false first false second false third is = absurd (cc)

below-digit : (b d : ℕ) → below 10 (hex_value b) ≡ Some d → (b ≡ 48 + d) × (d < 10)
below-digit b d is =
    let p = below-some 10 (hex_value b) d is in
    (digit-is b d p.0 p.1, p.1)

-- more digits don't make a number smaller
digits_value-least : (so_far n : ℕ) (bytes : List ℕ) → digits_value 10 so_far bytes ≡ Some n → so_far ≤ n
digits_value-least so_far n [] is = (let same : so_far ≡ n = cc in omega (arith, same))
digits_value-least so_far n (b ∷ bytes) is = option_and_then_some (λ d. digits_value 10 (so_far * 10 + d) bytes) (below 10 (hex_value b)) n is
    (λ d digit later. (let least = digits_value-least (so_far * 10 + d) n bytes later in omega (arith, least)))

-- digits after those of a number are those of the number that they give together
digits_value-decimal : (so_far n : ℕ) (bytes : List ℕ) → 0 < so_far → n < 2 ^ 64 → digits_value 10 so_far bytes ≡ Some n → decimal so_far ++ bytes ≡ decimal n
digits_value-decimal so_far n [] some small is =
    let same : so_far ≡ n = cc in
    append-nil (decimal so_far) ∙ ap decimal same
digits_value-decimal so_far n (b ∷ bytes) some small is = option_and_then_some (λ d. digits_value 10 (so_far * 10 + d) bytes) (below 10 (hex_value b)) n is
    (λ d digit later.
    let p = below-digit b d digit in
    let byte = p.0 in
    let under = p.1 in
    let least = digits_value-least (so_far * 10 + d) n bytes later in
    let before : (so_far * 10 + d) / 10 ≡ so_far = omega (arith, under) in
    let last : 48 + (so_far * 10 + d) % 10 ≡ b = omega (arith, under, byte) in
    let step = decimal_step (so_far * 10 + d) (omega (arith, some)) (omega (arith, least, small)) in
    let one : decimal (so_far * 10 + d) ≡ decimal so_far ++ b ∷ [] = step ∙ ap₂ (λ (q r : ℕ). decimal q ++ r ∷ []) before last in
    sym (append_assoc (decimal so_far) (b ∷ []) bytes) ∙ ap (λ (ds : List ℕ). ds ++ bytes) (sym one)
    ∙ digits_value-decimal (so_far * 10 + d) n bytes (omega (arith, some)) small later)

-- a number is read from its digits alone
pub decimal_number-is : (digits : List ℕ) (n : ℕ) → decimal_number digits ≡ Some n → (digits ≡ decimal n) × IsNumber n
decimal_number-is [] n is = absurd (cc)
decimal_number-is (b ∷ bytes) n is = by (b == 0x30) refl is
  where
    zero_is : (bytes : List ℕ) → b ≡ 0x30 → zero_before bytes ≡ Some n → (b ∷ bytes ≡ decimal n) × IsNumber n
    zero_is [] byte is =
        let same : 0 ≡ n = cc in
        (ap (λ (c : ℕ). c ∷ []) byte ∙ sym (decimal_digit 0 (omega arith)) ∙ ap decimal same, omega (arith, same))
    zero_is (c ∷ others) byte is = absurd (cc)

    by : (lead : Bool) → (b == 0x30) ≡ lead → cond lead (zero_before bytes) (below (2 ^ 32) (digits_value 10 0 (b ∷ bytes))) ≡ Some n → (b ∷ bytes ≡ decimal n) × IsNumber n
    by true lead is = zero_is bytes (eqb-true b 0x30 lead) is
    by false lead is =
        let p = below-some (2 ^ 32) (digits_value 10 0 (b ∷ bytes)) n is in
        let small = p.1 in
        option_and_then_some (λ d. digits_value 10 (0 * 10 + d) bytes) (below 10 (hex_value b)) n p.0
        (λ d digit later.
        let q = below-digit b d digit in
        let byte = q.0 in
        let under = q.1 in
        let other = eqb-false b 0x30 lead in
        let some : d ≡ 0 → ⊥ = λ none. other (omega (arith, byte, none)) in
        let first : decimal (0 * 10 + d) ≡ b ∷ [] = decimal_digit (0 * 10 + d) (omega (arith, under)) ∙ ap (λ (c : ℕ). c ∷ []) (omega (arith, byte)) in
        (ap (λ (ds : List ℕ). ds ++ bytes) (sym first) ∙ digits_value-decimal (0 * 10 + d) n bytes (omega (arith, some)) (omega (arith, small)) later, small))

pub numbers_in-are : (words : List (List ℕ)) (numbers : List ℕ) → numbers_in words ≡ Some numbers → (words ≡ number_words numbers) × AllByRecursion IsNumber numbers
numbers_in-are [] numbers is =
    let same : [] ≡ numbers = cc in
    subst (λ (ns : List ℕ). ([] ≡ number_words ns) × AllByRecursion IsNumber ns) same (refl, tt)
numbers_in-are (word ∷ words) numbers is = then_some (decimal_number word) (λ n. numbers_in words >>= λ ns. Some (n ∷ ns)) numbers is
    (λ n digits rest. then_some (numbers_in words) (λ ns. Some (n ∷ ns)) numbers rest
    (λ ns others made.
    let same : n ∷ ns ≡ numbers = cc in
    let p = decimal_number-is word n digits in
    let q = numbers_in-are words ns others in
    subst (λ (ms : List ℕ). (word ∷ words ≡ number_words ms) × AllByRecursion IsNumber ms) same (ap₂ (λ (w : List ℕ) (ws : List (List ℕ)). w ∷ ws) p.0 q.0, (p.1, q.1))))
