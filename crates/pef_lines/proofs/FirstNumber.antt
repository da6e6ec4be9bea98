-- The number of the first word of a line, by its digits.
use Rattle.std.proofs.Common.{◌≡◌, ℕ, ◌+◌, ◌*◌, ◌^◌, ◌<◌, ◌≤◌, ◌==◌, Bool, true, false, cond, List, [], ◌∷◌, Option, None, Some, drop, get_or, length, option_map, refl, sym, ap, ◌∙◌, add-one, drop-cons, arith}
use Rattle.std.specs.Option.{option_map_or}
use Rattle.std.specs.Prelude.{nat_lt}
use Rattle.std.proofs.lemmas.Bool.{eqb-true, le-ltb}
use Rattle.pef_words.specs.Refusals.{◌>>=◌}
use Rattle.pef_lines.specs.Cursor.{first_number, words_of}
use Rattle.pef_lines.specs.Kept.Numbers.{digits_parted, limited}
use Rattle.pef_lines.specs.Lines.{longer_first}
use Rattle.pef_lines.specs.Numbers.{below, digits_value, hex_value}

-- the number that digits so far and those of the first word spell, and the words after it
abbrev value_first : ℕ → List (List ℕ) → Option (ℕ × List (List ℕ))
value_first n [] = Some (n, [])
value_first n (word ∷ words) = option_map (λ m. (m, words)) (digits_value 10 n word)

-- a number, if it has 32 bits, and the words after it
abbrev number_first : Option ℕ → List (List ℕ) → Option (ℕ × List (List ℕ))
number_first number words = below (2 ^ 32) number >>= λ m. Some (m, words)

-- a space is no digit
no_digit : (b : ℕ) → (b == 0x20) ≡ true → below 10 (hex_value b) ≡ None
no_digit b is = rw (eqb-true b 0x20 is) refl

-- digits are followed by the words after the first one
digits_parted-is : (n : ℕ) (bytes : List ℕ) → digits_parted n bytes ≡ value_first n (words_of bytes)
digits_parted-is n [] = refl
digits_parted-is n (b ∷ bytes) = by (b == 0x20) refl (below 10 (hex_value b)) refl (words_of bytes) (λ d. digits_parted-is (n * 10 + d) bytes)
  where
    by : (space : Bool) → (b == 0x20) ≡ space → (digit : Option ℕ) → below 10 (hex_value b) ≡ digit → (words : List (List ℕ))
        → ((d : ℕ) → digits_parted (n * 10 + d) bytes ≡ value_first (n * 10 + d) words)
        → option_map_or (λ d. digits_parted (n * 10 + d) bytes) digit (cond {A = Option (ℕ × List (List ℕ))} space (Some (n, words)) None)
        ≡ value_first n (cond space ([] ∷ words) (longer_first b words))
    by true is None digit words more = refl
    by true is (Some d) digit words more =
        let none = sym digit ∙ no_digit b is in
        absurd (cc)
    by false is None digit [] more = rw digit refl
    by false is None digit (word ∷ words) more = rw digit refl
    by false is (Some d) digit [] more = rw digit (more d)
    by false is (Some d) digit (word ∷ words) more = rw digit (more d)

limited-first : (number : Option ℕ) (words : List (List ℕ)) → limited (option_map (λ m. (m, words)) number) ≡ number_first number words
limited-first None words = refl
limited-first (Some n) words = by (nat_lt n (2 ^ 32))
  where
    by : (small : Bool) → cond {A = Option (ℕ × List (List ℕ))} small (Some (n, words)) None ≡ ◌>>=◌ {B = ℕ × List (List ℕ)} (cond small (Some n) None) (λ m. Some (m, words))
    by true = refl
    by false = refl

-- a word that begins with a digit but 0 is the number that its digits spell
pub first_number_some : (b d : ℕ) (bytes : List ℕ) → (b == 0x30) ≡ false → below 10 (hex_value b) ≡ Some d → limited (digits_parted d bytes) ≡ first_number (words_of (b ∷ bytes))
first_number_some b d bytes other digit = by (b == 0x20) refl (words_of bytes) (ap limited (digits_parted-is d bytes))
  where
    first : d ≡ 0 * 10 + d
    first = omega arith

    by : (space : Bool) → (b == 0x20) ≡ space → (words : List (List ℕ)) → limited (digits_parted d bytes) ≡ limited (value_first d words)
        → limited (digits_parted d bytes) ≡ first_number (cond space ([] ∷ words) (longer_first b words))
    by true is words same =
        let none = sym digit ∙ no_digit b is in
        absurd (cc)
    by false is [] same = same ∙ limited-first (Some d) [] ∙ rw (other, digit) (ap (λ (m : ℕ). number_first (Some m) []) first)
    by false is (word ∷ words) same = same ∙ limited-first (digits_value 10 d word) words ∙ rw (other, digit) (ap (λ (m : ℕ). number_first (digits_value 10 m word) words) first)

-- a number past 32 bits stays so
pub parted-past : (n : ℕ) (bytes : List ℕ) → 2 ^ 32 ≤ n → limited (digits_parted n bytes) ≡ None
parted-past n [] past = rw (le-ltb n (2 ^ 32) past) refl
parted-past n (b ∷ bytes) past = by (b == 0x20) (below 10 (hex_value b)) (λ d. parted-past (n * 10 + d) bytes (omega (arith, past)))
  where
    by : (space : Bool) (digit : Option ℕ) → ((d : ℕ) → limited (digits_parted (n * 10 + d) bytes) ≡ None)
        → limited (option_map_or (λ d. digits_parted (n * 10 + d) bytes) digit (cond {A = Option (ℕ × List (List ℕ))} space (Some (n, words_of bytes)) None)) ≡ None
    by space (Some d) later = later d
    by true None later = rw (le-ltb n (2 ^ 32) past) refl
    by false None later = refl

-- one more digit
pub parted-next : (n : ℕ) (bytes : List ℕ) (i d : ℕ) → i < length bytes → Some d ≡ below 10 (hex_value (get_or bytes i 0)) → digits_parted n (drop i bytes) ≡ digits_parted (n * 10 + d) (drop (i + 1) bytes)
parted-next n bytes i d under digit = rw (add-one, drop-cons bytes i 0, ← digit) refl
