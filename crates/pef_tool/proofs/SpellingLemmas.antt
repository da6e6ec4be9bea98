-- A text is compared piece by piece.
use Rattle.std.proofs.Common.{◌≡◌, ◌==◌, ◌&&◌, ◌/◌, ◌%◌, ◌∷◌, ◌++◌, ◌∙◌, [], Bool, true, false, List, None, Option, Some, ap, cond, refl, sym, ℕ}
use Rattle.std.specs.Str.{bytes_eq}
use Rattle.pef_ports.specs.Names.{byte_text, is_plain_byte}
use Rattle.pef_ports.specs.Text.{hex_digit}
use Rattle.pef_words.specs.Refusals.{◌>>=◌}
use Rattle.pef_tool.specs.Kept.Spelling.{after}

-- a byte as it is printed
pub byte-plain : (b : ℕ) → true ≡ is_plain_byte b → byte_text b ≡ b ∷ []
unfolding byte_text
byte-plain b is = rw (sym is) refl

pub byte-escaped : (b : ℕ) → false ≡ is_plain_byte b → byte_text b ≡ 37 ∷ hex_digit (b / 16) ∷ hex_digit (b % 16) ∷ []
unfolding byte_text
byte-escaped b is = rw (sym is) refl

-- what is left is compared with what is left
pub after-some : (p t xs r : List ℕ) → after p xs ≡ Some r → bytes_eq (p ++ t) xs ≡ bytes_eq t r
after-some [] t xs r is = ap (bytes_eq t) (cc is)
after-some (b ∷ p) t [] r is = absurd (cc is)
after-some (b ∷ p) t (x ∷ xs) r is = by (b == x) refl is (after-some p t xs r)
  where
    by : (same : Bool) → (b == x) ≡ same → cond same (after p xs) None ≡ Some r → (after p xs ≡ Some r → bytes_eq (p ++ t) xs ≡ bytes_eq t r) → bytes_eq (b ∷ (p ++ t)) (x ∷ xs) ≡ bytes_eq t r
    by true same rest next = ap (λ s. s && bytes_eq (p ++ t) xs) same ∙ next rest
    by false same rest next = absurd (cc rest)

-- and if the piece isn't there, the texts differ
pub after-none : (p t xs : List ℕ) → after p xs ≡ None → bytes_eq (p ++ t) xs ≡ false
after-none [] t xs is = absurd (cc is)
after-none (b ∷ p) t [] is = refl
after-none (b ∷ p) t (x ∷ xs) is = by (b == x) refl is (after-none p t xs)
  where
    by : (same : Bool) → (b == x) ≡ same → cond same (after p xs) None ≡ None → (after p xs ≡ None → bytes_eq (p ++ t) xs ≡ false) → bytes_eq (b ∷ (p ++ t)) (x ∷ xs) ≡ false
    by true same rest next = ap (λ s. s && bytes_eq (p ++ t) xs) same ∙ next rest
    by false same rest next = ap (λ s. s && bytes_eq (p ++ t) xs) same

-- what follows one byte, and then others
pub after-then : (b : ℕ) (p xs : List ℕ) (r : Option (List ℕ)) → r ≡ after (b ∷ []) xs → after (b ∷ p) xs ≡ (r >>= after p)
after-then b p [] r is = ap (λ o. o >>= after p) (sym is)
after-then b p (x ∷ xs) r is = by (b == x) refl ∙ ap (λ o. o >>= after p) (sym is)
  where
    by : (same : Bool) → (b == x) ≡ same → cond (b == x) (after p xs) None ≡ (cond (b == x) (Some xs) None >>= after p)
    by true same = rw same refl
    by false same = rw same refl
