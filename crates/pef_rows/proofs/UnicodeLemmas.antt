-- The characters of a text, one after the other.
use Rattle.std.proofs.Common.{◌∙◌, ◌≡◌, ℕ, ◌++◌, ◌&&◌, Bool, true, false, List, [], ◌∷◌, Some, ap, sym, refl}
use Rattle.std.specs.List.{slice_get}
use Rattle.std.specs.Option.{unwrap_or}
use Rattle.std.specs.Str.{IsUtf8, all_scalars, chars, encode_utf8_all, is_utf8}
use Rattle.std.specs.Char.{encode_utf8}
use Rattle.std.proofs.lemmas.List.{append_cancel_left}
use Rattle.std.proofs.lemmas.Str.{IsUtf8-from_is_utf8, chars-encodes, encodes-chars, scalars-chars}

-- the first character, and then those of the rest
pub record IsNext (rest after : List ℕ) (c : ℕ) : Type 0 where
  pub chars_are : chars rest ≡ c ∷ chars after
  pub utf8 : IsUtf8 after

rest-true : (b d : Bool) → b && d ≡ true → d ≡ true
rest-true true d is = is
rest-true false d is = absurd (cc)

pub next_character : (rest after : List ℕ) (c : ℕ) → IsUtf8 rest → rest ≡ encode_utf8 c ++ after → Some c ≡ slice_get (chars rest) 0 → IsNext rest after c
next_character rest after c utf8 is first = by (chars rest) refl (scalars-chars rest utf8) (encodes-chars rest utf8) first
  where
    same : (d : ℕ) (cs : List ℕ) → chars rest ≡ c ∷ cs → all_scalars cs ≡ true → encode_utf8 c ++ encode_utf8_all cs ≡ rest → IsNext rest after c
    same d cs are scalar spells =
        let left : encode_utf8_all cs ≡ after = append_cancel_left (encode_utf8 c) (encode_utf8_all cs) after (spells ∙ is) in
        record {
          chars_are = are ∙ ap (λ xs. c ∷ xs) (sym (chars-encodes cs scalar) ∙ ap chars left);
          utf8 = (cs, (scalar, left));
        }

    by : (cs : List ℕ) → chars rest ≡ cs → all_scalars cs ≡ true → encode_utf8_all cs ≡ rest → Some c ≡ slice_get cs 0 → IsNext rest after c
    by [] are scalar spells first = absurd (cc)
    by (d ∷ cs) are scalar spells first =
        let here : c ≡ d = ap (λ o. unwrap_or o c) first in
        same d cs (are ∙ ap (λ x. x ∷ cs) (sym here)) (rest-true _ (all_scalars cs) scalar) (ap (λ x. encode_utf8 x ++ encode_utf8_all cs) here ∙ spells)

-- other bytes fail the test
pub not_utf8 : (bytes : List ℕ) → ¬ (IsUtf8 bytes) → is_utf8 bytes ≡ false
not_utf8 bytes wrong = by (is_utf8 bytes) refl
  where
    by : (b : Bool) → is_utf8 bytes ≡ b → b ≡ false
    by true is = absurd (let right = IsUtf8-from_is_utf8 bytes is in wrong right)
    by false is = refl
