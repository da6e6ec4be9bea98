-- Bytes that need no escape in a string.
use Rattle.std.proofs.Common.{◌≡◌, ◌&&◌, ◌==◌, ℕ, ◌+◌, ◌<◌, Bool, true, false, not, List, [], ◌∷◌, ◌++◌, length, get_or, take, drop, nat_le, refl, sym, ap, ◌∙◌, append_assoc, arith}
use Rattle.std.proofs.lemmas.List.{at_drop_more, take_more}
use Rattle.std.proofs.lemmas.Bool.{and_parts, not-true}
use Rattle.pef_rows.specs.Kept.Plain.{are_plain}
use Rattle.pef_rows.specs.Strings.{byte_string, is_plain, string_text}

-- a byte that needs no escape
plain_text : (b : ℕ) → is_plain b ≡ true → byte_string b ≡ b ∷ []
unfolding byte_string
plain_text b plain =
    let parts = and_parts (nat_le 0x20 b && nat_le b 0x7E) (not (b == 34) && not (b == 92)) plain in
    let others = and_parts (not (b == 34)) (not (b == 92)) parts.1 in
    let no_quote : (b == 34) ≡ false = not-true (b == 34) others.0 in
    let no_slash : (b == 92) ≡ false = not-true (b == 92) others.1 in
    rw no_quote (rw no_slash (rw parts.0 refl))

-- if the first i bytes need no escape and neither does the next one, the first i + 1 need none
pub plain_more : (name : List ℕ) (i : ℕ) → i < length name → is_plain (get_or name i 0) ≡ true → string_text name ≡ take i name ++ string_text (drop i name) → string_text name ≡ take (i + 1) name ++ string_text (drop (i + 1) name)
plain_more name i under plain so_far =
    let rest = string_text (drop (i + 1) name) in
    let b = get_or name i 0 in
    so_far
    ∙ ap (λ (t : List ℕ). take i name ++ t) (at_drop_more string_text name i 0 under ∙ ap (λ (t : List ℕ). t ++ rest) (plain_text b plain))
    ∙ sym (append_assoc (take i name) (b ∷ []) rest)
    ∙ ap (λ (t : List ℕ). t ++ rest) (sym (take_more name i 0 under))

-- the text of no byte
pub no_text : (name : List ℕ) → length name ≡ 0 → string_text name ≡ []
no_text [] none = refl
no_text (b ∷ name) none = absurd (omega arith)

-- a name of bytes that need no escape
pub plain_name : (name : List ℕ) → are_plain name ≡ true → string_text name ≡ name
plain_name [] plain = refl
plain_name (b ∷ name) plain =
    let parts = and_parts (is_plain b) (are_plain name) plain in
    ap (λ (t : List ℕ). t ++ string_text name) (plain_text b parts.0) ∙ ap (λ (t : List ℕ). b ∷ t) (plain_name name parts.1)

pub and-true : (x : Bool) → (x && true) ≡ x
and-true true = refl
and-true false = refl
