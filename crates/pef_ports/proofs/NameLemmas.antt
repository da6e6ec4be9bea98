-- How the text of a name is put together.
use Rattle.std.proofs.Common.{◌≡◌, ◌&&◌, ℕ, ◌+◌, ◌-◌, ◌<◌, ◌≤◌, ◌/◌, ◌*◌, Bool, true, false, List, [], ◌∷◌, ◌++◌, length, get_or, take, drop, refl, sym, ap, ◌∙◌, append_assoc, arith}
use Rattle.std.proofs.Math.Bool.{and_assoc}
use Rattle.std.proofs.Math.Seq.{take-add}
use Rattle.std.proofs.lemmas.List.{at_drop_more, drop-drop, take-append-drop, take_more}
use Rattle.std.proofs.lemmas.Bool.{and_parts}
use Rattle.pef_ports.specs.Kept.Plain.{are_plain}
use Rattle.pef_ports.specs.Names.{byte_text, is_plain_byte, name_text}

-- a byte that is printed unchanged
plain_text : (b : ℕ) → is_plain_byte b ≡ true → byte_text b ≡ b ∷ []
unfolding byte_text
plain_text b plain = rw plain refl

-- one more byte at the front that is printed unchanged
pub plain_more : (name : List ℕ) (i : ℕ) → i < length name → is_plain_byte (get_or name i 0) ≡ true → name_text name ≡ take i name ++ name_text (drop i name) → name_text name ≡ take (i + 1) name ++ name_text (drop (i + 1) name)
plain_more name i under plain so_far =
    let rest = name_text (drop (i + 1) name) in
    let b = get_or name i 0 in
    so_far
    ∙ ap (λ (t : List ℕ). take i name ++ t) (at_drop_more name_text name i 0 under ∙ ap (λ (t : List ℕ). t ++ rest) (plain_text b plain))
    ∙ sym (append_assoc (take i name) (b ∷ []) rest)
    ∙ ap (λ (t : List ℕ). t ++ rest) (sym (take_more name i 0 under))

-- the text of no byte
pub no_text : (name : List ℕ) → length name ≡ 0 → name_text name ≡ []
no_text [] none = refl
no_text (b ∷ name) none = absurd (omega arith)

-- a name of plain bytes
pub plain_name : (name : List ℕ) → are_plain name ≡ true → name_text name ≡ name
plain_name [] plain = refl
plain_name (b ∷ name) plain =
    let parts = and_parts (is_plain_byte b) (are_plain name) plain in
    ap (λ (t : List ℕ). t ++ name_text name) (plain_text b parts.0) ∙ ap (λ (t : List ℕ). b ∷ t) (plain_name name parts.1)

-- nothing more
pub and-true : (x : Bool) → (x && true) ≡ x
and-true true = refl
and-true false = refl

-- bytes after others
pub plain-append : (xs ys : List ℕ) → are_plain (xs ++ ys) ≡ (are_plain xs && are_plain ys)
plain-append [] ys = refl
plain-append (b ∷ xs) ys = ap (λ (x : Bool). is_plain_byte b && x) (plain-append xs ys) ∙ sym (and_assoc (is_plain_byte b) (are_plain xs) (are_plain ys))

twice : (x y z : Bool) → ((x && y) && (y && z)) ≡ ((x && y) && z)
twice true true z = refl
twice true false z = refl
twice false y z = refl

-- some bytes at the front, and some at the end that leave none between them
pub plain-ends : (name : List ℕ) (k j : ℕ) → j ≤ k → (are_plain (take k name) && are_plain (drop j name)) ≡ are_plain name
plain-ends name k j before =
    let n = k - j in
    let all : j + n ≡ k = omega (arith, before) in
    let front = ap (λ (m : ℕ). are_plain (take m name)) (sym all) ∙ (ap are_plain (take-add j n name) ∙ plain-append (take j name) (take n (drop j name))) in
    let end = ap are_plain (sym (take-append-drop n (drop j name))) ∙ plain-append (take n (drop j name)) (drop n (drop j name)) in
    let whole = ap are_plain (sym (take-append-drop k name)) ∙ plain-append (take k name) (drop k name) in
    let rest : drop n (drop j name) ≡ drop k name = drop-drop n j name ∙ ap (λ (m : ℕ). drop m name) all in
    ap (λ (x : Bool). x && are_plain (drop j name)) front
    ∙ (ap (λ (x : Bool). (are_plain (take j name) && are_plain (take n (drop j name))) && x) (end ∙ ap (λ (xs : List ℕ). are_plain (take n (drop j name)) && are_plain xs) rest)
    ∙ (twice (are_plain (take j name)) (are_plain (take n (drop j name))) (are_plain (drop k name))
    ∙ (ap (λ (x : Bool). x && are_plain (drop k name)) (sym front) ∙ sym whole)))

-- an array more at the front
pub plain-more-arrays : (rest chunk after : List ℕ) → chunk ≡ take 16 rest → after ≡ drop 16 rest → length after + 16 ≡ length rest
    → are_plain (take (length rest / 16 * 16) rest) ≡ (are_plain chunk && are_plain (take (length after / 16 * 16) after))
plain-more-arrays rest chunk after front back len =
    let all : length rest / 16 * 16 ≡ 16 + length after / 16 * 16 = omega (arith, len) in
    ap (λ (n : ℕ). are_plain (take n rest)) all
    ∙ (ap are_plain (take-add 16 (length after / 16 * 16) rest)
    ∙ (plain-append (take 16 rest) (take (length after / 16 * 16) (drop 16 rest))
    ∙ rw (front, sym back) refl))
