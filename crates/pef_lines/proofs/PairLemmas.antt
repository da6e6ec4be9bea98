-- Bytes that pairs of hex digits spell.
use Rattle.std.proofs.Common.{◌≡◌, ℕ, zero, suc, ◌+◌, ◌*◌, ◌<◌, true, false, ◌&&◌, List, [], ◌∷◌, ◌++◌, Option, None, Some, length, drop, take, get_or, is_some, refl, sym, ap, ◌∙◌, append_assoc, drop-cons, arith}
use Rattle.std.proofs.Math.ListN.{set}
use Rattle.std.proofs.lemmas.List.{take_more_set}
use Rattle.std.specs.Prelude.{unwrap_or}
use Rattle.std.specs.List.{list_all}
use Rattle.std.specs.Option.{option_and_then, option_map}
use Rattle.pef_lines.specs.Numbers.{hex_value}
use Rattle.pef_lines.specs.Pairs.{hex_byte, hex_bytes}
use Rattle.pef_lines.specs.Kept.Pairs.{is_hex}
use Rattle.pef_lines.specs.Views.{bytes_of_pairs, digit_value}

-- without the bytes after it, a pair is none
none_after : (pair : Option ℕ) → option_and_then (λ byte. option_map (λ bytes. byte ∷ bytes) None) pair ≡ None
none_after None = refl
none_after (Some byte) = refl

-- an odd number of digits spells nothing
pub pairs_of-odd : (k : ℕ) (digits : List ℕ) → length digits ≡ 2 * k + 1 → hex_bytes digits ≡ None
pairs_of-odd k [] odd = absurd (omega arith)
pairs_of-odd k (high ∷ []) odd = refl
pairs_of-odd zero (high ∷ low ∷ digits) odd = absurd (omega arith)
pairs_of-odd (suc k) (high ∷ low ∷ digits) odd = rw (pairs_of-odd k digits (omega arith)) (none_after (hex_byte high low))

-- if one byte is no hex digit, nothing is spelled
pub pairs_of-bad : (digits : List ℕ) → list_all is_hex digits ≡ false → hex_bytes digits ≡ None
pairs_of-bad [] bad = absurd (cc)
pairs_of-bad (high ∷ []) bad = refl
pairs_of-bad (high ∷ low ∷ digits) bad = by (hex_value high) (hex_value low) bad (pairs_of-bad digits)
  where
    by : (h l : Option ℕ) → (is_some h && (is_some l && list_all is_hex digits)) ≡ false → (list_all is_hex digits ≡ false → hex_bytes digits ≡ None)
        → option_and_then (λ byte. option_map (λ bytes. byte ∷ bytes) (hex_bytes digits)) (option_and_then (λ x. option_map (λ y. x * 16 + y) l) h) ≡ None
    by None l bad others = refl
    by (Some x) None bad others = refl
    by (Some x) (Some y) bad others = rw (others bad) refl

-- otherwise the bytes are those of the digits' values
pub pairs_of-good : (k : ℕ) (digits : List ℕ) → length digits ≡ 2 * k → list_all is_hex digits ≡ true → hex_bytes digits ≡ Some (bytes_of_pairs digits)
pairs_of-good k [] even good = refl
pairs_of-good zero (high ∷ digits) even good = absurd (omega arith)
pairs_of-good (suc k) (high ∷ []) even good = absurd (omega arith)
pairs_of-good (suc k) (high ∷ low ∷ digits) even good = by (hex_value high) (hex_value low) good (pairs_of-good k digits (omega arith))
  where
    by : (h l : Option ℕ) → (is_some h && (is_some l && list_all is_hex digits)) ≡ true → (list_all is_hex digits ≡ true → hex_bytes digits ≡ Some (bytes_of_pairs digits))
        → option_and_then (λ byte. option_map (λ bytes. byte ∷ bytes) (hex_bytes digits)) (option_and_then (λ x. option_map (λ y. x * 16 + y) l) h)
        ≡ Some ((unwrap_or h 0 * 16 + unwrap_or l 0) ∷ bytes_of_pairs digits)
    by None l good others = absurd (cc)
    by (Some x) None good others = absurd (cc)
    by (Some x) (Some y) good others = rw (others good) refl

-- there is a byte for each pair
pub length-spelled : (k : ℕ) (digits : List ℕ) → length digits ≡ 2 * k → length (bytes_of_pairs digits) ≡ k
length-spelled zero [] even = refl
length-spelled (suc k) [] even = absurd (omega arith)
length-spelled zero (high ∷ digits) even = absurd (omega arith)
length-spelled (suc k) (high ∷ []) even = absurd (omega arith)
length-spelled (suc k) (high ∷ low ∷ digits) even = let e = length-spelled k digits (omega arith) in omega (arith, e)

-- one more byte that is written is that of the first pair that is left
pub spelled-next : (digits bytes : List ℕ) (i : ℕ) → 2 * i + 1 < length digits → i < length bytes
    → take (i + 1) (set bytes i (digit_value (get_or digits (2 * i) 0) * 16 + digit_value (get_or digits (2 * i + 1) 0))) ++ bytes_of_pairs (drop (2 * (i + 1)) digits)
    ≡ take i bytes ++ bytes_of_pairs (drop (2 * i) digits)
spelled-next digits bytes i under room =
    let high = get_or digits (2 * i) 0 in
    let low = get_or digits (2 * i + 1) 0 in
    let next : drop (2 * i) digits ≡ high ∷ low ∷ drop (2 * (i + 1)) digits =
    (let e : 2 * (i + 1) ≡ suc (2 * i + 1) = omega arith in
    let one : suc (2 * i) ≡ 2 * i + 1 = omega arith in
    drop-cons digits (2 * i) 0 (omega arith) ∙ rw (one, drop-cons digits (2 * i + 1) 0 under, e) refl) in
    let byte = digit_value high * 16 + digit_value low in
    ap (λ written. written ++ bytes_of_pairs (drop (2 * (i + 1)) digits)) (take_more_set bytes i byte room)
    ∙ append_assoc (take i bytes) (byte ∷ []) (bytes_of_pairs (drop (2 * (i + 1)) digits))
    ∙ ap (λ left. take i bytes ++ bytes_of_pairs left) (sym next)
