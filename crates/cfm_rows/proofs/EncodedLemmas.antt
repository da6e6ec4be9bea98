-- Bytes in base64, piece by piece.
use Rattle.std.proofs.Common.{◌≡◌, ◌+◌, ◌%◌, ℕ, List, ◌++◌, length, take, drop, ap, ap₂, sym, ◌∙◌, arith}
use Rattle.std.proofs.lemmas.List.{length-take-le, take-append-drop}
use Rattle.base64.proofs.EngineFacts.{encode_of-append}
use Rattle.base64.specs.Engines.{standard}
use Rattle.base64.specs.GeneralPurpose.{encode_of}
use Rattle.cfm_rows.specs.Encoded.{base64_text}

-- whole groups of three bytes are encoded apart from the bytes after them
pub encoded_more : (bytes chunk after : List ℕ) → chunk ≡ take 192 bytes → after ≡ drop 192 bytes → length after + 192 ≡ length bytes → base64_text bytes ≡ base64_text chunk ++ base64_text after
unfolding base64_text
encoded_more bytes chunk after front rest len =
    let whole : length (take 192 bytes) ≡ 192 = length-take-le 192 bytes (omega (arith, len)) in
    let groups : length (take 192 bytes) % 3 ≡ 0 = omega (arith, whole) in
    ap (encode_of standard) (sym (take-append-drop 192 bytes))
    ∙ encode_of-append standard (take 192 bytes) (drop 192 bytes) groups
    ∙ ap₂ (λ (t u : List ℕ). encode_of standard t ++ encode_of standard u) (sym front) (sym rest)
