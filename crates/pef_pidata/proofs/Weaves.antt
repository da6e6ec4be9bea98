-- Parts with a common part between them.
use Rattle.std.proofs.Common.{◌≡◌, ℕ, zero, suc, ◌+◌, ◌-◌, ◌*◌, ◌<◌, ◌≤◌, List, ◌++◌, length, take, drop, sym, ap, ◌∙◌, arith, append_assoc}
use Rattle.std.proofs.lemmas.List.{length-append, length-take-le, length-drop, drop-drop}
use Rattle.std.proofs.Math.Nat.{mul-le-mul_left}
use Rattle.std.proofs.lemmas.Slice.{take-put_mid}
use borrow.Rule.Slice.PartMut.{put_mid}
use Rattle.pef_pidata.specs.Pattern.{woven}

-- how long woven parts are
pub length-woven : (n size : ℕ) (common parts : List ℕ) → length parts ≡ size * n → length (woven n size common parts) ≡ length common * (n + 1) + size * n
length-woven zero size common parts len = omega arith
length-woven (suc n) size common parts len =
    let within : size ≤ length parts = omega arith in
    let rest : length (drop size parts) ≡ size * n = omega (arith, length-drop size parts) in
    omega (arith, length-append common (take size parts ++ woven n size common (drop size parts)), length-append (take size parts) (woven n size common (drop size parts)), length-take-le size parts within, length-woven n size common (drop size parts) rest)

-- one more part after the common part
pub part_written : (count size i at next k : ℕ) (common parts target piece all : List ℕ) → i < count → at ≤ length target → next ≡ at + (length common + size) → length parts ≡ size * count
    → piece ≡ common ++ take size (drop (i * size) parts) → take at target ++ woven (count - i) size common (drop (i * size) parts) ≡ all
    → take next (put_mid at k target piece) ++ woven (count - (i + 1)) size common (drop ((i + 1) * size) parts) ≡ all
part_written count size i at next k common parts target piece all under inside next_is len piece_is before =
    let up : i + 1 ≤ count = omega arith in
    let within : size ≤ length (drop (i * size) parts) = omega (arith, length-drop (i * size) parts, mul-le-mul_left size up) in
    let piece_len : length piece ≡ length common + size = ap length piece_is ∙ length-append common (take size (drop (i * size) parts)) ∙ ap (λ n. length common + n) (length-take-le size (drop (i * size) parts) within) in
    let left : count - i ≡ suc (count - (i + 1)) = omega arith in
    let rest : drop ((i + 1) * size) parts ≡ drop size (drop (i * size) parts) = (let e : (i + 1) * size ≡ i * size + size = omega arith in rw e (sym (drop-drop size (i * size) parts))) in
    let now : take at target ++ (common ++ (take size (drop (i * size) parts) ++ woven (count - (i + 1)) size common (drop size (drop (i * size) parts)))) ≡ all = rw left at before in
    let written : take next (put_mid at k target piece) ≡ take at target ++ piece = take-put_mid at k target piece next (omega arith) inside in
    rw (written, rest, piece_is) (append_assoc (take at target) (common ++ take size (drop (i * size) parts)) _ ∙ ap (λ xs. take at target ++ xs) (append_assoc common (take size (drop (i * size) parts)) _) ∙ now)
