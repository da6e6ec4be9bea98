-- The instructions of the bytes before a place.
use Rattle.std.proofs.Common.{◌≡◌, ℕ, ◌+◌, ◌*◌, ◌-◌, ◌/◌, ◌%◌, ◌≤◌, ◌==◌, Bool, true, false, List, [], ◌∷◌, drop, length, take, nat_le, Option, None, Some, Ok, refl, ap, sym, subst, ◌∙◌, arith}
use Rattle.std.proofs.lemmas.Bool.{le-leb, leb-true, leb-false, lt-leb}
use Rattle.std.proofs.lemmas.List.{drop-take, length-take}
use Rattle.std.specs.Option.{is_some}
use Rattle.byteorder.specs.Endian.{big_number}
use Rattle.byteorder.specs.Numbers.{big_from-take}
use Rattle.pef_words.specs.Bytes.{number_at}
use Rattle.pef_words.specs.Refusals.{◌>>=◌}
use Rattle.pef_reloc.specs.declared.instr.Instr.{Instr}
use Rattle.pef_reloc.specs.declared.instr.Repeat.{Repeat}
use Rattle.pef_reloc.specs.declared.instr.Instr.TheVariants.{SetPosition, LgByImport, LgRepeat, LgBySection, LgSetSectC, LgSetSectD}
use Rattle.pef_reloc.specs.Instrs.{instr_length}
use Rattle.pef_reloc.specs.Decoding.{Code, code_at, first_instr, instr_of, long_instr, short_instr, short_or_long}
use Rattle.pef_reloc.specs.Unrolled.{block_of, repeat_fault}
use Rattle.pef_reloc.specs.Kept.Executions.{behind}
use Rattle.pef_reloc.specs.Kept.Places.{Before, Spans}
use Rattle.pef_reloc.proofs.Blocks.{repeat-reach, spans-order}
use Rattle.pef_reloc.proofs.CodeLemmas.{code-end, code-next, some_length}
use Rattle.pef_reloc.proofs.Readback.{gated, picked}

-- a halfword before a place is the same in the bytes before that place
test_same : (n k : ℕ) (xs : List ℕ) → k + 2 ≤ n → nat_le (k + 2) (length (take n xs)) ≡ nat_le (k + 2) (length xs)
test_same n k xs fits = go (nat_le (k + 2) (length xs)) refl where
  go : (b : Bool) → nat_le (k + 2) (length xs) ≡ b → nat_le (k + 2) (length (take n xs)) ≡ b
  go true e = let under = leb-true _ _ e in le-leb _ _ (omega (arith, under, length-take n xs))
  go false e = let past = leb-false _ _ e in lt-leb _ _ (omega (arith, past, length-take n xs))

front_same : (n k : ℕ) (xs : List ℕ) → k + 2 ≤ n → big_number 2 (drop k (take n xs)) ≡ big_number 2 (drop k xs)
front_same n k xs fits =
    let parted : n ≡ k + (n - k) = omega arith in
    let front : drop k (take n xs) ≡ take (n - k) (drop k xs) = subst (λ m. drop k (take m xs) ≡ take (n - k) (drop k xs)) (sym parted) (drop-take k (n - k) xs) in
    ap (big_number 2) front ∙ big_from-take 0 2 (n - k) (drop k xs) (omega arith)

number_at-take : (n k : ℕ) (xs : List ℕ) → k + 2 ≤ n → number_at 2 (take n xs) k ≡ number_at 2 xs k
unfolding number_at
number_at-take n k xs fits = rw (test_same n k xs fits, front_same n k xs fits) refl

-- an instruction of two halfwords
long_length : (w v : ℕ) (x : Instr) → long_instr w v ≡ Some x → instr_length x ≡ 2
unfolding long_instr
long_length w v x =
    let P : Instr → Type 0 = λ i. instr_length i ≡ 2 in
    let k : ℕ = w % 64 * 0x10000 + v in
    picked P (w / 1024 == 0x28) (SetPosition (w % 1024 * 0x10000 + v)) _ x (λ e. refl)
    (picked P (w / 1024 == 0x29) (LgByImport (w % 1024 * 0x10000 + v)) _ x (λ e. refl)
    (picked P (w / 1024 == 0x2C) (LgRepeat (w / 64 % 16 + 1) k) _ x (λ e. refl)
    (gated P (w / 1024 == 0x2D) _ x
    (λ e. picked P (w / 64 % 16 == 0) (LgBySection k) _ x (λ e. refl)
    (picked P (w / 64 % 16 == 1) (LgSetSectC k) _ x (λ e. refl)
    (picked P (w / 64 % 16 == 2) (LgSetSectD k) None x (λ e. refl)
    (λ none. absurd (cc none))))))))

not_long : (at : ℕ) (found : Option Instr) (x : Instr) → ((y : Instr) → found ≡ Some y → instr_length y ≡ 2) → instr_length x ≤ 1 → short_or_long at None true found ≡ Ok x → ⊥
not_long at None x two one e = cc e
not_long at (Some y) x two one e =
    let same : y ≡ x = cc e in
    let twice : instr_length x ≡ 2 = subst (λ i. instr_length i ≡ 2) same (two y refl) in
    omega (arith, one, twice)

-- one of a single halfword is the same whatever follows
chosen : (at w : ℕ) (short : Option Instr) (begins : Bool) (second second' : Option ℕ) (x : Instr) → instr_length x ≤ 1 → short_or_long at short begins (second >>= long_instr w) ≡ Ok x → short_or_long at short begins (second' >>= long_instr w) ≡ Ok x
chosen at w (Some y) begins second second' x one e = e
chosen at w None false second second' x one e = absurd (cc e)
chosen at w None true None second' x one e = absurd (cc e)
chosen at w None true (Some v) second' x one e = absurd (not_long at (long_instr w v) x (long_length w v) one e)

alone : (at : ℕ) (first second second' : Option ℕ) (x : Instr) → instr_length x ≤ 1 → instr_of at first second ≡ Ok x → instr_of at first second' ≡ Ok x
alone at None second second' x one e = absurd (cc e)
alone at (Some w) second second' x one e = chosen at w (short_instr w) (is_some (long_instr w 0)) second second' x one e

-- an instruction in front of a place is the same in the bytes before that place
first_instr-take : (at n : ℕ) (bytes : List ℕ) (x : Instr) → 2 * instr_length x ≤ n → first_instr at bytes ≡ Ok x → first_instr at (take n bytes) ≡ Ok x
unfolding first_instr
first_instr-take at n bytes x fits e = go (nat_le 4 n) refl where
  go : (b : Bool) → nat_le 4 n ≡ b → instr_of at (number_at 2 (take n bytes) 0) (number_at 2 (take n bytes) 2) ≡ Ok x
  go true t =
      let under = leb-true _ _ t in
      rw (number_at-take n 0 bytes (omega arith), number_at-take n 2 bytes (omega (arith, under))) e
  go false t =
      let past = leb-false _ _ t in
      let some = some_length x in
      rw (number_at-take n 0 bytes (omega (arith, some))) (alone at (number_at 2 bytes 0) (number_at 2 bytes 2) _ x (omega (arith, past)) e)

-- the instructions between two places are read from the bytes before the second
spans-code : (bytes : List ℕ) (from : ℕ) (block : List Instr) (to : ℕ) → to ≤ length bytes → Spans bytes from block to → (code_at from (drop from (take to bytes))).instrs ≡ block
spans-code bytes from [] to inside spans = ap (λ (k : Code). k.instrs) (code-end (take to bytes) from (omega (arith, spans, length-take to bytes)))
spans-code bytes from (x ∷ xs) to inside spans =
    let later = spans-order bytes (from + 2 * instr_length x) xs to spans.1 in
    let some = some_length x in
    let parted : to ≡ from + (to - from) = omega (arith, later) in
    let front : drop from (take to bytes) ≡ take (to - from) (drop from bytes) = subst (λ m. drop from (take m bytes) ≡ take (to - from) (drop from bytes)) (sym parted) (drop-take from (to - from) bytes) in
    let here : first_instr from (drop from (take to bytes)) ≡ Ok x = rw front (first_instr-take from (to - from) (drop from bytes) x (omega (arith, later)) spans.0) in
    ap (λ (k : Code). k.instrs) (code-next (take to bytes) from x (omega (arith, later, some, inside, length-take to bytes)) here)
    ∙ ap (λ instrs. x ∷ instrs) (spans-code bytes (from + 2 * instr_length x) xs to inside spans.1)

-- the block of a repeat that isn't refused
pub behind-block : (bytes : List ℕ) (before : List Instr) (r : Repeat) (at : ℕ) → at ≤ length bytes → Before bytes before at → repeat_fault before (Some r) ≡ None → behind bytes at r.blocks ≡ block_of before r
unfolding behind
behind-block bytes before r at inside stands none = spans-code bytes (at - 2 * r.blocks) (block_of before r) at inside (repeat-reach bytes before r at stands none).spans
