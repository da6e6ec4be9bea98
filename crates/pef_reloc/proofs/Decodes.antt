-- The bytes that spell instructions decode to them.
use Rattle.std.proofs.Common.{◌≡◌, ℕ, suc, ◌+◌, ◌*◌, ◌-◌, ◌/◌, ◌%◌, ◌<◌, ◌≤◌, ◌==◌, true, false, ◌&&◌, nat_lt, nat_le, List, ◌++◌, length, None, Some, Ok, refl, ap, ◌∙◌, arith}
use Rattle.std.specs.Option.{is_some}
use Rattle.std.proofs.lemmas.Bool.{leb-true, ltb-true, lt-ltb, le-leb, ne_eqb, le-ltb, and_parts}
use Rattle.byteorder.specs.Endian.{big_bytes}
use Rattle.byteorder.specs.Numbers.{big_number-reads_back}
use Rattle.pef_words.specs.Bytes.{number_at}
use Rattle.pef_reloc.specs.declared.instr.Instr.{Instr}
use Rattle.pef_reloc.specs.declared.instr.Instr.TheVariants.{BySectDWithSkip, BySectC, BySectD, TVector12, TVector8, VTable8, ImportRun, SmByImport, SmSetSectC, SmSetSectD, SmBySection, IncrPosition, SmRepeat, SetPosition, LgByImport, LgRepeat, LgBySection, LgSetSectC, LgSetSectD}
use Rattle.pef_reloc.specs.Instrs.{halfword_bytes, halfwords_of, instr_fits}
use Rattle.pef_reloc.specs.Decoding.{first_instr, long_instr, opcode_instr, section_instr, short_instr}

-- the first and the second halfword of some bytes
first_word : (w : ℕ) (rest : List ℕ) → w < 0x10000 → number_at 2 (big_bytes 2 w ++ rest) 0 ≡ Some w
unfolding number_at
first_word w rest small =
    let two : nat_le 2 (suc (suc (length rest))) ≡ true = le-leb _ _ (omega arith) in
    rw two (ap (λ n. Some n) (big_number-reads_back 2 w rest small))

second_word : (w v : ℕ) (rest : List ℕ) → v < 0x10000 → number_at 2 (big_bytes 2 w ++ (big_bytes 2 v ++ rest)) 2 ≡ Some v
unfolding number_at
second_word w v rest small =
    let four : nat_le 4 (suc (suc (suc (suc (length rest))))) ≡ true = le-leb _ _ (omega arith) in
    rw four (ap (λ n. Some n) (big_number-reads_back 2 v rest small))

short_reads : (at : ℕ) (w : ℕ) (rest : List ℕ) (x : Instr) → w < 0x10000 → short_instr w ≡ Some x → first_instr at (big_bytes 2 w ++ rest) ≡ Ok x
unfolding first_instr
short_reads at w rest x small e = rw (first_word w rest small, e) refl

long_reads : (at : ℕ) (w v : ℕ) (rest : List ℕ) (x : Instr) → w < 0x10000 → v < 0x10000 → short_instr w ≡ None → is_some (long_instr w 0) ≡ true → long_instr w v ≡ Some x → first_instr at (big_bytes 2 w ++ (big_bytes 2 v ++ rest)) ≡ Ok x
unfolding first_instr
long_reads at w v rest x small low none begins e = rw (first_word w (big_bytes 2 v ++ rest) small, second_word w v rest low, none, begins, e) refl

-- a halfword with a seven-bit opcode
by_opcode : (w hi op k : ℕ) → w / 0x1000 ≡ hi → w / 512 ≡ op → w % 512 ≡ k → nat_lt hi 4 ≡ false → (hi == 8) ≡ false → (hi == 9) ≡ false → short_instr w ≡ opcode_instr op k
unfolding short_instr
by_opcode w hi op k high opcode number a b c = rw (high, opcode, number, a, b, c) refl

-- a count in nine bits, less one
counted : (at : ℕ) (base op n : ℕ) (rest : List ℕ) (x : Instr) → base ≡ op * 512 → op / 8 ≡ 4 → 1 ≤ n → n ≤ 512 → opcode_instr op (n - 1) ≡ Some x → first_instr at (big_bytes 2 (base + (n - 1)) ++ rest) ≡ Ok x
counted at base op n rest x is four low high e =
    short_reads at (base + (n - 1)) rest x (omega arith) (by_opcode (base + (n - 1)) 4 op (n - 1) (omega arith) (omega arith) (omega arith) refl refl refl ∙ e)

-- a number in nine bits
numbered_by : (at : ℕ) (base op k : ℕ) (rest : List ℕ) (x : Instr) → base ≡ op * 512 → op / 8 ≡ 6 → k < 512 → opcode_instr op k ≡ Some x → first_instr at (big_bytes 2 (base + k) ++ rest) ≡ Ok x
numbered_by at base op k rest x is six low e =
    short_reads at (base + k) rest x (omega arith) (by_opcode (base + k) 6 op k (omega arith) (omega arith) (omega arith) refl refl refl ∙ e)

one_less : (n : ℕ) → 1 ≤ n → n - 1 + 1 ≡ n
one_less n low = omega arith

not_under : (a b : ℕ) → b ≤ a → nat_lt a b ≡ false
not_under a b past = le-ltb a b past

-- no halfword from A000 on is an instruction by itself
none_past : (op k : ℕ) → 0x50 ≤ op → opcode_instr op k ≡ None
none_past op k past =
    rw (ne_eqb op 0x20 (omega arith), ne_eqb op 0x21 (omega arith), ne_eqb op 0x22 (omega arith), ne_eqb op 0x23 (omega arith), ne_eqb op 0x24 (omega arith), ne_eqb op 0x25 (omega arith), ne_eqb op 0x30 (omega arith), ne_eqb op 0x31 (omega arith), ne_eqb op 0x32 (omega arith), ne_eqb op 0x33 (omega arith)) refl

no_long_short : (w : ℕ) → 0xA000 ≤ w → w < 0x10000 → short_instr w ≡ None
unfolding short_instr
no_long_short w low high =
    let a : nat_lt (w / 0x1000) 4 ≡ false = not_under (w / 0x1000) 4 (omega arith) in
    rw (a, ne_eqb (w / 0x1000) 8 (omega arith), ne_eqb (w / 0x1000) 9 (omega arith)) (none_past (w / 512) (w % 512) (omega arith))

set_position : (w v : ℕ) → w / 1024 ≡ 0x28 → long_instr w v ≡ Some (SetPosition (w % 1024 * 0x10000 + v))
unfolding long_instr
set_position w v e = rw e refl

by_import : (w v : ℕ) → w / 1024 ≡ 0x29 → long_instr w v ≡ Some (LgByImport (w % 1024 * 0x10000 + v))
unfolding long_instr
by_import w v e = rw e refl

repeat_long : (w v : ℕ) → w / 1024 ≡ 0x2C → long_instr w v ≡ Some (LgRepeat (w / 64 % 16 + 1) (w % 64 * 0x10000 + v))
unfolding long_instr
repeat_long w v e = rw e refl

on_section : (w v op : ℕ) → w / 1024 ≡ 0x2D → w / 64 % 16 ≡ op → long_instr w v ≡ section_instr op (w % 64 * 0x10000 + v)
unfolding long_instr
on_section w v op e f = rw (e, f) refl

-- an instruction that fits begins the bytes that spell it, wherever they are
pub reads_back : (at : ℕ) (x : Instr) (rest : List ℕ) → instr_fits x ≡ true → first_instr at (halfword_bytes (halfwords_of x) ++ rest) ≡ Ok x
unfolding halfwords_of short_instr
reads_back at (BySectDWithSkip skip count) rest fits =
    let p = and_parts (nat_le skip 255) (nat_le count 63) fits in
    let few = leb-true skip 255 p.0 in
    let short = leb-true count 63 p.1 in
    let w : ℕ = skip * 64 + count in
    let first : nat_lt (w / 0x1000) 4 ≡ true = lt-ltb _ _ (omega arith) in
    let passed : w / 64 ≡ skip = omega arith in
    let added : w % 64 ≡ count = omega arith in
    short_reads at w rest (BySectDWithSkip skip count) (omega arith) (rw (first, passed, added) refl)
reads_back at (BySectC n) rest fits =
    let p = and_parts (nat_le 1 n) (nat_le n 512) fits in
    let low = leb-true 1 n p.0 in
    let high = leb-true n 512 p.1 in
    counted at 0x4000 0x20 n rest (BySectC n) refl refl low high (ap (λ k. Some (BySectC k)) (one_less n low))
reads_back at (BySectD n) rest fits =
    let p = and_parts (nat_le 1 n) (nat_le n 512) fits in
    let low = leb-true 1 n p.0 in
    let high = leb-true n 512 p.1 in
    counted at 0x4200 0x21 n rest (BySectD n) refl refl low high (ap (λ k. Some (BySectD k)) (one_less n low))
reads_back at (TVector12 n) rest fits =
    let p = and_parts (nat_le 1 n) (nat_le n 512) fits in
    let low = leb-true 1 n p.0 in
    let high = leb-true n 512 p.1 in
    counted at 0x4400 0x22 n rest (TVector12 n) refl refl low high (ap (λ k. Some (TVector12 k)) (one_less n low))
reads_back at (TVector8 n) rest fits =
    let p = and_parts (nat_le 1 n) (nat_le n 512) fits in
    let low = leb-true 1 n p.0 in
    let high = leb-true n 512 p.1 in
    counted at 0x4600 0x23 n rest (TVector8 n) refl refl low high (ap (λ k. Some (TVector8 k)) (one_less n low))
reads_back at (VTable8 n) rest fits =
    let p = and_parts (nat_le 1 n) (nat_le n 512) fits in
    let low = leb-true 1 n p.0 in
    let high = leb-true n 512 p.1 in
    counted at 0x4800 0x24 n rest (VTable8 n) refl refl low high (ap (λ k. Some (VTable8 k)) (one_less n low))
reads_back at (ImportRun n) rest fits =
    let p = and_parts (nat_le 1 n) (nat_le n 512) fits in
    let low = leb-true 1 n p.0 in
    let high = leb-true n 512 p.1 in
    counted at 0x4A00 0x25 n rest (ImportRun n) refl refl low high (ap (λ k. Some (ImportRun k)) (one_less n low))
reads_back at (SmByImport k) rest fits = numbered_by at 0x6000 0x30 k rest (SmByImport k) refl refl (ltb-true k 512 fits) refl
reads_back at (SmSetSectC k) rest fits = numbered_by at 0x6200 0x31 k rest (SmSetSectC k) refl refl (ltb-true k 512 fits) refl
reads_back at (SmSetSectD k) rest fits = numbered_by at 0x6400 0x32 k rest (SmSetSectD k) refl refl (ltb-true k 512 fits) refl
reads_back at (SmBySection k) rest fits = numbered_by at 0x6600 0x33 k rest (SmBySection k) refl refl (ltb-true k 512 fits) refl
reads_back at (IncrPosition e) rest fits =
    let p = and_parts (nat_le 1 e) (nat_le e 4096) fits in
    let low = leb-true 1 e p.0 in
    let high = leb-true e 4096 p.1 in
    let w : ℕ = 0x8000 + (e - 1) in
    let kind : w / 0x1000 ≡ 8 = omega arith in
    let moved : w % 4096 + 1 ≡ e = omega arith in
    short_reads at w rest (IncrPosition e) (omega arith) (rw (kind, moved) refl)
reads_back at (SmRepeat blocks count) rest fits =
    let p = and_parts (nat_le 1 blocks && nat_le blocks 16 && nat_le 1 count) (nat_le count 256) fits in
    let q = and_parts (nat_le 1 blocks && nat_le blocks 16) (nat_le 1 count) p.0 in
    let r = and_parts (nat_le 1 blocks) (nat_le blocks 16) q.0 in
    let some_blocks = leb-true 1 blocks r.0 in
    let few_blocks = leb-true blocks 16 r.1 in
    let some_passes = leb-true 1 count q.1 in
    let few_passes = leb-true count 256 p.1 in
    let w : ℕ = 0x9000 + (blocks - 1) * 256 + (count - 1) in
    let kind : w / 0x1000 ≡ 9 = omega arith in
    let reach : w / 256 % 16 + 1 ≡ blocks = omega arith in
    let passes : w % 256 + 1 ≡ count = omega arith in
    short_reads at w rest (SmRepeat blocks count) (omega arith) (rw (kind, reach, passes) refl)
reads_back at (SetPosition n) rest fits =
    let under = ltb-true n 0x4000000 fits in
    let w : ℕ = 0xA000 + n / 0x10000 in
    let kind : w / 1024 ≡ 0x28 = omega arith in
    let number : w % 1024 * 0x10000 + n % 0x10000 ≡ n = omega arith in
    long_reads at w (n % 0x10000) rest (SetPosition n) (omega arith) (omega arith) (no_long_short w (omega arith) (omega arith)) (ap is_some (set_position w 0 kind)) (set_position w (n % 0x10000) kind ∙ ap (λ k. Some (SetPosition k)) number)
reads_back at (LgByImport n) rest fits =
    let under = ltb-true n 0x4000000 fits in
    let w : ℕ = 0xA400 + n / 0x10000 in
    let kind : w / 1024 ≡ 0x29 = omega arith in
    let number : w % 1024 * 0x10000 + n % 0x10000 ≡ n = omega arith in
    long_reads at w (n % 0x10000) rest (LgByImport n) (omega arith) (omega arith) (no_long_short w (omega arith) (omega arith)) (ap is_some (by_import w 0 kind)) (by_import w (n % 0x10000) kind ∙ ap (λ k. Some (LgByImport k)) number)
reads_back at (LgRepeat blocks count) rest fits =
    let p = and_parts (nat_le 1 blocks && nat_le blocks 16) (nat_lt count 0x400000) fits in
    let r = and_parts (nat_le 1 blocks) (nat_le blocks 16) p.0 in
    let some_blocks = leb-true 1 blocks r.0 in
    let few_blocks = leb-true blocks 16 r.1 in
    let under = ltb-true count 0x400000 p.1 in
    let w : ℕ = 0xB000 + (blocks - 1) * 64 + count / 0x10000 in
    let kind : w / 1024 ≡ 0x2C = omega arith in
    let reach : w / 64 % 16 + 1 ≡ blocks = omega arith in
    let number : w % 64 * 0x10000 + count % 0x10000 ≡ count = omega arith in
    long_reads at w (count % 0x10000) rest (LgRepeat blocks count) (omega arith) (omega arith) (no_long_short w (omega arith) (omega arith)) (ap is_some (repeat_long w 0 kind)) (repeat_long w (count % 0x10000) kind ∙ rw (reach, number) refl)
reads_back at (LgBySection n) rest fits =
    let under = ltb-true n 0x400000 fits in
    let w : ℕ = 0xB400 + n / 0x10000 in
    let kind : w / 1024 ≡ 0x2D = omega arith in
    let sort : w / 64 % 16 ≡ 0 = omega arith in
    let number : w % 64 * 0x10000 + n % 0x10000 ≡ n = omega arith in
    long_reads at w (n % 0x10000) rest (LgBySection n) (omega arith) (omega arith) (no_long_short w (omega arith) (omega arith)) (ap is_some (on_section w 0 0 kind sort)) (on_section w (n % 0x10000) 0 kind sort ∙ ap (λ k. Some (LgBySection k)) number)
reads_back at (LgSetSectC n) rest fits =
    let under = ltb-true n 0x400000 fits in
    let w : ℕ = 0xB440 + n / 0x10000 in
    let kind : w / 1024 ≡ 0x2D = omega arith in
    let sort : w / 64 % 16 ≡ 1 = omega arith in
    let number : w % 64 * 0x10000 + n % 0x10000 ≡ n = omega arith in
    long_reads at w (n % 0x10000) rest (LgSetSectC n) (omega arith) (omega arith) (no_long_short w (omega arith) (omega arith)) (ap is_some (on_section w 0 1 kind sort)) (on_section w (n % 0x10000) 1 kind sort ∙ ap (λ k. Some (LgSetSectC k)) number)
reads_back at (LgSetSectD n) rest fits =
    let under = ltb-true n 0x400000 fits in
    let w : ℕ = 0xB480 + n / 0x10000 in
    let kind : w / 1024 ≡ 0x2D = omega arith in
    let sort : w / 64 % 16 ≡ 2 = omega arith in
    let number : w % 64 * 0x10000 + n % 0x10000 ≡ n = omega arith in
    long_reads at w (n % 0x10000) rest (LgSetSectD n) (omega arith) (omega arith) (no_long_short w (omega arith) (omega arith)) (ap is_some (on_section w 0 2 kind sort)) (on_section w (n % 0x10000) 2 kind sort ∙ ap (λ k. Some (LgSetSectD k)) number)
