-- Readable bytes are spelled by their instructions, which fit.
use Rattle.std.proofs.Common.{◌≡◌, ◌⊎◌, inl, inr, ℕ, zero, suc, ◌+◌, ◌*◌, ◌/◌, ◌%◌, ◌<◌, ◌≤◌, ◌==◌, Bool, true, false, cond, nat_le, nat_lt, List, [], ◌∷◌, ◌++◌, drop, length, slice_index, Option, None, Some, Result, Ok, Err, refl, ap, sym, subst, ◌∙◌, arith, length-drop}
use Rattle.std.proofs.lemmas.Bool.{and_from, eqb-true, le-leb, lt-leb, lt-ltb, ltb-true}
use Rattle.std.proofs.lemmas.List.{get_or-drop}
use Rattle.std.specs.Option.{is_some}
use Rattle.byteorder.specs.Endian.{big_bytes}
use Rattle.pef_words.specs.Bytes.{number_at}
use Rattle.pef_words.specs.Refusals.{◌>>=◌}
use Rattle.pef_words.proofs.Laws.Refusals.{neither}
use Rattle.pef_words.proofs.Laws.Numbers.{counts_fit}
use Rattle.std.proofs.lemmas.Option.{same_Some}
use Rattle.pef_reloc.specs.declared.fault.RelocFault.{RelocFault}
use Rattle.pef_reloc.specs.declared.instr.Instr.{Instr}
use Rattle.pef_reloc.specs.declared.instr.Instr.TheVariants.{BySectDWithSkip, BySectC, BySectD, TVector12, TVector8, VTable8, ImportRun, SmByImport, SmSetSectC, SmSetSectD, SmBySection, IncrPosition, SmRepeat, SetPosition, LgByImport, LgRepeat, LgBySection, LgSetSectC, LgSetSectD}
use Rattle.pef_reloc.specs.Instrs.{halfword_bytes, halfwords_of, instr_fits, instr_length, instrs_fit, spelled}
use Rattle.pef_reloc.specs.Decoding.{code_from, code_at, code_within, first_instr, instr_of, long_instr, opcode_instr, section_instr, short_instr, short_or_long}
use Rattle.pef_reloc.specs.Unrolled.{first_fault, instrs_of, program_fault}
use Rattle.pef_reloc.proofs.FlatLaws.{behind}
use Rattle.pef_reloc.proofs.CodeLemmas.{some_length}
use Rattle.pef_reloc.proofs.Spellings.{spelled-nothing, spelled-one}

-- the row that a table of tests picked has a property that each of its rows has
pub picked : (P : Instr → Type 0) (b : Bool) (y : Instr) (others : Option Instr) (x : Instr) → (b ≡ true → P y) → (others ≡ Some x → P x) → cond b (Some y) others ≡ Some x → P x
picked P true y others x here later e = subst P (same_Some y x e) (here refl)
picked P false y others x here later e = later e

-- a table that is used if a test holds
pub gated : (P : Instr → Type 0) (b : Bool) (r : Option Instr) (x : Instr) → (b ≡ true → r ≡ Some x → P x) → cond b r None ≡ Some x → P x
gated P true r x here e = here refl e
gated P false r x here e = absurd (cc e)

-- the instruction that some halfwords spell
record Spells (words : List ℕ) (x : Instr) : Type 0 where
  pub words_are : halfwords_of x ≡ words
  pub fits : instr_fits x ≡ true

one_word : (w h : ℕ) → h ≡ w → ◌≡◌ {A = List ℕ} (h ∷ []) (w ∷ [])
one_word w h e = ap (λ v. v ∷ []) e

two_words : (w v h l : ℕ) → h ≡ w → l ≡ v → ◌≡◌ {A = List ℕ} (h ∷ l ∷ []) (w ∷ v ∷ [])
two_words w v h l e f = rw (e, f) refl

-- the instruction of a seven-bit opcode and a nine-bit number
opcode_spells : (w op k : ℕ) (x : Instr) → w ≡ op * 512 + k → k < 512 → opcode_instr op k ≡ Some x → Spells (w ∷ []) x
unfolding halfwords_of
opcode_spells w op k x is small =
    picked (Spells (w ∷ [])) (op == 0x20) (BySectC (k + 1)) _ x (λ e. let o = eqb-true op 0x20 e in record { words_are = one_word w _ (omega arith); fits = counts_fit 512 (k + 1) (omega arith) (omega arith) })
    (picked (Spells (w ∷ [])) (op == 0x21) (BySectD (k + 1)) _ x (λ e. let o = eqb-true op 0x21 e in record { words_are = one_word w _ (omega arith); fits = counts_fit 512 (k + 1) (omega arith) (omega arith) })
    (picked (Spells (w ∷ [])) (op == 0x22) (TVector12 (k + 1)) _ x (λ e. let o = eqb-true op 0x22 e in record { words_are = one_word w _ (omega arith); fits = counts_fit 512 (k + 1) (omega arith) (omega arith) })
    (picked (Spells (w ∷ [])) (op == 0x23) (TVector8 (k + 1)) _ x (λ e. let o = eqb-true op 0x23 e in record { words_are = one_word w _ (omega arith); fits = counts_fit 512 (k + 1) (omega arith) (omega arith) })
    (picked (Spells (w ∷ [])) (op == 0x24) (VTable8 (k + 1)) _ x (λ e. let o = eqb-true op 0x24 e in record { words_are = one_word w _ (omega arith); fits = counts_fit 512 (k + 1) (omega arith) (omega arith) })
    (picked (Spells (w ∷ [])) (op == 0x25) (ImportRun (k + 1)) _ x (λ e. let o = eqb-true op 0x25 e in record { words_are = one_word w _ (omega arith); fits = counts_fit 512 (k + 1) (omega arith) (omega arith) })
    (picked (Spells (w ∷ [])) (op == 0x30) (SmByImport k) _ x (λ e. let o = eqb-true op 0x30 e in record { words_are = one_word w _ (omega arith); fits = lt-ltb k 512 small })
    (picked (Spells (w ∷ [])) (op == 0x31) (SmSetSectC k) _ x (λ e. let o = eqb-true op 0x31 e in record { words_are = one_word w _ (omega arith); fits = lt-ltb k 512 small })
    (picked (Spells (w ∷ [])) (op == 0x32) (SmSetSectD k) _ x (λ e. let o = eqb-true op 0x32 e in record { words_are = one_word w _ (omega arith); fits = lt-ltb k 512 small })
    (picked (Spells (w ∷ [])) (op == 0x33) (SmBySection k) None x (λ e. let o = eqb-true op 0x33 e in record { words_are = one_word w _ (omega arith); fits = lt-ltb k 512 small })
    (λ none. absurd (cc none)))))))))))

-- the instruction of one halfword
short_spells : (w : ℕ) (x : Instr) → w < 0x10000 → short_instr w ≡ Some x → Spells (w ∷ []) x
unfolding halfwords_of short_instr
short_spells w x small =
    picked (Spells (w ∷ [])) (nat_lt (w / 0x1000) 4) (BySectDWithSkip (w / 64) (w % 64)) _ x
    (λ e. let o = ltb-true (w / 0x1000) 4 e in record { words_are = one_word w _ (omega arith); fits = and_from _ _ (le-leb (w / 64) 255 (omega arith)) (le-leb (w % 64) 63 (omega arith)) })
    (picked (Spells (w ∷ [])) (w / 0x1000 == 8) (IncrPosition (w % 4096 + 1)) _ x
    (λ e. let o = eqb-true (w / 0x1000) 8 e in record { words_are = one_word w _ (omega arith); fits = counts_fit 4096 (w % 4096 + 1) (omega arith) (omega arith) })
    (picked (Spells (w ∷ [])) (w / 0x1000 == 9) (SmRepeat (w / 256 % 16 + 1) (w % 256 + 1)) _ x
    (λ e. let o = eqb-true (w / 0x1000) 9 e in record {
      words_are = one_word w _ (omega arith);
      fits = and_from _ _ (and_from _ _ (counts_fit 16 (w / 256 % 16 + 1) (omega arith) (omega arith)) (le-leb 1 (w % 256 + 1) (omega arith))) (le-leb (w % 256 + 1) 256 (omega arith));
    })
    (opcode_spells w (w / 512) (w % 512) x (omega arith) (omega arith))))

-- the instruction on a section of a four-bit opcode
section_spells : (w v op k : ℕ) (x : Instr) → w ≡ 0xB400 + op * 64 + k / 0x10000 → v ≡ k % 0x10000 → k < 0x400000 → v < 0x10000 → section_instr op k ≡ Some x → Spells (w ∷ v ∷ []) x
unfolding halfwords_of
section_spells w v op k x high low small under =
    picked (Spells (w ∷ v ∷ [])) (op == 0) (LgBySection k) _ x (λ e. let o = eqb-true op 0 e in record { words_are = two_words w v _ _ (omega arith) (omega arith); fits = lt-ltb k 0x400000 small })
    (picked (Spells (w ∷ v ∷ [])) (op == 1) (LgSetSectC k) _ x (λ e. let o = eqb-true op 1 e in record { words_are = two_words w v _ _ (omega arith) (omega arith); fits = lt-ltb k 0x400000 small })
    (picked (Spells (w ∷ v ∷ [])) (op == 2) (LgSetSectD k) None x (λ e. let o = eqb-true op 2 e in record { words_are = two_words w v _ _ (omega arith) (omega arith); fits = lt-ltb k 0x400000 small })
    (λ none. absurd (cc none))))

-- the instruction of two halfwords
long_spells : (w v : ℕ) (x : Instr) → w < 0x10000 → v < 0x10000 → long_instr w v ≡ Some x → Spells (w ∷ v ∷ []) x
unfolding halfwords_of long_instr
long_spells w v x small low =
    picked (Spells (w ∷ v ∷ [])) (w / 1024 == 0x28) (SetPosition (w % 1024 * 0x10000 + v)) _ x
    (λ e. let o = eqb-true (w / 1024) 0x28 e in record { words_are = two_words w v _ _ (omega arith) (omega arith); fits = lt-ltb _ 0x4000000 (omega arith) })
    (picked (Spells (w ∷ v ∷ [])) (w / 1024 == 0x29) (LgByImport (w % 1024 * 0x10000 + v)) _ x
    (λ e. let o = eqb-true (w / 1024) 0x29 e in record { words_are = two_words w v _ _ (omega arith) (omega arith); fits = lt-ltb _ 0x4000000 (omega arith) })
    (picked (Spells (w ∷ v ∷ [])) (w / 1024 == 0x2C) (LgRepeat (w / 64 % 16 + 1) (w % 64 * 0x10000 + v)) _ x
    (λ e. let o = eqb-true (w / 1024) 0x2C e in record {
      words_are = two_words w v _ _ (omega arith) (omega arith);
      fits = and_from _ _ (counts_fit 16 (w / 64 % 16 + 1) (omega arith) (omega arith)) (lt-ltb _ 0x400000 (omega arith));
    })
    (gated (Spells (w ∷ v ∷ [])) (w / 1024 == 0x2D) _ x
    (λ e. section_spells w v (w / 64 % 16) (w % 64 * 0x10000 + v) x (let o = eqb-true (w / 1024) 0x2D e in omega arith) (omega arith) (omega arith) low))))

-- two bytes, and their halfword
halfword_back : (a b : ℕ) → a < 256 → b < 256 → big_bytes 2 (a * 256 + b) ≡ a ∷ b ∷ []
halfword_back a b high low = two_words a b _ _ (omega arith) (omega arith)

first_is : (a b : ℕ) (rest : List ℕ) → number_at 2 (a ∷ b ∷ rest) 0 ≡ Some (a * 256 + b)
unfolding number_at
first_is a b rest =
    let two : nat_le 2 (suc (suc (length rest))) ≡ true = le-leb _ _ (omega arith) in
    rw two (ap (λ n. Some n) (omega arith))

second_is : (a b c d : ℕ) (rest : List ℕ) → number_at 2 (a ∷ b ∷ c ∷ d ∷ rest) 2 ≡ Some (c * 256 + d)
unfolding number_at
second_is a b c d rest =
    let four : nat_le 4 (suc (suc (suc (suc (length rest))))) ≡ true = le-leb _ _ (omega arith) in
    rw four (ap (λ n. Some n) (omega arith))

no_second : (a b : ℕ) (rest : List ℕ) → length rest < 2 → number_at 2 (a ∷ b ∷ rest) 2 ≡ None
unfolding number_at
no_second a b rest few =
    let short : nat_le 4 (suc (suc (length rest))) ≡ false = lt-leb _ _ (omega arith) in
    rw short refl

-- bytes are numbers below 256
abbrev AreBytes : List ℕ → Type 0
AreBytes bytes = (k : ℕ) → slice_index bytes k < 256

-- some bytes begin with the bytes that spell an instruction
record Begins (bytes : List ℕ) (x : Instr) : Type 0 where
  pub rest : List ℕ
  pub is : bytes ≡ halfword_bytes (halfwords_of x) ++ rest
  pub fits : instr_fits x ≡ true

abbrev and_then : (ℕ → Option Instr) → Option ℕ → Option Instr
and_then f o = o >>= f

-- an instruction of one halfword begins the bytes
begins_short : (a b : ℕ) (rest : List ℕ) (x : Instr) → AreBytes (a ∷ b ∷ rest) → short_instr (a * 256 + b) ≡ Some x → Begins (a ∷ b ∷ rest) x
begins_short a b rest x are e =
    let fa = are 0 in
    let fb = are 1 in
    let s = short_spells (a * 256 + b) x (omega arith) e in
    record {
      rest = rest;
      is = ap (λ (ws : List ℕ). (ws ++ []) ++ rest) (sym (halfword_back a b fa fb)) ∙ ap (λ (ws : List ℕ). halfword_bytes ws ++ rest) (sym s.words_are);
      fits = s.fits;
    }

-- and one of two
begins_long : (a b : ℕ) (rest : List ℕ) (x : Instr) → AreBytes (a ∷ b ∷ rest) → and_then (long_instr (a * 256 + b)) (number_at 2 (a ∷ b ∷ rest) 2) ≡ Some x → Begins (a ∷ b ∷ rest) x
begins_long a b [] x are e =
    let none : None ≡ Some x = sym (ap (and_then (long_instr (a * 256 + b))) (no_second a b [] (omega arith))) ∙ e in absurd (cc none)
begins_long a b (c ∷ []) x are e =
    let none : None ≡ Some x = sym (ap (and_then (long_instr (a * 256 + b))) (no_second a b (c ∷ []) (omega arith))) ∙ e in absurd (cc none)
begins_long a b (c ∷ d ∷ rest) x are e =
    let fa = are 0 in
    let fb = are 1 in
    let fc = are 2 in
    let fd = are 3 in
    let s = long_spells (a * 256 + b) (c * 256 + d) x (omega arith) (omega arith) (sym (ap (and_then (long_instr (a * 256 + b))) (second_is a b c d rest)) ∙ e) in
    record {
      rest = rest;
      is =
          ap (λ (ws : List ℕ). ws ++ (c ∷ d ∷ rest)) (sym (halfword_back a b fa fb))
          ∙ ap (λ (ws : List ℕ). (big_bytes 2 (a * 256 + b) ++ (ws ++ [])) ++ rest) (sym (halfword_back c d fc fd))
          ∙ ap (λ (ws : List ℕ). halfword_bytes ws ++ rest) (sym s.words_are);
      fits = s.fits;
    }

either : (at : ℕ) (s : Option Instr) (begins : Bool) (l : Option Instr) (x : Instr) → short_or_long at s begins l ≡ Ok x → (s ≡ Some x) ⊎ (l ≡ Some x)
either at (Some y) begins l x e = inl (cc e)
either at None false l x e = absurd (cc e)
either at None true None x e = absurd (cc e)
either at None true (Some y) x e = inr (cc e)

-- an instruction that is read begins the bytes
begins_read : (at : ℕ) (bytes : List ℕ) (x : Instr) → AreBytes bytes → first_instr at bytes ≡ Ok x → Begins bytes x
unfolding first_instr number_at
begins_read at [] x are e = absurd (cc e)
begins_read at (a ∷ []) x are e = absurd (cc e)
begins_read at (a ∷ b ∷ rest) x are e =
    let there : instr_of at (Some (a * 256 + b)) (number_at 2 (a ∷ b ∷ rest) 2) ≡ Ok x = ap (λ (o : Option ℕ). instr_of at o (number_at 2 (a ∷ b ∷ rest) 2)) (sym (first_is a b rest)) ∙ e in
    elim (either at (short_instr (a * 256 + b)) (is_some (long_instr (a * 256 + b) 0)) (and_then (long_instr (a * 256 + b)) (number_at 2 (a ∷ b ∷ rest) 2)) x there) [
      | inl short ↦ begins_short a b rest x are short
      | inr long ↦ begins_long a b rest x are long
    ]

-- the bytes are spelled by the instructions, which fit
record Spelled (bytes : List ℕ) (instrs : List Instr) : Type 0 where
  pub is : spelled instrs ≡ bytes
  pub fit : instrs_fit instrs ≡ true

later_bytes : (n : ℕ) (bytes : List ℕ) → AreBytes bytes → AreBytes (drop n bytes)
later_bytes n bytes are = λ k. let P : ℕ → Type 0 = λ b. b < 256 in subst P (sym (get_or-drop n bytes k 0)) (are (n + k))

more_spelled : (bytes : List ℕ) (x : Instr) (instrs : List Instr) → Begins bytes x → Spelled (drop (2 * instr_length x) bytes) instrs → Spelled bytes (x ∷ instrs)
more_spelled bytes x instrs begins others =
    let rest_is : drop (2 * instr_length x) bytes ≡ begins.rest = ap (drop (2 * instr_length x)) begins.is ∙ behind x begins.rest in
    record {
      is = spelled-one x instrs ∙ ap (λ (ys : List ℕ). halfword_bytes (halfwords_of x) ++ ys) (others.is ∙ rest_is) ∙ sym begins.is;
      fit = and_from _ _ begins.fits others.fit;
    }

-- instructions that were read from some bytes without a refusal spell them
read_spelled : (n at : ℕ) (bytes : List ℕ) → length bytes ≤ n → AreBytes bytes → (code_within n at bytes).fault ≡ None → Spelled bytes (code_within n at bytes).instrs
unfolding code_within
read_spelled zero at [] few are fine = record { is = spelled-nothing; fit = refl }
read_spelled zero at (b ∷ bytes) few are fine = absurd (omega (arith, few))
read_spelled (suc n) at [] few are fine = record { is = spelled-nothing; fit = refl }
read_spelled (suc n) at (b ∷ bytes) few are fine = go (first_instr at (b ∷ bytes)) refl fine
    (λ x none. let some = some_length x in read_spelled n (at + 2 * instr_length x) (drop (2 * instr_length x) (b ∷ bytes)) (omega (arith, few, length-drop (2 * instr_length x) (b ∷ bytes))) (later_bytes (2 * instr_length x) (b ∷ bytes) are) none)
  where
    go : (r : Result Instr RelocFault) → first_instr at (b ∷ bytes) ≡ r → (code_from r (λ x. code_within n (at + 2 * instr_length x) (drop (2 * instr_length x) (b ∷ bytes)))).fault ≡ None
        → ((x : Instr) → (code_within n (at + 2 * instr_length x) (drop (2 * instr_length x) (b ∷ bytes))).fault ≡ None → Spelled (drop (2 * instr_length x) (b ∷ bytes)) (code_within n (at + 2 * instr_length x) (drop (2 * instr_length x) (b ∷ bytes))).instrs)
        → Spelled (b ∷ bytes) (code_from r (λ x. code_within n (at + 2 * instr_length x) (drop (2 * instr_length x) (b ∷ bytes)))).instrs
    go (Ok x) is none others = more_spelled (b ∷ bytes) x _ (begins_read at (b ∷ bytes) x are is) (others x none)
    go (Err f) is none others = absurd (cc none)

readable_spelled : (bytes : List ℕ) → AreBytes bytes → program_fault bytes ≡ None → Spelled bytes (instrs_of bytes)
unfolding program_fault instrs_of code_at
readable_spelled bytes are fine =
    read_spelled (length bytes) 0 bytes (omega arith) are (neither (first_fault [] 0 (code_at 0 bytes).instrs) (code_at 0 bytes).fault fine).1

-- readable bytes are the bytes that spell their instructions
pub spelled-instrs_of : (bytes : List ℕ) → AreBytes bytes → program_fault bytes ≡ None → spelled (instrs_of bytes) ≡ bytes
spelled-instrs_of bytes are fine = (readable_spelled bytes are fine).is

-- and these fit
pub instrs_of-fit : (bytes : List ℕ) → AreBytes bytes → program_fault bytes ≡ None → instrs_fit (instrs_of bytes) ≡ true
instrs_of-fit bytes are fine = (readable_spelled bytes are fine).fit
