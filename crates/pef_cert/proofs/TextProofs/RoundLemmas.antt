-- Printed programs, registers and labels are read again.
use Rattle.std.proofs.Common.{◌≡◌, ◌≢◌, ℕ, zero, suc, ◌+◌, ◌*◌, ◌/◌, ◌%◌, ◌^◌, ◌-◌, ◌<◌, ◌≤◌, ◌==◌, ◌&&◌, Bool, true, false, List, [], ◌∷◌, ◌++◌, Option, None, Some, Result, Ok, cond, length, replicate, refl, sym, ap, ◌∙◌, subst, append_assoc, arith, eq-eqb, nat_eq}
use Rattle.std.specs.Prelude.{codes, decimal, nat_lt}
use Rattle.std.specs.List.{AllByRecursion}
use Rattle.std.specs.Str.{bytes_eq}
use Rattle.std.proofs.lemmas.Bool.{and_from, le-leb, lt-ltb, ne_eqb}
use Rattle.std.proofs.lemmas.List.{append-nil, length-append, length-replicate}
use Rattle.pef_cert.specs.Valid.{rises}
use Rattle.pef_lines.specs.Cursor.{none_left}
use Rattle.pef_ports.specs.Text.{hex_digit, hex_text}
use Rattle.pef_reloc.specs.declared.instr.Instr.{Instr}
use Rattle.pef_reloc.specs.Instrs.{halfword_bytes, halfwords_of, instrs_fit, program_length, spelled}
use Rattle.pef_reloc.specs.Unrolled.{program_fault}
use Rattle.pef_reloc.proofs.Laws.{instrs_of-spelled, spelled-nothing, spelled-one, some_length, length-spelled}
use Rattle.pef_cert.specs.Text.Grammar.{Left, labels_read, last_labels, range_rows, ranges_read, rows_read}
use Rattle.pef_cert.specs.Text.Lines.{Range, bytes_spelled, most_text_registers, number_line, program_line, range_line, registers_in, registers_line, row_line}
use Rattle.pef_cert.specs.Text.Printed.{IsNumber, IsRow, halfword_words, labels_text, line_text, number_words, program_words, range_text, ranges_of, ranges_text, rows_text, words_text}
use Rattle.pef_cert.specs.Text.Words.{digit_in, halfword_in, halfwords_in, numbers_in}
use Rattle.pef_cert.specs.declared.text.fields.Version.{Version}
use Rattle.pef_cert.specs.declared.text.fields.Version.TheVariants.{One, Two}
use Rattle.pef_cert.proofs.TextProofs.RangeLemmas.{Split, last_labels-more, other_labels, ranges_of-run, split}
use Rattle.pef_cert.proofs.TextProofs.TextLemmas.{above, all_above, decimal-above, decimal-no_star, decimal_number-decimal, line_read-line, words_of-words}

-- numbers
pub numbers-above : (numbers : List ℕ) → AllByRecursion IsNumber numbers → all_above 0x20 (number_words numbers) ≡ true
numbers-above [] all = refl
numbers-above (n ∷ numbers) all = and_from (above 0x20 (decimal n)) (all_above 0x20 (number_words numbers)) (decimal-above n (let small = all.0 in omega (arith, small))) (numbers-above numbers all.1)

numbers_in-words : (numbers : List ℕ) → AllByRecursion IsNumber numbers → numbers_in (number_words numbers) ≡ Some numbers
numbers_in-words [] all = refl
numbers_in-words (n ∷ numbers) all = rw (decimal_number-decimal n all.0, numbers_in-words numbers all.1) refl

pub number_line-text : (name : List ℕ) (n : ℕ) → above 0x20 name ≡ true → bytes_eq name name ≡ true → IsNumber n → number_line name (name ++ words_text (decimal n ∷ [])) ≡ Some n
unfolding number_line
number_line-text name n is same small =
    rw (words_of-words name (decimal n ∷ []) is (and_from (above 0x20 (decimal n)) true (decimal-above n (omega arith)) refl), same, decimal_number-decimal n small) refl

-- registers
registers_in-words : (registers : List ℕ) → AllByRecursion IsNumber registers → registers_in (number_words registers ++ codes "*" ∷ []) ≡ Some registers
registers_in-words [] all = refl
registers_in-words (n ∷ registers) all =
    let small = all.0 in
    rw (decimal-no_star n (omega (arith, small)), decimal_number-decimal n all.0, registers_in-words registers all.1) refl

pub registers-above : (registers : List ℕ) → AllByRecursion IsNumber registers → all_above 0x20 (number_words registers ++ codes "*" ∷ []) ≡ true
registers-above [] all = refl
registers-above (n ∷ registers) all = and_from (above 0x20 (decimal n)) (all_above 0x20 (number_words registers ++ codes "*" ∷ [])) (decimal-above n (let small = all.0 in omega (arith, small))) (registers-above registers all.1)

pub registers_line-text : (registers : List ℕ) → AllByRecursion IsNumber registers → rises registers ≡ true → length registers ≤ most_text_registers → registers_line (codes "registers" ++ words_text (number_words registers ++ codes "*" ∷ [])) ≡ Some registers
unfolding registers_line
registers_line-text registers all rising few =
    rw (words_of-words (codes "registers") (number_words registers ++ codes "*" ∷ []) refl (registers-above registers all), registers_in-words registers all, rising, le-leb (length registers) most_text_registers few) refl

-- labels
pub row_line-text : (width at : ℕ) (row : List ℕ) → IsNumber at → IsRow width row → row_line width at (codes "at" ++ words_text (decimal at ∷ number_words row)) ≡ Some row
unfolding row_line
row_line-text width at row small is =
    rw (
      words_of-words (decimal at) (number_words row) (decimal-above at (omega arith)) (numbers-above row is.numbers),
      decimal_number-decimal at small,
      numbers_in-words row is.numbers,
      eq-eqb at at refl,
      eq-eqb (length row) width is.wide,
    ) refl

pub range_line-text : (width count at last : ℕ) (before row : List ℕ) → at ≤ last → last < count → count ≤ 2 ^ 32 → IsRow width row → row ≢ before
    → range_line width count at before (codes "at" ++ words_text (decimal at ∷ decimal last ∷ number_words row)) ≡ Some (record { first = at; last = last; labels = row })
unfolding range_line
range_line-text width count at last before row forward inside small is other =
    rw (
      words_of-words (decimal at) (decimal last ∷ number_words row) (decimal-above at (omega (arith, forward, inside, small)))
          (and_from (above 0x20 (decimal last)) (all_above 0x20 (number_words row)) (decimal-above last (omega (arith, inside, small))) (numbers-above row is.numbers)),
      decimal_number-decimal at (omega (arith, forward, inside, small)),
      decimal_number-decimal last (omega (arith, inside, small)),
      numbers_in-words row is.numbers,
      eq-eqb at at refl,
      le-leb at last forward,
      lt-ltb last count inside,
      eq-eqb (length row) width is.wide,
      other_labels row before other,
    ) refl

-- programs

-- bytes in pairs
abbrev pub ArePairs : List ℕ → Type 0
ArePairs [] = Unit {0}
ArePairs (byte ∷ []) = ⊥
ArePairs (high ∷ low ∷ bytes) = (high < 256) × (low < 256) × ArePairs bytes

digit_in-digit : (d : ℕ) → d < 16 → digit_in (hex_digit d) ≡ Some d
digit_in-digit zero under = refl
digit_in-digit (suc zero) under = refl
digit_in-digit (suc (suc zero)) under = refl
digit_in-digit (suc (suc (suc zero))) under = refl
digit_in-digit (suc (suc (suc (suc zero)))) under = refl
digit_in-digit (suc (suc (suc (suc (suc zero))))) under = refl
digit_in-digit (suc (suc (suc (suc (suc (suc zero)))))) under = refl
digit_in-digit (suc (suc (suc (suc (suc (suc (suc zero))))))) under = refl
digit_in-digit (suc (suc (suc (suc (suc (suc (suc (suc zero)))))))) under = refl
digit_in-digit (suc (suc (suc (suc (suc (suc (suc (suc (suc zero))))))))) under = refl
digit_in-digit (suc (suc (suc (suc (suc (suc (suc (suc (suc (suc zero)))))))))) under = refl
digit_in-digit (suc (suc (suc (suc (suc (suc (suc (suc (suc (suc (suc zero))))))))))) under = refl
digit_in-digit (suc (suc (suc (suc (suc (suc (suc (suc (suc (suc (suc (suc zero)))))))))))) under = refl
digit_in-digit (suc (suc (suc (suc (suc (suc (suc (suc (suc (suc (suc (suc (suc zero))))))))))))) under = refl
digit_in-digit (suc (suc (suc (suc (suc (suc (suc (suc (suc (suc (suc (suc (suc (suc zero)))))))))))))) under = refl
digit_in-digit (suc (suc (suc (suc (suc (suc (suc (suc (suc (suc (suc (suc (suc (suc (suc zero))))))))))))))) under = refl
digit_in-digit (suc (suc (suc (suc (suc (suc (suc (suc (suc (suc (suc (suc (suc (suc (suc (suc d)))))))))))))))) under = absurd (omega arith)

halfword_in-text : (high low : ℕ) → high < 256 → low < 256 → halfword_in (hex_text (high ∷ low ∷ [])) ≡ Some (high ∷ low ∷ [])
halfword_in-text high low h l =
    let first : high / 16 * 16 + high % 16 ≡ high = omega arith in
    let second : low / 16 * 16 + low % 16 ≡ low = omega arith in
    rw (digit_in-digit (high / 16) (omega arith), digit_in-digit (high % 16) (omega arith), digit_in-digit (low / 16) (omega arith), digit_in-digit (low % 16) (omega arith), first, second) refl

halfwords_in-words : (bytes : List ℕ) → ArePairs bytes → halfwords_in (halfword_words bytes) ≡ Some bytes
halfwords_in-words [] are = refl
halfwords_in-words (byte ∷ []) are = absurd are
halfwords_in-words (high ∷ low ∷ bytes) are = rw (halfword_in-text high low are.0 are.1, halfwords_in-words bytes are.2) refl

pairs-append : (bytes more : List ℕ) → ArePairs bytes → ArePairs more → ArePairs (bytes ++ more)
pairs-append [] more are others = others
pairs-append (byte ∷ []) more are others = absurd are
pairs-append (high ∷ low ∷ bytes) more are others = (are.0, are.1, pairs-append bytes more are.2 others)

pairs-halfwords : (halfwords : List ℕ) → ArePairs (halfword_bytes halfwords)
pairs-halfwords [] = tt
pairs-halfwords (w ∷ halfwords) = (omega arith, omega arith, pairs-halfwords halfwords)

pairs-spelled : (instrs : List Instr) → ArePairs (spelled instrs)
pairs-spelled [] = rw spelled-nothing tt
pairs-spelled (instr ∷ instrs) = rw (spelled-one instr instrs) (pairs-append (halfword_bytes (halfwords_of instr)) (spelled instrs) (pairs-halfwords (halfwords_of instr)) (pairs-spelled instrs))

-- a program's words aren't `-`, unless it has none
bytes_spelled-pairs : (bytes : List ℕ) → ArePairs bytes → 0 < length bytes → bytes_spelled (halfword_words bytes) ≡ Some bytes
bytes_spelled-pairs [] are some = absurd (omega arith)
bytes_spelled-pairs (byte ∷ []) are some = absurd are
bytes_spelled-pairs (high ∷ low ∷ bytes) are some = by (nat_eq (hex_digit (high / 16)) 45) (cond (none_left (halfword_words bytes)) (Some []) None) (halfwords_in-words (high ∷ low ∷ bytes) are)
  where
    by : (first : Bool) (other : Option (List ℕ)) → halfwords_in (halfword_words (high ∷ low ∷ bytes)) ≡ Some (high ∷ low ∷ bytes)
        → cond (first && false) other (halfwords_in (halfword_words (high ∷ low ∷ bytes))) ≡ Some (high ∷ low ∷ bytes)
    by true other is = is
    by false other is = is

bytes_spelled-words : (instrs : List Instr) → bytes_spelled (program_words instrs) ≡ Some (spelled instrs)
bytes_spelled-words [] = ap (λ (b : List ℕ). Some b) (sym spelled-nothing)
bytes_spelled-words (instr ∷ instrs) =
    let whole = length-spelled (instr ∷ instrs) in
    let least = some_length instr in
    bytes_spelled-pairs (spelled (instr ∷ instrs)) (pairs-spelled (instr ∷ instrs)) (omega (arith, whole, least))

hex-above : (d : ℕ) → d < 16 → nat_lt 0x20 (hex_digit d) ≡ true
hex-above d under = by (nat_lt d 10) refl
  where
    by : (b : Bool) → nat_lt d 10 ≡ b → nat_lt 0x20 (cond b (48 + d) (55 + d)) ≡ true
    by true is = lt-ltb 0x20 (48 + d) (omega arith)
    by false is = lt-ltb 0x20 (55 + d) (omega arith)

halfwords-above : (bytes : List ℕ) → ArePairs bytes → all_above 0x20 (halfword_words bytes) ≡ true
halfwords-above [] are = refl
halfwords-above (byte ∷ []) are = refl
halfwords-above (high ∷ low ∷ bytes) are =
    let h = are.0 in
    let l = are.1 in
    rw (hex-above (high / 16) (omega (arith, h)), hex-above (high % 16) (omega (arith, h)), hex-above (low / 16) (omega (arith, l)), hex-above (low % 16) (omega (arith, l)), halfwords-above bytes are.2) refl

pub program-above : (instrs : List Instr) → all_above 0x20 (program_words instrs) ≡ true
program-above [] = refl
program-above (instr ∷ instrs) = halfwords-above (spelled (instr ∷ instrs)) (pairs-spelled (instr ∷ instrs))

pub program_line-text : (instrs : List Instr) → instrs_fit instrs ≡ true → program_fault (spelled instrs) ≡ None → program_line (program_length instrs) (codes "program" ++ words_text (program_words instrs)) ≡ Some instrs
unfolding program_line
program_line-text instrs fit readable =
    rw (
      words_of-words (codes "program") (program_words instrs) refl (program-above instrs),
      bytes_spelled-words instrs,
      eq-eqb (length (spelled instrs)) (2 * program_length instrs) (length-spelled instrs),
      readable,
      instrs_of-spelled instrs fit,
    ) refl

-- rows
pub record CheckedSuffix {A : Type 0} (result : Result (A × Left) ℕ) (x : A) (rest : List ℕ) : Type 0 where
  pub number : ℕ
  pub is : result ≡ Ok (x, record { number = number; text = rest })

pub rows_read-text : (width at : ℕ) (before rows : List (List ℕ)) (number : ℕ) (rest : List ℕ) → AllByRecursion (IsRow width) rows → at + length rows < 2 ^ 32
    → CheckedSuffix (rows_read width at (length rows) before (record { number = number; text = rows_text at rows ++ rest })) (before ++ rows) rest
rows_read-text width at before [] number rest all small = record { number = number; is = ap (λ (rs : List (List ℕ)). Ok (rs, record { number = number; text = rest })) (sym (append-nil before)) }
rows_read-text width at before (row ∷ rows) number rest all small =
    let words = decimal at ∷ number_words row in
    let parts = append_assoc (line_text (codes "at") words) (rows_text (at + 1) rows) rest in
    let line = line_read-line (row_line width at) number (codes "at") words (rows_text (at + 1) rows ++ rest) row refl
    (and_from (above 0x20 (decimal at)) (all_above 0x20 (number_words row)) (decimal-above at (omega arith)) (numbers-above row (all.0).numbers)) (row_line-text width at row (omega arith) all.0) in
    let others = rows_read-text width (at + 1) (before ++ row ∷ []) rows (number + 1) rest all.1 (omega arith) in
    let whole = append_assoc before (row ∷ []) rows in
    record { number = others.number; is = rw (parts, line) (others.is ∙ ap (λ (rs : List (List ℕ)). Ok (rs, record { number = others.number; text = rest })) whole) }

-- a fact of all of some rows in a row is one of the last of them
all-after : {A : Type 0} (P : A → Type 0) (xs ys : List A) → AllByRecursion P (xs ++ ys) → AllByRecursion P ys
all-after P [] ys all = all
all-after P (x ∷ xs) ys all = all-after P xs ys all.1

-- ranges
ranges_read-text : (most width count : ℕ) (before rows : List (List ℕ)) (number : ℕ) (rest : List ℕ) → AllByRecursion (IsRow width) rows → length before + length rows ≡ count → count ≤ 2 ^ 32 → length rows < most
    → ((others : List (List ℕ)) → rows ≢ last_labels before ∷ others)
    → CheckedSuffix (ranges_read width count most before (record { number = number; text = ranges_text (ranges_of (length before) rows) ++ rest })) (before ++ rows) rest
ranges_read-text zero width count before rows number rest all whole small enough apart = absurd (omega (arith, enough))
ranges_read-text (suc most) width count before [] number rest all whole small enough apart =
    let ended : (length before == count) ≡ true = eq-eqb (length before) count (omega (arith, whole)) in
    record { number = number; is = rw ended (ap (λ (rs : List (List ℕ)). Ok (rs, record { number = number; text = rest })) (sym (append-nil before))) }
ranges_read-text (suc most) width count before (row ∷ rows) number rest all whole small enough apart =
    let s : Split row rows = split row rows in
    let one : suc s.n ≡ s.n + 1 = omega arith in
    let run : Range = record { first = length before; last = length before + s.n; labels = row } in
    let front = replicate (suc s.n) row in
    let next = before ++ front in
    let long = length-replicate (suc s.n) row in
    let sum : length next ≡ length before + s.n + 1 = (let whole = length-append before front in omega (arith, whole, long)) in
    let parts : row ∷ rows ≡ front ++ s.others = ap (λ (rs : List (List ℕ)). row ∷ rs) s.parts in
    let count_is : length (row ∷ rows) ≡ suc s.n + length s.others = (let whole = length-append front s.others in omega (arith, ap length parts, whole, long)) in
    let tail = ranges_text (ranges_of (length next) s.others) ++ rest in
    let ranges : ranges_of (length before) (row ∷ rows) ≡ run ∷ ranges_of (length next) s.others =
    ap (ranges_of (length before)) parts ∙ ranges_of-run s.n (length before) row s.others s.apart ∙ ap (λ (m : ℕ). run ∷ ranges_of m s.others) (sym sum) in
    let text : ranges_text (ranges_of (length before) (row ∷ rows)) ++ rest ≡ range_text run ++ tail =
    ap (λ (rs : List Range). ranges_text rs ++ rest) ranges ∙ append_assoc (range_text run) (ranges_text (ranges_of (length next) s.others)) rest in
    let more : (length before == count) ≡ false = ne_eqb (length before) count (λ same. omega (arith, whole, same)) in
    let inside : length before + s.n < count = omega (arith, whole, count_is) in
    let words = decimal (length before) ∷ decimal (length before + s.n) ∷ number_words row in
    let line = line_read-line (range_line width count (length before) (last_labels before)) number (codes "at") words tail run refl
    (and_from (above 0x20 (decimal (length before))) (all_above 0x20 (decimal (length before + s.n) ∷ number_words row)) (decimal-above (length before) (omega (arith, inside, small)))
    (and_from (above 0x20 (decimal (length before + s.n))) (all_above 0x20 (number_words row)) (decimal-above (length before + s.n) (omega (arith, inside, small))) (numbers-above row (all.0).numbers)))
    (range_line-text width count (length before) (length before + s.n) (last_labels before) row (omega arith) inside small all.0 (λ is. apart rows (ap (λ (r : List ℕ). r ∷ rows) is))) in
    let grown : range_rows run ≡ front = (let e : length before + s.n - length before + 1 ≡ suc s.n = omega arith in ap (λ (m : ℕ). replicate m row) e) in
    let last : last_labels next ≡ row = ap (λ (m : ℕ). last_labels (before ++ replicate m row)) one ∙ last_labels-more before s.n row in
    let others = ranges_read-text most width count next s.others (number + 1) rest
    (all-after (IsRow width) front s.others (subst (AllByRecursion (IsRow width)) parts all)) (omega (arith, whole, count_is, sum)) small (omega (arith, enough, count_is))
    (λ more is. s.apart more (is ∙ ap (λ (r : List ℕ). r ∷ more) last)) in
    record {
      number = others.number;
      is = ap (λ (t : List ℕ). ranges_read width count (suc most) before (record { number = number; text = t })) text
          ∙ rw (more, line) (ap (λ (rs : List (List ℕ)). ranges_read width count most (before ++ rs) (record { number = number + 1; text = tail })) grown
          ∙ others.is
          ∙ ap (λ (rs : List (List ℕ)). Ok (rs, record { number = others.number; text = rest })) (append_assoc before front s.others ∙ ap (λ (rs : List (List ℕ)). before ++ rs) (sym parts)));
    }

-- rows in a version
pub labels_read-text : (version : Version) (width : ℕ) (rows : List (List ℕ)) (number : ℕ) (rest : List ℕ) → 0 < width → AllByRecursion (IsRow width) rows → length rows < 2 ^ 32
    → CheckedSuffix (labels_read version width (length rows) (record { number = number; text = labels_text version rows ++ rest })) rows rest
labels_read-text One width rows number rest some all small = rows_read-text width 0 [] rows number rest all (omega (arith, small))
labels_read-text Two width rows number rest some all small =
    ranges_read-text (length rows + 1) width (length rows) [] rows number rest all (omega arith) (omega (arith, small)) (omega arith) (some_labels width rows some all)
  where
    -- the first row has a label
    some_labels : (width : ℕ) (rows : List (List ℕ)) → 0 < width → AllByRecursion (IsRow width) rows → (others : List (List ℕ)) → rows ≢ [] ∷ others
    some_labels width [] some all others is = absurd (cc)
    some_labels width (row ∷ rows) some all others is =
        let first : row ≡ [] = cc in
        let wide = (all.0).wide in
        absurd (omega (arith, some, wide, ap length first))
