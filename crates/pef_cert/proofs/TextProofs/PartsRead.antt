-- The values of lines that are read are those that are printed.
use Rattle.std.proofs.Common.{◌≡◌, ◌≢◌, ℕ, zero, suc, ◌+◌, ◌*◌, ◌-◌, ◌/◌, ◌%◌, ◌<◌, ◌≤◌, ◌==◌, ◌&&◌, Bool, not, true, false, cond, List, [], ◌∷◌, ◌++◌, Option, None, Some, length, slice_index, refl, sym, ap, ap₂, ◌∙◌, subst, arith}
use Rattle.std.specs.Prelude.{codes, decimal, nat_le, nat_lt, option_map}
use Rattle.std.specs.List.{AllByRecursion}
use Rattle.std.specs.Option.{is_none}
use Rattle.std.specs.Str.{bytes_eq}
use Rattle.std.proofs.lemmas.Bool.{eqb-true, leb-true, le-ltb, lt-ltb, ltb-true, and_parts}
use Rattle.pef_cert.specs.Valid.{rises}
use Rattle.pef_lines.specs.Cursor.{behind, first_number, first_of, none_left, provided, words_of}
use Rattle.pef_lines.specs.Numbers.{decimal_number}
use Rattle.pef_ports.specs.Text.{hex_digit, hex_text}
use Rattle.pef_reloc.specs.declared.fault.RelocFault.{RelocFault}
use Rattle.pef_reloc.specs.declared.instr.Instr.{Instr}
use Rattle.pef_reloc.specs.Instrs.{instrs_fit, program_length, spelled}
use Rattle.pef_reloc.specs.Unrolled.{instrs_of, program_fault}
use Rattle.pef_reloc.proofs.Laws.{instrs_of-fit, length-spelled, some_length, spelled-instrs_of, spelled-nothing}
use Rattle.pef_words.specs.Refusals.{◌>>=◌}
use Rattle.pef_cert.specs.declared.text.fields.Head.{Head}
use Rattle.pef_cert.specs.declared.text.fields.Head.TheVariants.{Section, End}
use Rattle.pef_cert.specs.declared.text.fields.Version.{Version}
use Rattle.pef_cert.specs.declared.text.fields.Version.TheVariants.{One, Two}
use Rattle.pef_cert.specs.Text.Lines.{Range, bytes_spelled, fixups_line, head_line, length_line, most_text_fixups, most_text_registers, number_line, program_in, program_line, range_line, registers_in, registers_line, row_line, version_line}
use Rattle.pef_cert.specs.Text.Printed.{IsNumber, IsRow, halfword_words, number_words, program_words, version_word, words_text}
use Rattle.pef_cert.specs.Text.Words.{bytes_in, digit_in, ended, halfword_in, halfwords_in, numbers_in}
use Rattle.pef_cert.proofs.TextProofs.RangeLemmas.{labels_differ}
use Rattle.pef_cert.proofs.TextProofs.RoundLemmas.{ArePairs}
use Rattle.pef_cert.proofs.TextProofs.WordsRead.{decimal_number-is, first_of-some, is_word, line-is, none_left-true, numbers_in-are, provided-some, then_some}

-- a name and a number

number_line-is : (name line : List ℕ) (n : ℕ) → number_line name line ≡ Some n → (line ≡ name ++ words_text (decimal n ∷ [])) × IsNumber n
unfolding number_line
number_line-is name line n is =
    then_some (behind name (words_of line)) (λ words. first_of words >>= λ digits. decimal_number digits.0 >>= λ number. ended digits.1 number) n is (λ words begins rest.
    then_some (first_of words) (λ digits. decimal_number digits.0 >>= λ number. ended digits.1 number) n rest (λ digits found others.
    then_some (decimal_number digits.0) (λ number. ended digits.1 number) n others (λ number spelled last.
    let p = provided-some (none_left digits.1) number n last in
    let q = decimal_number-is digits.0 number spelled in
    let are : words ≡ decimal n ∷ [] = first_of-some words digits found ∙ ap₂ (λ (w : List ℕ) (ws : List (List ℕ)). w ∷ ws) (q.0 ∙ ap decimal p.1) (none_left-true digits.1 p.0) in
    (line-is line name words (decimal n ∷ []) begins are, subst IsNumber p.1 q.1))))

pub fixups_line-is : (line : List ℕ) (n : ℕ) → fixups_line line ≡ Some n → (line ≡ codes "fixups" ++ words_text (decimal n ∷ [])) × (n ≤ most_text_fixups)
unfolding fixups_line
fixups_line-is line n is = then_some (number_line (codes "fixups") line) (λ count. provided (nat_le count most_text_fixups) count) n is (λ count said rest.
    let p = provided-some (nat_le count most_text_fixups) count n rest in
    let few = leb-true count most_text_fixups p.0 in
    let q = number_line-is (codes "fixups") line count said in
    (q.0 ∙ ap (λ (m : ℕ). codes "fixups" ++ words_text (decimal m ∷ [])) p.1, subst (λ (m : ℕ). m ≤ most_text_fixups) p.1 few))

pub length_line-is : (line : List ℕ) (n : ℕ) → length_line line ≡ Some n → (line ≡ codes "length" ++ words_text (decimal n ∷ [])) × IsNumber n
unfolding length_line
length_line-is line n is = number_line-is (codes "length") line n is

-- the lines that begin and end

pub version_line-is : (line : List ℕ) (version : Version) → version_line line ≡ Some version → line ≡ codes "pefcert" ++ words_text (version_word version ∷ [])
unfolding version_line
version_line-is line version is = by (bytes_eq line (codes "pefcert 1")) refl (bytes_eq line (codes "pefcert 2")) refl is
  where
    by : (one : Bool) → bytes_eq line (codes "pefcert 1") ≡ one → (two : Bool) → bytes_eq line (codes "pefcert 2") ≡ two
        → cond one (Some One) (cond two (Some Two) None) ≡ Some version → line ≡ codes "pefcert" ++ words_text (version_word version ∷ [])
    by true first two second is =
        let same : One ≡ version = cc in
        subst (λ (v : Version). line ≡ codes "pefcert" ++ words_text (version_word v ∷ [])) same (is_word line (codes "pefcert 1") first)
    by false first true second is =
        let same : Two ≡ version = cc in
        subst (λ (v : Version). line ≡ codes "pefcert" ++ words_text (version_word v ∷ [])) same (is_word line (codes "pefcert 2") second)
    by false first false second is = absurd (cc)

-- the line of a head
abbrev pub HeadText : Head → List ℕ → Type 0
HeadText End line = line ≡ codes "end" ++ words_text []
HeadText (Section n) line = (line ≡ codes "section" ++ words_text (decimal n ∷ [])) × IsNumber n

pub head_line-is : (line : List ℕ) (head : Head) → head_line line ≡ Some head → HeadText head line
unfolding head_line
head_line-is line head is = by (bytes_eq line (codes "end")) refl (number_line (codes "section") line) (number_line-is (codes "section") line) is
  where
    by : (last : Bool) → bytes_eq line (codes "end") ≡ last → (number : Option ℕ) → ((n : ℕ) → number ≡ Some n → (line ≡ codes "section" ++ words_text (decimal n ∷ [])) × IsNumber n)
        → cond last (Some End) (option_map Section number) ≡ Some head → HeadText head line
    by true last number says is =
        let same : End ≡ head = cc in
        subst (λ (h : Head). HeadText h line) same (is_word line (codes "end") last)
    by false last None says is = absurd (cc)
    by false last (Some n) says is =
        let same : Section n ≡ head = cc in
        subst (λ (h : Head). HeadText h line) same (says n refl)

-- registers

registers_in-are : (words : List (List ℕ)) (registers : List ℕ) → registers_in words ≡ Some registers → (words ≡ number_words registers ++ codes "*" ∷ []) × AllByRecursion IsNumber registers
registers_in-are [] registers is = absurd (cc)
registers_in-are (word ∷ words) registers is = by (bytes_eq word (codes "*")) refl is (registers_in-are words)
  where
    by : (star : Bool) → bytes_eq word (codes "*") ≡ star → cond star (ended words []) (decimal_number word >>= λ n. registers_in words >>= λ ns. Some (n ∷ ns)) ≡ Some registers
        → ((ns : List ℕ) → registers_in words ≡ Some ns → (words ≡ number_words ns ++ codes "*" ∷ []) × AllByRecursion IsNumber ns)
        → (word ∷ words ≡ number_words registers ++ codes "*" ∷ []) × AllByRecursion IsNumber registers
    by true star is others =
        let p = provided-some (none_left words) [] registers is in
        subst (λ (ms : List ℕ). (word ∷ words ≡ number_words ms ++ codes "*" ∷ []) × AllByRecursion IsNumber ms) p.1
        (ap₂ (λ (w : List ℕ) (ws : List (List ℕ)). w ∷ ws) (is_word word (codes "*") star) (none_left-true words p.0), tt)
    by false star is others = then_some (decimal_number word) (λ n. registers_in words >>= λ ns. Some (n ∷ ns)) registers is
        (λ n digits rest. then_some (registers_in words) (λ ns. Some (n ∷ ns)) registers rest
        (λ ns later made.
        let same : n ∷ ns ≡ registers = cc in
        let p = decimal_number-is word n digits in
        let q = others ns later in
        subst (λ (ms : List ℕ). (word ∷ words ≡ number_words ms ++ codes "*" ∷ []) × AllByRecursion IsNumber ms) same (ap₂ (λ (w : List ℕ) (ws : List (List ℕ)). w ∷ ws) p.0 q.0, (p.1, q.1))))

pub record RegistersText (line registers : List ℕ) : Type 0 where
  pub text : line ≡ codes "registers" ++ words_text (number_words registers ++ codes "*" ∷ [])
  pub numbers : AllByRecursion IsNumber registers
  pub rising : rises registers ≡ true
  pub few : length registers ≤ most_text_registers

pub registers_line-is : (line registers : List ℕ) → registers_line line ≡ Some registers → RegistersText line registers
unfolding registers_line
registers_line-is line registers is =
    then_some (behind (codes "registers") (words_of line)) (λ words. registers_in words >>= λ rs. provided (rises rs && nat_le (length rs) most_text_registers) rs) registers is (λ words begins rest.
    then_some (registers_in words) (λ rs. provided (rises rs && nat_le (length rs) most_text_registers) rs) registers rest (λ rs said last.
    let p = provided-some (rises rs && nat_le (length rs) most_text_registers) rs registers last in
    let tests = and_parts (rises rs) (nat_le (length rs) most_text_registers) p.0 in
    let q = registers_in-are words rs said in
    subst (RegistersText line) p.1 (record {
      text = line-is line (codes "registers") words (number_words rs ++ codes "*" ∷ []) begins q.0;
      numbers = q.1;
      rising = tests.0;
      few = leb-true (length rs) most_text_registers tests.1;
    })))

-- labels

pub record RowText (width at : ℕ) (line row : List ℕ) : Type 0 where
  pub text : line ≡ codes "at" ++ words_text (decimal at ∷ number_words row)
  pub wide : IsRow width row

pub row_line-is : (width at : ℕ) (line row : List ℕ) → row_line width at line ≡ Some row → RowText width at line row
unfolding row_line
row_line-is width at line row is =
    then_some (behind (codes "at") (words_of line)) (λ words. first_of words >>= λ index. decimal_number index.0 >>= λ number. numbers_in index.1 >>= λ labels. provided (number == at && length labels == width) labels) row is (λ words begins rest.
    then_some (first_of words) (λ index. decimal_number index.0 >>= λ number. numbers_in index.1 >>= λ labels. provided (number == at && length labels == width) labels) row rest (λ index found others.
    then_some (decimal_number index.0) (λ number. numbers_in index.1 >>= λ labels. provided (number == at && length labels == width) labels) row others (λ number spelled more.
    then_some (numbers_in index.1) (λ labels. provided (number == at && length labels == width) labels) row more (λ labels said last.
    let p = provided-some (number == at && length labels == width) labels row last in
    let tests = and_parts (number == at) (length labels == width) p.0 in
    let first = decimal_number-is index.0 number spelled in
    let q = numbers_in-are index.1 labels said in
    let are : words ≡ decimal at ∷ number_words labels = first_of-some words index found ∙ ap₂ (λ (w : List ℕ) (ws : List (List ℕ)). w ∷ ws) (first.0 ∙ ap decimal (eqb-true number at tests.0)) q.0 in
    subst (RowText width at line) p.1 (record {
      text = line-is line (codes "at") words (decimal at ∷ number_words labels) begins are;
      wide = record { wide = eqb-true (length labels) width tests.1; numbers = q.1 };
    })))))

-- the number of the first word, and the words after it
first_number-is : (words : List (List ℕ)) (x : ℕ × List (List ℕ)) → first_number words ≡ Some x → (words ≡ decimal x.0 ∷ x.1) × IsNumber x.0
first_number-is words x is =
    then_some (first_of words) (λ first. decimal_number first.0 >>= λ number. Some (number, first.1)) x is (λ first found rest.
    then_some (decimal_number first.0) (λ number. Some (number, first.1)) x rest (λ number spelled made.
    let same : (number, first.1) ≡ x = cc in
    let q = decimal_number-is first.0 number spelled in
    subst (λ (p : ℕ × List (List ℕ)). (words ≡ decimal p.0 ∷ p.1) × IsNumber p.0) same (first_of-some words first found ∙ ap (λ (w : List ℕ). w ∷ first.1) q.0, q.1)))

pub record RangeText (width count at : ℕ) (before line : List ℕ) (range : Range) : Type 0 where
  pub text : line ≡ codes "at" ++ words_text (decimal range.first ∷ decimal range.last ∷ number_words range.labels)
  pub first : range.first ≡ at
  pub forward : at ≤ range.last
  pub inside : range.last < count
  pub wide : IsRow width range.labels
  pub other : range.labels ≢ before

pub range_line-is : (width count at : ℕ) (before line : List ℕ) (range : Range) → range_line width count at before line ≡ Some range → RangeText width count at before line range
unfolding range_line
range_line-is width count at before line range is =
    then_some (behind (codes "at") (words_of line)) (λ words. first_number words >>= λ first. first_number first.1 >>= λ last. numbers_in last.1 >>= λ labels. provided (first.0 == at && nat_le at last.0 && nat_lt last.0 count && length labels == width && not (bytes_eq labels before)) (record { first = first.0; last = last.0; labels = labels })) range is (λ words begins rest.
    then_some (first_number words) (λ first. first_number first.1 >>= λ last. numbers_in last.1 >>= λ labels. provided (first.0 == at && nat_le at last.0 && nat_lt last.0 count && length labels == width && not (bytes_eq labels before)) (record { first = first.0; last = last.0; labels = labels })) range rest (λ first first_said others.
    then_some (first_number first.1) (λ last. numbers_in last.1 >>= λ labels. provided (first.0 == at && nat_le at last.0 && nat_lt last.0 count && length labels == width && not (bytes_eq labels before)) (record { first = first.0; last = last.0; labels = labels })) range others (λ last last_said more.
    then_some (numbers_in last.1) (λ labels. provided (first.0 == at && nat_le at last.0 && nat_lt last.0 count && length labels == width && not (bytes_eq labels before)) (record { first = first.0; last = last.0; labels = labels })) range more (λ labels said tested.
    let p = provided-some (first.0 == at && nat_le at last.0 && nat_lt last.0 count && length labels == width && not (bytes_eq labels before)) (record { first = first.0; last = last.0; labels = labels }) range tested in
    let t4 = and_parts (first.0 == at && nat_le at last.0 && nat_lt last.0 count && length labels == width) (not (bytes_eq labels before)) p.0 in
    let t3 = and_parts (first.0 == at && nat_le at last.0 && nat_lt last.0 count) (length labels == width) t4.0 in
    let t2 = and_parts (first.0 == at && nat_le at last.0) (nat_lt last.0 count) t3.0 in
    let t1 = and_parts (first.0 == at) (nat_le at last.0) t2.0 in
    let differ : bytes_eq labels before ≡ false = not-true (bytes_eq labels before) t4.1 in
    let f = first_number-is words first first_said in
    let l = first_number-is first.1 last last_said in
    let q = numbers_in-are last.1 labels said in
    let are : words ≡ decimal first.0 ∷ decimal last.0 ∷ number_words labels = f.0 ∙ ap (λ (ws : List (List ℕ)). decimal first.0 ∷ ws) (l.0 ∙ ap (λ (ws : List (List ℕ)). decimal last.0 ∷ ws) q.0) in
    subst (RangeText width count at before line) p.1 (record {
      text = line-is line (codes "at") words (decimal first.0 ∷ decimal last.0 ∷ number_words labels) begins are;
      first = eqb-true first.0 at t1.0;
      forward = leb-true at last.0 t1.1;
      inside = ltb-true last.0 count t2.1;
      wide = record { wide = eqb-true (length labels) width t3.1; numbers = q.1 };
      other = labels_differ labels before differ;
    })))))
  where
    not-true : (b : Bool) → not b ≡ true → b ≡ false
    not-true true is = absurd (cc)
    not-true false is = refl

-- programs

digit_in-is : (b d : ℕ) → digit_in b ≡ Some d → (b ≡ hex_digit d) × (d < 16)
digit_in-is b d is = by (nat_le 0x30 b && nat_le b 0x39) refl (nat_le 0x41 b && nat_le b 0x46) refl is
  where
    by : (x : Bool) → (nat_le 0x30 b && nat_le b 0x39) ≡ x → (y : Bool) → (nat_le 0x41 b && nat_le b 0x46) ≡ y
        → cond x (Some (b - 0x30)) (cond y (Some (b - 0x37)) None) ≡ Some d → (b ≡ hex_digit d) × (d < 16)
    by true first y second is =
        let same : b - 0x30 ≡ d = cc in
        let tests = and_parts (nat_le 0x30 b) (nat_le b 0x39) first in
        let low = leb-true 0x30 b tests.0 in
        let high = leb-true b 0x39 tests.1 in
        let under : d < 10 = omega (arith, same, low, high) in
        let byte : b ≡ 48 + d = omega (arith, same, low) in
        (rw (lt-ltb d 10 under) byte, omega (arith, under))
    by false first true second is =
        let same : b - 0x37 ≡ d = cc in
        let tests = and_parts (nat_le 0x41 b) (nat_le b 0x46) second in
        let low = leb-true 0x41 b tests.0 in
        let high = leb-true b 0x46 tests.1 in
        let over : 10 ≤ d = omega (arith, same, low) in
        let byte : b ≡ 55 + d = omega (arith, same, low) in
        (rw (le-ltb d 10 over) byte, omega (arith, same, high))
    by false first false second is = absurd (cc)

-- the digits of bytes
record BytesText (digits bytes : List ℕ) : Type 0 where
  text : digits ≡ hex_text bytes
  small : AllByRecursion (λ (b : ℕ). b < 256) bytes

bytes_in-are : (digits bytes : List ℕ) → bytes_in digits ≡ Some bytes → BytesText digits bytes
bytes_in-are [] bytes is =
    let same : [] ≡ bytes = cc in
    subst (BytesText []) same (record { text = refl; small = tt })
bytes_in-are (digit ∷ []) bytes is = absurd (cc)
bytes_in-are (high ∷ low ∷ digits) bytes is =
    then_some (digit_in high) (λ h. digit_in low >>= λ l. bytes_in digits >>= λ bs. Some ((h * 16 + l) ∷ bs)) bytes is (λ h first rest.
    then_some (digit_in low) (λ l. bytes_in digits >>= λ bs. Some ((h * 16 + l) ∷ bs)) bytes rest (λ l second more.
    then_some (bytes_in digits) (λ bs. Some ((h * 16 + l) ∷ bs)) bytes more (λ bs others made.
    let same : (h * 16 + l) ∷ bs ≡ bytes = cc in
    let p = digit_in-is high h first in
    let q = digit_in-is low l second in
    let small = p.1 in
    let under = q.1 in
    let later = bytes_in-are digits bs others in
    let upper : (h * 16 + l) / 16 ≡ h = omega (arith, under) in
    let lower : (h * 16 + l) % 16 ≡ l = omega (arith, under) in
    subst (BytesText (high ∷ low ∷ digits)) same (record {
      text = rw (upper, lower) (ap₂ (λ (x : ℕ) (ds : List ℕ). x ∷ ds) p.0 (ap₂ (λ (y : ℕ) (ds : List ℕ). y ∷ ds) q.0 later.text));
      small = (omega (arith, small, under), later.small);
    }))))

-- four digits are those of two bytes
halfword_in-is : {P : Type 0} (word bytes : List ℕ) → halfword_in word ≡ Some bytes → ((high low : ℕ) → bytes ≡ high ∷ low ∷ [] → word ≡ hex_text (high ∷ low ∷ []) → high < 256 → low < 256 → P) → P
halfword_in-is {P = P} word bytes is go = by (length word == 4) refl is
  where
    two : (bs : List ℕ) → bytes ≡ bs → length word ≡ 4 → BytesText word bs → P
    two [] same four t = absurd (omega (arith, four, ap length t.text))
    two (b ∷ []) same four t = absurd (omega (arith, four, ap length t.text))
    two (high ∷ low ∷ []) same four t = go high low same t.text t.small.0 t.small.1.0
    two (high ∷ low ∷ b ∷ bs) same four t = absurd (omega (arith, four, ap length t.text))

    by : (four : Bool) → (length word == 4) ≡ four → cond four (bytes_in word) None ≡ Some bytes → P
    by true four is = two bytes refl (eqb-true (length word) 4 four) (bytes_in-are word bytes is)
    by false four is = absurd (cc)

halfwords_in-are : (words : List (List ℕ)) (bytes : List ℕ) → halfwords_in words ≡ Some bytes → (words ≡ halfword_words bytes) × ArePairs bytes
halfwords_in-are [] bytes is =
    let same : [] ≡ bytes = cc in
    subst (λ (bs : List ℕ). ([] ≡ halfword_words bs) × ArePairs bs) same (refl, tt)
halfwords_in-are (word ∷ words) bytes is =
    then_some (halfword_in word) (λ first. halfwords_in words >>= λ others. Some (first ++ others)) bytes is (λ first here rest.
    then_some (halfwords_in words) (λ others. Some (first ++ others)) bytes rest (λ others later made.
    let same : first ++ others ≡ bytes = cc in
    let q = halfwords_in-are words others later in
    halfword_in-is word first here (λ high low two text h l.
    subst (λ (bs : List ℕ). (word ∷ words ≡ halfword_words bs) × ArePairs bs) (ap (λ (bs : List ℕ). bs ++ others) (sym two) ∙ same)
    (ap₂ (λ (w : List ℕ) (ws : List (List ℕ)). w ∷ ws) text q.0, (h, l, q.1)))))

pairs-bytes : (bytes : List ℕ) → ArePairs bytes → (k : ℕ) → slice_index bytes k < 256
pairs-bytes [] are k = omega arith
pairs-bytes (byte ∷ []) are k = absurd are
pairs-bytes (high ∷ low ∷ bytes) are zero = are.0
pairs-bytes (high ∷ low ∷ bytes) are (suc zero) = are.1
pairs-bytes (high ∷ low ∷ bytes) are (suc (suc k)) = pairs-bytes bytes are.2 k

-- the words of bytes are those of the instructions that the bytes spell
words-of : (words : List (List ℕ)) (bytes : List ℕ) (instrs : List Instr) → 0 < length words → words ≡ halfword_words bytes → spelled instrs ≡ bytes → words ≡ program_words instrs
words-of words bytes [] some are is =
    let none : halfword_words bytes ≡ [] = ap halfword_words (sym is ∙ spelled-nothing) in
    absurd (omega (arith, some, ap length are, ap length none))
words-of words bytes (instr ∷ instrs) some are is = are ∙ ap halfword_words (sym is)

no_instr : (instrs : List Instr) → spelled instrs ≡ [] → instrs ≡ []
no_instr [] is = refl
no_instr (instr ∷ instrs) is =
    let whole = length-spelled (instr ∷ instrs) in
    let least = some_length instr in
    absurd (omega (arith, whole, least, ap length is))

bytes_spelled-are : (words : List (List ℕ)) (bytes : List ℕ) → bytes_spelled words ≡ Some bytes → ArePairs bytes × ((instrs : List Instr) → spelled instrs ≡ bytes → words ≡ program_words instrs)
bytes_spelled-are [] bytes is = absurd (cc)
bytes_spelled-are (word ∷ words) bytes is = by (bytes_eq word (codes "-")) refl is
  where
    by : (dash : Bool) → bytes_eq word (codes "-") ≡ dash → cond dash (ended words []) (halfwords_in (word ∷ words)) ≡ Some bytes → ArePairs bytes × ((instrs : List Instr) → spelled instrs ≡ bytes → word ∷ words ≡ program_words instrs)
    by true dash is =
        let p = provided-some (none_left words) [] bytes is in (
          subst ArePairs p.1 tt,
          λ instrs spells.
              let none : instrs ≡ [] = no_instr instrs (spells ∙ sym p.1) in
              ap₂ (λ (w : List ℕ) (ws : List (List ℕ)). w ∷ ws) (is_word word (codes "-") dash) (none_left-true words p.0) ∙ ap program_words (sym none),
        )
    by false dash is =
        let p = halfwords_in-are (word ∷ words) bytes is in
        (p.1, λ instrs spells. words-of (word ∷ words) bytes instrs (omega arith) p.0 spells)

is_none-true : (o : Option RelocFault) → is_none o ≡ true → o ≡ None
is_none-true None is = refl
is_none-true (Some fault) is = absurd (cc)

pub record ProgramText (halfwords : ℕ) (line : List ℕ) (instrs : List Instr) : Type 0 where
  pub text : line ≡ codes "program" ++ words_text (program_words instrs)
  pub fits : instrs_fit instrs ≡ true
  pub readable : program_fault (spelled instrs) ≡ None
  pub halfwords_are : program_length instrs ≡ halfwords

pub program_line-is : (halfwords : ℕ) (line : List ℕ) (instrs : List Instr) → program_line halfwords line ≡ Some instrs → ProgramText halfwords line instrs
unfolding program_line
program_line-is halfwords line instrs is =
    then_some (behind (codes "program") (words_of line)) (λ words. bytes_spelled words >>= λ bytes. program_in halfwords bytes) instrs is (λ words begins rest.
    then_some (bytes_spelled words) (λ bytes. program_in halfwords bytes) instrs rest (λ bytes said last.
    let p = provided-some (length bytes == 2 * halfwords && is_none (program_fault bytes)) (instrs_of bytes) instrs last in
    let tests = and_parts (length bytes == 2 * halfwords) (is_none (program_fault bytes)) p.0 in
    let q = bytes_spelled-are words bytes said in
    let are = pairs-bytes bytes q.0 in
    let fine = is_none-true (program_fault bytes) tests.1 in
    let spells : spelled (instrs_of bytes) ≡ bytes = spelled-instrs_of bytes are fine in
    let count = length-spelled (instrs_of bytes) in
    let long = eqb-true (length bytes) (2 * halfwords) tests.0 in
    subst (ProgramText halfwords line) p.1 (record {
      text = line-is line (codes "program") words (program_words (instrs_of bytes)) begins (q.1 (instrs_of bytes) spells);
      fits = instrs_of-fit bytes are fine;
      readable = ap program_fault spells ∙ fine;
      halfwords_are = omega (arith, count, long, ap length spells);
    })))
