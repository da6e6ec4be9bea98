-- Certificates that are read are those that are printed. So a list has one text, and a text at most
-- one list.
use Rattle.std.proofs.Common.{◌≡◌, ◌≢◌, ◌⊎◌, inl, inr, ℕ, zero, suc, ◌+◌, ◌-◌, ◌==◌, Bool, true, false, cond, List, [], ◌∷◌, ◌++◌, Result, Ok, Err, length, length-append, replicate, refl, sym, ap, ap₂, ◌∙◌, subst, append_assoc, arith}
use Rattle.std.specs.Prelude.{codes, decimal}
use Rattle.std.specs.List.{AllByRecursion}
use Rattle.std.proofs.lemmas.Bool.{eqb-true}
use Rattle.std.proofs.lemmas.List.{append-nil, length-replicate, nil_from_length}
use Rattle.pef_cert.specs.Certified.{Certified}
use Rattle.pef_reloc.specs.Instrs.{program_length}
use Rattle.std.specs.Result.{result_unwrap_or}
use Rattle.pef_words.specs.Results.{◌>>=◌}
use Rattle.pef_cert.specs.declared.text.fields.Head.{Head}
use Rattle.pef_cert.specs.declared.text.fields.Head.TheVariants.{Section, End}
use Rattle.pef_cert.specs.declared.text.fields.Version.{Version}
use Rattle.pef_cert.specs.declared.text.fields.Version.TheVariants.{One, Two}
use Rattle.pef_cert.specs.Text.Grammar.{Left, after_head, certificate_read, certificates_of, certificates_read, labels_read, last_labels, line_read, range_rows, ranges_read, row_width, rows_read, text_ended}
use Rattle.pef_cert.specs.Text.Lines.{Range, fixups_line, head_line, length_line, program_line, range_line, registers_line, row_line, version_line}
use Rattle.pef_cert.specs.Text.Printed.{IsNumber, IsRow, Printable, certificate_text, certificates_text, each_text, labels_text, line_text, number_words, program_words, range_text, ranges_of, ranges_text, rows_text, version_word, versioned_text, words_text}
use Rattle.pef_cert.proofs.TextProofs.LinesRead.{line_read-ok, step_ok}
use Rattle.pef_cert.proofs.TextProofs.PartsRead.{HeadText, RangeText, fixups_line-is, head_line-is, length_line-is, program_line-is, range_line-is, registers_line-is, row_line-is, version_line-is}
use Rattle.pef_cert.proofs.TextProofs.RangeLemmas.{last_labels-more, ranges_of-run}
use Rattle.pef_cert.proofs.TextProofs.ReadsBack.{body_text, certificate_text-parts, end_text}

-- a line of words in front of a text
line_in : (text word rest : List ℕ) (words : List (List ℕ)) (line : List ℕ) → text ≡ line ++ 0x0A ∷ rest → line ≡ word ++ words_text words → text ≡ line_text word words ++ rest
line_in text word rest words line parts is =
    parts ∙ ap (λ (l : List ℕ). l ++ 0x0A ∷ rest) is ∙ sym (append_assoc (word ++ words_text words) (0x0A ∷ []) rest)

-- rows of labels, after those that were read before
record RowsText (width at n : ℕ) (before : List (List ℕ)) (old : Left) (all : List (List ℕ)) (new : Left) : Type 0 where
  more : List (List ℕ)
  are : all ≡ before ++ more
  count : length more ≡ n
  text : old.text ≡ rows_text at more ++ new.text
  wide : AllByRecursion (IsRow width) more

rows_read-are : (width at n : ℕ) (before : List (List ℕ)) (old new : Left) (all : List (List ℕ)) → rows_read width at n before old ≡ Ok (all, new) → RowsText width at n before old all new
rows_read-are width at zero before old new all is =
    let same : before ≡ all = ap (λ (r : Result (List (List ℕ) × Left) ℕ). (result_unwrap_or r (all, new)).0) is in
    let left : old.text ≡ new.text = ap (λ (r : Result (List (List ℕ) × Left) ℕ). (result_unwrap_or r (all, new)).1.text) is in
    record { more = []; are = sym same ∙ sym (append-nil before); count = refl; text = left; wide = tt }
rows_read-are width at (suc n) before old new all is =
    step_ok (line_read (row_line width at) old) (λ row. rows_read width (at + 1) n (before ++ row.0 ∷ []) row.1) (all, new) is (λ row first rest.
    line_read-ok (row_line width at) old row.1 row.0 first (λ line said parts.
    let t = row_line-is width at line row.0 said in
    let others = rows_read-are width (at + 1) n (before ++ row.0 ∷ []) row.1 new all rest in
    let words = decimal at ∷ number_words row.0 in
    record {
      more = row.0 ∷ others.more;
      are = others.are ∙ append_assoc before (row.0 ∷ []) others.more;
      count = (let count = others.count in omega (arith, count));
      text = line_in old.text (codes "at") (row.1).text words line parts t.text
          ∙ ap (λ (rest : List ℕ). line_text (codes "at") words ++ rest) others.text
          ∙ sym (append_assoc (line_text (codes "at") words) (rows_text (at + 1) others.more) new.text);
      wide = (t.wide, others.wide);
    }))

-- rows of ranges, after those that were read before; the first of them differs from the last of those
record RangesText (width count : ℕ) (before : List (List ℕ)) (old : Left) (all : List (List ℕ)) (new : Left) : Type 0 where
  more : List (List ℕ)
  are : all ≡ before ++ more
  count_is : length all ≡ count
  text : old.text ≡ ranges_text (ranges_of (length before) more) ++ new.text
  wide : AllByRecursion (IsRow width) more
  apart : (others : List (List ℕ)) → more ≢ last_labels before ∷ others

-- no range is left
ranges-none : (width count : ℕ) (before : List (List ℕ)) (old new : Left) (all : List (List ℕ)) → length before ≡ count → ◌≡◌ {A = Result (List (List ℕ) × Left) ℕ} (Ok (before, old)) (Ok (all, new)) → RangesText width count before old all new
ranges-none width count before old new all whole is =
    let same : before ≡ all = ap (λ (r : Result (List (List ℕ) × Left) ℕ). (result_unwrap_or r (all, new)).0) is in
    let left : old.text ≡ new.text = ap (λ (r : Result (List (List ℕ) × Left) ℕ). (result_unwrap_or r (all, new)).1.text) is in
    record { more = []; are = sym same ∙ sym (append-nil before); count_is = sym (ap length same) ∙ whole; text = left; wide = tt; apart = λ others is. absurd (cc) }

-- equal rows, each of a width
all_equal : (width n : ℕ) (row : List ℕ) (others : List (List ℕ)) → IsRow width row → AllByRecursion (IsRow width) others → AllByRecursion (IsRow width) (replicate n row ++ others)
all_equal width zero row others is all = all
all_equal width (suc n) row others is all = (is, all_equal width n row others is all)

-- a range, and others after it
ranges-one : (width count : ℕ) (before : List (List ℕ)) (old next new : Left) (all : List (List ℕ)) (range : Range) (line : List ℕ) → RangeText width count (length before) (last_labels before) line range
    → old.text ≡ line ++ 0x0A ∷ next.text → RangesText width count (before ++ range_rows range) next all new → RangesText width count before old all new
ranges-one width count before old next new all range line t parts others =
    let n = range.last - range.first in
    let first = t.first in
    let forward = t.forward in
    let one : suc n ≡ n + 1 = omega arith in
    let front = range_rows range in
    let grown : replicate (suc n) range.labels ≡ front = ap (λ (m : ℕ). replicate m range.labels) one in
    let last : last_labels (before ++ front) ≡ range.labels = last_labels-more before n range.labels in
    let sum = length-append before front in
    let long = length-replicate (n + 1) range.labels in
    let end : length before + n ≡ range.last = omega (arith, first, forward) in
    let behind : length before + n + 1 ≡ length (before ++ front) = omega (arith, sum, long) in
    let whole : ranges_of (length before) (front ++ others.more) ≡ range ∷ ranges_of (length (before ++ front)) others.more =
    ap (λ (rows : List (List ℕ)). ranges_of (length before) (rows ++ others.more)) (sym grown)
    ∙ ranges_of-run n (length before) range.labels others.more (λ more is. others.apart more (is ∙ ap (λ (r : List ℕ). r ∷ more) (sym last)))
    ∙ ap (λ (i : ℕ). record { first = length before; last = i; labels = range.labels } ∷ ranges_of (length before + n + 1) others.more) end
    ∙ ap₂ (λ (i m : ℕ). record { first = i; last = range.last; labels = range.labels } ∷ ranges_of m others.more) (sym first) behind in
    let words = decimal range.first ∷ decimal range.last ∷ number_words range.labels in
    record {
      more = front ++ others.more;
      are = others.are ∙ append_assoc before front others.more;
      count_is = others.count_is;
      text = line_in old.text (codes "at") next.text words line parts t.text
          ∙ ap (λ (rest : List ℕ). range_text range ++ rest) others.text
          ∙ sym (append_assoc (range_text range) (ranges_text (ranges_of (length (before ++ front)) others.more)) new.text)
          ∙ ap (λ (ranges : List Range). ranges_text ranges ++ new.text) (sym whole);
      wide = all_equal width (n + 1) range.labels others.more t.wide others.wide;
      apart = λ more is. (let equal : range.labels ∷ (replicate n range.labels ++ others.more) ≡ last_labels before ∷ more = ap (λ (rows : List (List ℕ)). rows ++ others.more) grown ∙ is in
          let same : range.labels ≡ last_labels before = cc in
          t.other same);
    }

ranges_read-are : (width count most : ℕ) (before : List (List ℕ)) (old new : Left) (all : List (List ℕ)) → ranges_read width count most before old ≡ Ok (all, new) → RangesText width count before old all new
ranges_read-are width count zero before old new all is = absurd (cc)
ranges_read-are width count (suc most) before old new all is =
    by (length before == count) refl is (λ range next read. ranges_read-are width count most (before ++ range_rows range) next new all read)
  where
    by : (ended : Bool) → (length before == count) ≡ ended
        → cond ended (Ok (before, old)) (line_read (range_line width count (length before) (last_labels before)) old >>= λ range. ranges_read width count most (before ++ range_rows range.0) range.1) ≡ Ok (all, new)
        → ((range : Range) (next : Left) → ranges_read width count most (before ++ range_rows range) next ≡ Ok (all, new) → RangesText width count (before ++ range_rows range) next all new)
        → RangesText width count before old all new
    by true ended is others = ranges-none width count before old new all (eqb-true (length before) count ended) is
    by false ended is others =
        step_ok (line_read (range_line width count (length before) (last_labels before)) old) (λ range. ranges_read width count most (before ++ range_rows range.0) range.1) (all, new) is (λ range first rest.
        line_read-ok (range_line width count (length before) (last_labels before)) old range.1 range.0 first (λ line said parts.
        ranges-one width count before old range.1 new all range.0 line (range_line-is width count (length before) (last_labels before) line range.0 said) parts (others range.0 range.1 rest)))

-- rows in a version
record LabelsText (version : Version) (width n : ℕ) (old : Left) (all : List (List ℕ)) (new : Left) : Type 0 where
  count : length all ≡ n
  text : old.text ≡ labels_text version all ++ new.text
  wide : AllByRecursion (IsRow width) all

labels_read-are : (version : Version) (width n : ℕ) (old new : Left) (all : List (List ℕ)) → labels_read version width n old ≡ Ok (all, new) → LabelsText version width n old all new
labels_read-are One width n old new all is =
    let r = rows_read-are width 0 n [] old new all is in
    record {
      count = ap length r.are ∙ r.count;
      text = r.text ∙ ap (λ (rows : List (List ℕ)). rows_text 0 rows ++ new.text) (sym r.are);
      wide = subst (AllByRecursion (IsRow width)) (sym r.are) r.wide;
    }
labels_read-are Two width n old new all is =
    let r = ranges_read-are width n (n + 1) [] old new all is in
    record {
      count = r.count_is;
      text = r.text ∙ ap (λ (rows : List (List ℕ)). ranges_text (ranges_of 0 rows) ++ new.text) (sym r.are);
      wide = subst (AllByRecursion (IsRow width)) (sym r.are) r.wide;
    }

-- a certificate
pub record CertificateText (version : Version) (section : ℕ) (old : Left) (c : Certified) (new : Left) : Type 0 where
  pub section_is : c.section ≡ section
  pub printable : IsNumber section → Printable c
  pub text : old.text ≡ body_text version c new.text

pub certificate_read-is : (version : Version) (section : ℕ) (old new : Left) (c : Certified) → certificate_read version section old ≡ Ok (c, new) → CertificateText version section old c new
unfolding certificate_read
certificate_read-is version section old new c is =
    step_ok (line_read fixups_line old) (λ fixups. line_read length_line fixups.1 >>= λ halfwords. line_read (program_line halfwords.0) halfwords.1 >>= λ program. line_read registers_line program.1 >>= λ registers. labels_read version (row_width registers.0) (fixups.0 + 1) registers.1 >>= λ labels. Ok (record { section = section; program = program.0; registers = registers.0; labels = labels.0 }, labels.1)) (c, new) is (λ fixups fixups_read rest1.
    step_ok (line_read length_line fixups.1) (λ halfwords. line_read (program_line halfwords.0) halfwords.1 >>= λ program. line_read registers_line program.1 >>= λ registers. labels_read version (row_width registers.0) (fixups.0 + 1) registers.1 >>= λ labels. Ok (record { section = section; program = program.0; registers = registers.0; labels = labels.0 }, labels.1)) (c, new) rest1 (λ halfwords length_read rest2.
    step_ok (line_read (program_line halfwords.0) halfwords.1) (λ program. line_read registers_line program.1 >>= λ registers. labels_read version (row_width registers.0) (fixups.0 + 1) registers.1 >>= λ labels. Ok (record { section = section; program = program.0; registers = registers.0; labels = labels.0 }, labels.1)) (c, new) rest2 (λ program program_read rest3.
    step_ok (line_read registers_line program.1) (λ registers. labels_read version (row_width registers.0) (fixups.0 + 1) registers.1 >>= λ labels. Ok (record { section = section; program = program.0; registers = registers.0; labels = labels.0 }, labels.1)) (c, new) rest3 (λ registers registers_read rest4.
    step_ok (labels_read version (row_width registers.0) (fixups.0 + 1) registers.1) (λ labels. Ok (record { section = section; program = program.0; registers = registers.0; labels = labels.0 }, labels.1)) (c, new) rest4 (λ labels rows_are made.
    line_read-ok fixups_line old fixups.1 fixups.0 fixups_read (λ fixups_l fixups_said fixups_parts.
    line_read-ok length_line fixups.1 halfwords.1 halfwords.0 length_read (λ length_l length_said length_parts.
    line_read-ok (program_line halfwords.0) halfwords.1 program.1 program.0 program_read (λ program_l program_said program_parts.
    line_read-ok registers_line program.1 registers.1 registers.0 registers_read (λ registers_l registers_said registers_parts.
    let same : record { section = section; program = program.0; registers = registers.0; labels = labels.0 } ≡ c = ap (λ (r : Result (Certified × Left) ℕ). (result_unwrap_or r (c, new)).0) made in
    let behind : (labels.1).text ≡ new.text = ap (λ (r : Result (Certified × Left) ℕ). (result_unwrap_or r (c, new)).1.text) made in
    let f = fixups_line-is fixups_l fixups.0 fixups_said in
    let few = f.1 in
    let h = length_line-is length_l halfwords.0 length_said in
    let p = program_line-is halfwords.0 program_l program.0 program_said in
    let g = registers_line-is registers_l registers.0 registers_said in
    let r = labels_read-are version (row_width registers.0) (fixups.0 + 1) registers.1 labels.1 labels.0 rows_are in
    let count = r.count in
    let fixups_are : fixups.0 ≡ length labels.0 - 1 = omega (arith, count) in
    subst (λ (c : Certified). CertificateText version section old c new) same (record {
      section_is = refl;
      printable = λ small. record {
        section = small;
        fits = p.fits;
        readable = p.readable;
        halfwords = subst IsNumber (sym p.halfwords_are) h.1;
        rising = g.rising;
        few = g.few;
        registers = g.numbers;
        some = omega (arith, count);
        most = omega (arith, count, few);
        rows = r.wide;
      };
      text = line_in old.text (codes "fixups") (fixups.1).text (decimal (length labels.0 - 1) ∷ []) fixups_l fixups_parts (f.0 ∙ ap (λ (n : ℕ). codes "fixups" ++ words_text (decimal n ∷ [])) fixups_are)
          ∙ ap (λ (rest : List ℕ). line_text (codes "fixups") (decimal (length labels.0 - 1) ∷ []) ++ rest)
          (line_in (fixups.1).text (codes "length") (halfwords.1).text (decimal (program_length program.0) ∷ []) length_l length_parts (h.0 ∙ ap (λ (n : ℕ). codes "length" ++ words_text (decimal n ∷ [])) (sym p.halfwords_are))
          ∙ ap (λ (rest : List ℕ). line_text (codes "length") (decimal (program_length program.0) ∷ []) ++ rest)
          (line_in (halfwords.1).text (codes "program") (program.1).text (program_words program.0) program_l program_parts p.text
          ∙ ap (λ (rest : List ℕ). line_text (codes "program") (program_words program.0) ++ rest)
          (line_in (program.1).text (codes "registers") (registers.1).text (number_words registers.0 ++ codes "*" ∷ []) registers_l registers_parts g.text
          ∙ ap (λ (rest : List ℕ). line_text (codes "registers") (number_words registers.0 ++ codes "*" ∷ []) ++ rest)
          (r.text ∙ ap (λ (rest : List ℕ). labels_text version labels.0 ++ rest) behind))));
    }))))))))))

-- certificates after others
record CertificatesText (version : Version) (before : List Certified) (old : Left) (all : List Certified) : Type 0 where
  more : List Certified
  are : all ≡ before ++ more
  printable : AllByRecursion Printable more
  text : old.text ≡ each_text version more ++ end_text

-- the text ends
ended-are : (version : Version) (before all : List Certified) (old left : Left) (line : List ℕ) → line ≡ codes "end" ++ words_text [] → old.text ≡ line ++ 0x0A ∷ left.text → text_ended before left ≡ Ok all → CertificatesText version before old all
ended-are version before all old left line is parts read = by (length left.text == 0) refl read
  where
    by : (none : Bool) → (length left.text == 0) ≡ none → cond none (Ok before) (Err left.number) ≡ Ok all → CertificatesText version before old all
    by true none read =
        let same : before ≡ all = cc in
        record {
          more = [];
          are = sym same ∙ sym (append-nil before);
          printable = tt;
          text = line_in old.text (codes "end") left.text [] line parts is ∙ ap (λ (t : List ℕ). line_text (codes "end") [] ++ t) (nil_from_length left.text (eqb-true (length left.text) 0 none));
        }
    by false none read = absurd (cc)

-- or another certificate follows, and others after it
one_more : (version : Version) (section : ℕ) (before all : List Certified) (old left next : Left) (line : List ℕ) (c : Certified) → (line ≡ codes "section" ++ words_text (decimal section ∷ [])) × IsNumber section → old.text ≡ line ++ 0x0A ∷ left.text
    → CertificateText version section left c next → CertificatesText version (before ++ c ∷ []) next all → CertificatesText version before old all
one_more version section before all old left next line c is parts one others = record {
  more = c ∷ others.more;
  are = others.are ∙ append_assoc before (c ∷ []) others.more;
  printable = (one.printable is.1, others.printable);
  text = line_in old.text (codes "section") left.text (decimal section ∷ []) line parts is.0
      ∙ ap (λ (n : ℕ). line_text (codes "section") (decimal n ∷ []) ++ left.text) (sym one.section_is)
      ∙ ap (λ (t : List ℕ). line_text (codes "section") (decimal c.section ∷ []) ++ t) (one.text ∙ ap (body_text version c) others.text)
      ∙ sym (certificate_text-parts version c (each_text version others.more ++ end_text))
      ∙ sym (append_assoc (certificate_text version c) (each_text version others.more) end_text);
}

headed-are : (version : Version) (n : ℕ) (head : Head) (before all : List Certified) (old left : Left) (line : List ℕ) → HeadText head line → old.text ≡ line ++ 0x0A ∷ left.text → after_head version head before left (certificates_read version n) ≡ Ok all
    → ((others : List Certified) (next : Left) → certificates_read version n others next ≡ Ok all → CertificatesText version others next all) → CertificatesText version before old all
headed-are version n End before all old left line is parts read others = ended-are version before all old left line is parts read
headed-are version n (Section section) before all old left line is parts read others =
    step_ok (certificate_read version section left) (λ certificate. certificates_read version n (before ++ certificate.0 ∷ []) certificate.1) all read
    (λ c one rest. one_more version section before all old left c.1 line c.0 is parts (certificate_read-is version section left c.1 c.0 one) (others (before ++ c.0 ∷ []) c.1 rest))

certificates_read-are : (version : Version) (n : ℕ) (before all : List Certified) (old : Left) → certificates_read version n before old ≡ Ok all → CertificatesText version before old all
certificates_read-are version zero before all old is = absurd (cc)
certificates_read-are version (suc n) before all old is =
    step_ok (line_read head_line old) (λ head. after_head version head.0 before head.1 (certificates_read version n)) all is (λ head first rest.
    line_read-ok head_line old head.1 head.0 first (λ line said parts.
    headed-are version n head.0 before all old head.1 line (head_line-is line head.0 said) parts rest (λ others next read. certificates_read-are version n others all next read)))

-- a text that is read is the text of its certificates in its version, which can be printed
record ReadText (text : List ℕ) (certificates : List Certified) : Type 0 where
  version : Version
  printable : AllByRecursion Printable certificates
  is : text ≡ versioned_text version certificates

texts_read : (text : List ℕ) (certificates : List Certified) → certificates_of text ≡ Ok certificates → ReadText text certificates
unfolding certificates_of versioned_text
texts_read text certificates is =
    step_ok (line_read version_line (record { number = 1; text = text })) (λ version. certificates_read version.0 (length text) [] version.1) certificates is (λ version first rest.
    line_read-ok version_line (record { number = 1; text = text }) version.1 version.0 first (λ line said parts.
    let others = certificates_read-are version.0 (length text) [] certificates version.1 rest in
    let v = version_line-is line version.0 said in
    let words = version_word version.0 ∷ [] in
    record {
      version = version.0;
      printable = subst (AllByRecursion Printable) (sym others.are) others.printable;
      is = line_in text (codes "pefcert") (version.1).text words line parts v
          ∙ ap (λ (t : List ℕ). line_text (codes "pefcert") words ++ t) (others.text ∙ ap (λ (cs : List Certified). each_text version.0 cs ++ end_text) (sym others.are))
          ∙ sym (append_assoc (line_text (codes "pefcert") words) (each_text version.0 certificates) end_text);
    }))

pub read_can_be_printed : (text : List ℕ) (certificates : List Certified) → certificates_of text ≡ Ok certificates → AllByRecursion Printable certificates
read_can_be_printed text certificates is = (texts_read text certificates is).printable

pub read_text_is : (text : List ℕ) (certificates : List Certified) → certificates_of text ≡ Ok certificates → (text ≡ certificates_text certificates) ⊎ (text ≡ versioned_text One certificates)
unfolding certificates_text
read_text_is text certificates is = (let r = texts_read text certificates is in by r.version r.is)
  where
    by : (version : Version) → text ≡ versioned_text version certificates → (text ≡ versioned_text Two certificates) ⊎ (text ≡ versioned_text One certificates)
    by One is = inr is
    by Two is = inl is
