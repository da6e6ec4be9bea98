-- Printed certificates are read again.
use Rattle.std.proofs.Common.{◌≡◌, ℕ, zero, suc, ◌+◌, ◌-◌, ◌<◌, ◌≤◌, true, List, [], ◌∷◌, ◌++◌, Some, Ok, length, refl, sym, ap, ◌∙◌, append_assoc, arith}
use Rattle.std.specs.Prelude.{codes, decimal}
use Rattle.std.specs.List.{AllByRecursion}
use Rattle.std.proofs.lemmas.Bool.{and_from, le-leb}
use Rattle.std.proofs.lemmas.List.{append-nil, length-append}
use Rattle.pef_cert.specs.Certified.{Certified}
use Rattle.pef_reloc.specs.Instrs.{program_length}
use Rattle.pef_words.specs.Results.{◌>>=◌}
use Rattle.pef_cert.specs.declared.text.fields.Head.TheVariants.{Section, End}
use Rattle.pef_cert.specs.declared.text.fields.Version.{Version}
use Rattle.pef_cert.specs.declared.text.fields.Version.TheVariants.{One, Two}
use Rattle.pef_cert.specs.Text.Grammar.{certificate_read, certificates_of, certificates_read, line_read, row_width}
use Rattle.pef_cert.specs.Text.Lines.{fixups_line, head_line, length_line, most_text_fixups, program_line, registers_line, version_line}
use Rattle.pef_cert.specs.Text.Printed.{IsNumber, Printable, certificate_text, certificates_text, each_text, labels_text, line_text, number_words, program_words, version_word, versioned_text, words_text}
use Rattle.pef_cert.proofs.TextProofs.RoundLemmas.{CheckedSuffix, labels_read-text, number_line-text, program-above, program_line-text, registers-above, registers_line-text}
use Rattle.pef_cert.proofs.TextProofs.TextLemmas.{above, all_above, decimal-above, line_read-line}

assoc : (a b c d e f rest : List ℕ) → (((((a ++ b) ++ c) ++ d) ++ e) ++ f) ++ rest ≡ a ++ (b ++ (c ++ (d ++ (e ++ (f ++ rest)))))
assoc a b c d e f rest = simp append_assoc

one-above : (n : ℕ) → IsNumber n → above 0x20 (decimal n) ≡ true
one-above n small = decimal-above n (omega (arith, small))

fixups_line-text : (n : ℕ) → n ≤ most_text_fixups → fixups_line (codes "fixups" ++ words_text (decimal n ∷ [])) ≡ Some n
unfolding fixups_line
fixups_line-text n most = rw (number_line-text (codes "fixups") n refl refl (omega arith), le-leb n most_text_fixups most) refl

length_line-text : (n : ℕ) → IsNumber n → length_line (codes "length" ++ words_text (decimal n ∷ [])) ≡ Some n
unfolding length_line
length_line-text n small = number_line-text (codes "length") n refl refl small

head_line-text : (n : ℕ) → IsNumber n → head_line (codes "section" ++ words_text (decimal n ∷ [])) ≡ Some (Section n)
unfolding head_line
head_line-text n small = rw (number_line-text (codes "section") n refl refl small) refl

head_line-end : head_line (codes "end" ++ words_text []) ≡ Some End
unfolding head_line
head_line-end = refl

version_line-text : (version : Version) → version_line (codes "pefcert" ++ words_text (version_word version ∷ [])) ≡ Some version
unfolding version_line
version_line-text One = refl
version_line-text Two = refl

version-above : (version : Version) → all_above 0x20 (version_word version ∷ []) ≡ true
version-above One = refl
version-above Two = refl

-- the lines after the first of a certificate
abbrev pub body_text : Version → Certified → List ℕ → List ℕ
body_text version c rest = line_text (codes "fixups") (decimal (length c.labels - 1) ∷ [])
    ++ (line_text (codes "length") (decimal (program_length c.program) ∷ [])
    ++ (line_text (codes "program") (program_words c.program)
    ++ (line_text (codes "registers") (number_words c.registers ++ codes "*" ∷ [])
    ++ (labels_text version c.labels ++ rest))))

pub certificate_text-parts : (version : Version) (c : Certified) (rest : List ℕ) → certificate_text version c ++ rest ≡ line_text (codes "section") (decimal c.section ∷ []) ++ body_text version c rest
unfolding certificate_text
certificate_text-parts version c rest = assoc (line_text (codes "section") (decimal c.section ∷ [])) (line_text (codes "fixups") (decimal (length c.labels - 1) ∷ []))
    (line_text (codes "length") (decimal (program_length c.program) ∷ [])) (line_text (codes "program") (program_words c.program))
    (line_text (codes "registers") (number_words c.registers ++ codes "*" ∷ [])) (labels_text version c.labels) rest

certificate_read-text : (version : Version) (c : Certified) (number : ℕ) (rest : List ℕ) → Printable c → CheckedSuffix (certificate_read version c.section (record { number = number; text = body_text version c rest })) c rest
unfolding certificate_read
certificate_read-text version c number rest p =
    let most = p.most in
    let some = p.some in
    let registers_rest = labels_text version c.labels ++ rest in
    let program_rest = line_text (codes "registers") (number_words c.registers ++ codes "*" ∷ []) ++ registers_rest in
    let length_rest = line_text (codes "program") (program_words c.program) ++ program_rest in
    let fixups_rest = line_text (codes "length") (decimal (program_length c.program) ∷ []) ++ length_rest in
    let count : length c.labels - 1 + 1 ≡ length c.labels = omega (arith, some) in
    let fixups = line_read-line fixups_line number (codes "fixups") (decimal (length c.labels - 1) ∷ []) fixups_rest (length c.labels - 1) refl
    (and_from (above 0x20 (decimal (length c.labels - 1))) true (one-above (length c.labels - 1) (omega (arith, most))) refl) (fixups_line-text (length c.labels - 1) (omega (arith, most))) in
    let halfwords = line_read-line length_line (number + 1) (codes "length") (decimal (program_length c.program) ∷ []) length_rest (program_length c.program) refl
    (and_from (above 0x20 (decimal (program_length c.program))) true (one-above (program_length c.program) p.halfwords) refl) (length_line-text (program_length c.program) p.halfwords) in
    let program = line_read-line (program_line (program_length c.program)) (number + 1 + 1) (codes "program") (program_words c.program) program_rest c.program refl (program-above c.program) (program_line-text c.program p.fits p.readable) in
    let registers = line_read-line registers_line (number + 1 + 1 + 1) (codes "registers") (number_words c.registers ++ codes "*" ∷ []) registers_rest c.registers refl (registers-above c.registers p.registers) (registers_line-text c.registers p.registers p.rising p.few) in
    let rows = labels_read-text version (row_width c.registers) c.labels (number + 1 + 1 + 1 + 1) rest (omega arith) p.rows (omega (arith, most)) in
    record { number = rows.number; is = rw (fixups, halfwords, program, registers, count, rows.is) refl }

-- the last line
abbrev pub end_text : List ℕ
end_text = line_text (codes "end") []

certificates_read-text : (version : Version) (n : ℕ) (before certificates : List Certified) (number : ℕ) → AllByRecursion Printable certificates → length certificates < n
    → certificates_read version n before (record { number = number; text = each_text version certificates ++ end_text }) ≡ Ok (before ++ certificates)
certificates_read-text version zero before certificates number all under = absurd (omega arith)
certificates_read-text version (suc n) before [] number all under =
    let line = line_read-line head_line number (codes "end") [] [] End refl refl head_line-end in
    rw line (ap (λ (cs : List Certified). Ok cs) (sym (append-nil before)))
certificates_read-text version (suc n) before (c ∷ certificates) number all under =
    let p = all.0 in
    let rest = each_text version certificates ++ end_text in
    let parts : each_text version (c ∷ certificates) ++ end_text ≡ line_text (codes "section") (decimal c.section ∷ []) ++ body_text version c rest =
    append_assoc (certificate_text version c) (each_text version certificates) end_text ∙ certificate_text-parts version c rest in
    let head = line_read-line head_line number (codes "section") (decimal c.section ∷ []) (body_text version c rest) (Section c.section) refl
    (and_from (above 0x20 (decimal c.section)) true (one-above c.section p.section) refl) (head_line-text c.section p.section) in
    let certificate = certificate_read-text version c (number + 1) rest p in
    let others = certificates_read-text version n (before ++ c ∷ []) certificates certificate.number all.1 (omega arith) in
    rw (parts, head, certificate.is) (others ∙ ap (λ (cs : List Certified). Ok cs) (append_assoc before (c ∷ []) certificates))

some_text : (version : Version) (c : Certified) → 1 ≤ length (certificate_text version c)
unfolding certificate_text
some_text version c = omega arith

each-long : (version : Version) (certificates : List Certified) → length certificates ≤ length (each_text version certificates)
each-long version [] = omega arith
each-long version (c ∷ certificates) =
    let sum = length-append (certificate_text version c) (each_text version certificates) in
    let one = some_text version c in
    let others = each-long version certificates in
    omega (arith, sum, one, others)

-- the text of certificates in a version is read as these
pub version_reads_back : (version : Version) (certificates : List Certified) → AllByRecursion Printable certificates → certificates_of (versioned_text version certificates) ≡ Ok certificates
unfolding certificates_of versioned_text
version_reads_back version certificates all =
    let first = line_text (codes "pefcert") (version_word version ∷ []) in
    let rest = each_text version certificates ++ end_text in
    let whole = (first ++ each_text version certificates) ++ end_text in
    let parts : whole ≡ first ++ rest = append_assoc first (each_text version certificates) end_text in
    let begun = line_read-line version_line 1 (codes "pefcert") (version_word version ∷ []) rest version refl (version-above version) (version_line-text version) in
    let outer = length-append (first ++ each_text version certificates) end_text in
    let inner = length-append first (each_text version certificates) in
    let long = each-long version certificates in
    let enough : length certificates < length whole = omega (arith, outer, inner, long) in
    ap (λ (t : List ℕ). line_read version_line (record { number = 1; text = t }) >>= λ v. certificates_read v.0 (length whole) [] v.1) parts
    ∙ ap (λ r. r >>= λ v. certificates_read v.0 (length whole) [] v.1) begun
    ∙ certificates_read-text version (length whole) [] certificates 2 all enough

-- the printed text of certificates is read as these
pub reads_back : (certificates : List Certified) → AllByRecursion Printable certificates → certificates_of (certificates_text certificates) ≡ Ok certificates
unfolding certificates_text
reads_back certificates all = version_reads_back Two certificates all
