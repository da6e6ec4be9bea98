-- Texts are printed part by part.
use Rattle.std.proofs.Common.{◌≡◌, ℕ, ◌+◌, ◌-◌, ◌<◌, ◌≤◌, true, List, [], ◌∷◌, ◌++◌, length, take, drop, set, get_or, decimal, refl, sym, ap, ◌∙◌, append_assoc, arith}
use Rattle.std.specs.Prelude.{codes}
use Rattle.std.proofs.lemmas.List.{drop_all, drop_more, drop-set, take-append-drop}
use Rattle.std.proofs.Math.Path.{ap₂}
use Rattle.std.proofs.Math.Seq.{drop-append-add, take-append-add}
use Rattle.pef_reloc.specs.declared.instr.Instr.{Instr}
use Rattle.pef_reloc.specs.Instrs.{halfword_bytes, halfwords_of, instr_fits, instrs_fit, program_length, spelled}
use Rattle.pef_reloc.proofs.Laws.{spelled-nothing, spelled-one}
use Rattle.std.proofs.lemmas.Bool.{and_parts}
use Rattle.pef_cert.specs.Certified.{Certified}
use Rattle.pef_cert.specs.declared.text.fields.Version.TheVariants.{Two}
use Rattle.pef_cert.specs.Text.Kept.Heads.{head_text}
use Rattle.pef_cert.specs.Text.Lines.{Range}
use Rattle.pef_cert.specs.Text.Printed.{certificate_text, each_text, halfword_words, labels_text, line_text, number_words, program_words, range_text, words_text}

-- words after words
pub words_text-append : (some others : List (List ℕ)) → words_text (some ++ others) ≡ words_text some ++ words_text others
words_text-append [] others = refl
words_text-append (word ∷ some) others = ap (λ (t : List ℕ). 0x20 ∷ word ++ t) (words_text-append some others) ∙ ap (λ (t : List ℕ). 0x20 ∷ t) (sym (append_assoc word (words_text some) (words_text others)))

-- a number in front of others, with a space in front of it
pub words-front : (numbers old new : List ℕ) (left at i : ℕ) → left < length numbers → i < length new
    → drop (i + 1) new ≡ decimal (get_or numbers left 0) ++ drop at old
    → drop at old ≡ words_text (number_words (drop (left + 1) numbers))
    → drop i (set new i 0x20) ≡ words_text (number_words (drop left numbers))
words-front numbers old new left at i under inside digits behind =
    drop-set new i 0x20 inside
    ∙ ap (λ (t : List ℕ). 0x20 ∷ t) (digits ∙ ap (λ (t : List ℕ). decimal (get_or numbers left 0) ++ t) behind)
    ∙ sym (ap (λ (l : List ℕ). words_text (number_words l)) (drop_more numbers left 0 under))

-- the words of numbers
abbrev pub numbers_text : List ℕ → List ℕ
numbers_text numbers = words_text (number_words numbers)

numbers_text-append : (some others : List ℕ) → numbers_text (some ++ others) ≡ numbers_text some ++ numbers_text others
numbers_text-append [] others = refl
numbers_text-append (number ∷ some) others =
    ap (λ (t : List ℕ). 0x20 ∷ decimal number ++ t) (numbers_text-append some others)
    ∙ ap (λ (t : List ℕ). 0x20 ∷ t) (sym (append_assoc (decimal number) (numbers_text some) (numbers_text others)))

-- the numbers that were read, and then the others
pub numbers_text-read : (old part new : List ℕ) (left more : ℕ) → old ≡ part ++ new → left ≡ length part + more → numbers_text (take left old) ≡ numbers_text part ++ numbers_text (take more new)
numbers_text-read old part new left more is counts =
    ap₂ (λ (n : ℕ) (l : List ℕ). numbers_text (take n l)) counts is
    ∙ ap numbers_text (take-append-add part new more)
    ∙ numbers_text-append part (take more new)

pub numbers-left : (old part new : List ℕ) (left more : ℕ) → old ≡ part ++ new → left ≡ length part + more → drop left old ≡ drop more new
numbers-left old part new left more is counts = ap₂ (λ (n : ℕ) (l : List ℕ). drop n l) counts is ∙ drop-append-add part new more

-- the first numbers, and then the others
pub numbers_text-split : (k : ℕ) (numbers part others : List ℕ) → part ≡ take k numbers → others ≡ drop k numbers → numbers_text numbers ≡ numbers_text part ++ numbers_text others
numbers_text-split k numbers part others front back =
    ap numbers_text (sym (take-append-drop k numbers) ∙ ap₂ (λ (a b : List ℕ). a ++ b) (sym front) (sym back)) ∙ numbers_text-append part others

-- no number is left
pub numbers_text-none : (numbers : List ℕ) → length numbers ≡ 0 → numbers_text numbers ≡ []
numbers_text-none [] none = refl
numbers_text-none (number ∷ numbers) none = absurd (omega (arith, none))

-- halfwords in front of bytes
pub halfword_words-append : (halfwords bytes : List ℕ) → halfword_words (halfword_bytes halfwords ++ bytes) ≡ halfword_words (halfword_bytes halfwords) ++ halfword_words bytes
halfword_words-append [] bytes = refl
halfword_words-append (w ∷ halfwords) bytes = rw (halfword_words-append halfwords bytes) refl

-- the words of instructions
abbrev pub instrs_text : List Instr → List ℕ
instrs_text instrs = words_text (halfword_words (spelled instrs))

instrs_text-one : (instr : Instr) (instrs : List Instr) → instrs_text (instr ∷ instrs) ≡ words_text (halfword_words (halfword_bytes (halfwords_of instr))) ++ instrs_text instrs
instrs_text-one instr instrs =
    ap (λ (b : List ℕ). words_text (halfword_words b)) (spelled-one instr instrs)
    ∙ ap words_text (halfword_words-append (halfwords_of instr) (spelled instrs))
    ∙ words_text-append (halfword_words (halfword_bytes (halfwords_of instr))) (halfword_words (spelled instrs))

-- the first of the instructions that are left, and then the others
pub instrs_text-more : (xs : List Instr) (i : ℕ) (d : Instr) (words : List ℕ) → i < length xs → words ≡ halfwords_of (get_or xs i d)
    → instrs_text (drop i xs) ≡ words_text (halfword_words (halfword_bytes words)) ++ instrs_text (drop (i + 1) xs)
instrs_text-more xs i d words under is =
    ap instrs_text (drop_more xs i d under)
    ∙ instrs_text-one (get_or xs i d) (drop (i + 1) xs)
    ∙ ap (λ (w : List ℕ). words_text (halfword_words (halfword_bytes w)) ++ instrs_text (drop (i + 1) xs)) (sym is)

-- if instructions fit, the first one does and the others do
pub instrs_fit-parts : (xs : List Instr) (i : ℕ) (d : Instr) → i < length xs → instrs_fit (drop i xs) ≡ true → (instr_fits (get_or xs i d) ≡ true) × (instrs_fit (drop (i + 1) xs) ≡ true)
instrs_fit-parts xs i d under fit = and_parts (instr_fits (get_or xs i d)) (instrs_fit (drop (i + 1) xs)) (ap instrs_fit (sym (drop_more xs i d under)) ∙ fit)

-- no instruction is left
pub instrs_text-none : (xs : List Instr) (i : ℕ) → length xs ≤ i → instrs_text (drop i xs) ≡ []
instrs_text-none xs i past = ap (λ (b : List ℕ). words_text (halfword_words b)) (ap spelled (drop_all i xs past) ∙ spelled-nothing)

-- the line of the registers
pub registers_line-parts : (registers : List ℕ) → line_text (codes "registers") (number_words registers ++ codes "*" ∷ []) ≡ codes "registers" ++ (numbers_text registers ++ codes " *\n")
registers_line-parts registers =
    ap (λ (t : List ℕ). codes "registers" ++ (t ++ 0x0A ∷ [])) (words_text-append (number_words registers) (codes "*" ∷ []))
    ∙ ap (λ (t : List ℕ). codes "registers" ++ t) (append_assoc (numbers_text registers) (codes " *") (0x0A ∷ []))

-- the line of a program that has instructions
pub program_line-parts : (instrs : List Instr) → 0 < length instrs → line_text (codes "program") (program_words instrs) ≡ codes "program" ++ (instrs_text instrs ++ codes "\n")
program_line-parts [] some = absurd (omega (arith, some))
program_line-parts (instr ∷ instrs) some = refl

-- the line of a range
pub range_line-parts : (range : Range) → range_text range ≡ (((codes "at " ++ decimal range.first) ++ codes " ") ++ decimal range.last) ++ (numbers_text range.labels ++ codes "\n")
range_line-parts range =
    let first = decimal range.first in
    let last = decimal range.last in
    let labels = numbers_text range.labels in
    let end : List ℕ = codes "\n" in
    ap (λ (t : List ℕ). codes "at " ++ t) (append_assoc first (0x20 ∷ last ++ labels) end ∙ ap (λ (t : List ℕ). first ++ 0x20 ∷ t) (append_assoc last labels end))
    ∙ sym (append_assoc (codes "at " ++ first) (codes " ") (last ++ (labels ++ end)))
    ∙ sym (append_assoc ((codes "at " ++ first) ++ codes " ") last (labels ++ end))

-- the lines before the labels, one after the other, and the labels
six_parts : (a b c d e f : List ℕ) → a ++ b ++ c ++ d ++ e ++ f ≡ (a ++ (b ++ (c ++ (d ++ e)))) ++ f
six_parts a b c d e f = simp append_assoc

-- the lines of a certificate: those before the labels, and the labels
pub certificate_text-head : (c view : Certified) (section rows : ℕ) (program : List Instr) (registers : List ℕ)
    → view ≡ c → section ≡ view.section → rows ≡ length view.labels → program ≡ view.program → registers ≡ view.registers
    → certificate_text Two c ≡ head_text section rows program registers ++ labels_text Two view.labels
unfolding certificate_text
certificate_text-head c view section rows program registers is own many spells uses =
    six_parts (line_text (codes "section") (decimal c.section ∷ [])) (line_text (codes "fixups") (decimal (length c.labels - 1) ∷ [])) (line_text (codes "length") (decimal (program_length c.program) ∷ []))
    (line_text (codes "program") (program_words c.program)) (line_text (codes "registers") (number_words c.registers ++ codes "*" ∷ [])) (labels_text Two c.labels)
    ∙ sym (rw (own, many, spells, uses, is) refl)

-- the first of the certificates that are left, and then the others
pub each_text-more : (cs : List Certified) (i : ℕ) (c : Certified) → i < length cs → c ≡ get_or cs i c → each_text Two (drop i cs) ≡ certificate_text Two c ++ each_text Two (drop (i + 1) cs)
each_text-more cs i c under is =
    ap (λ (left : List Certified). each_text Two left) (drop_more cs i c under)
    ∙ ap (λ (one : Certified). certificate_text Two one ++ each_text Two (drop (i + 1) cs)) (sym is)

-- no certificate is left
pub each_text-none : (cs : List Certified) (i : ℕ) → length cs ≤ i → each_text Two (drop i cs) ≡ []
each_text-none cs i past = ap (λ (left : List Certified). each_text Two left) (drop_all i cs past)
