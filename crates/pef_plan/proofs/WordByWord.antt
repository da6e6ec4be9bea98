-- A program that moves to the word of each fixup and adds its base. It is flat, makes the fixups, and has at
-- most four halfwords for each. No least program is longer.
use Rattle.std.proofs.Common.{◌≡◌, ℕ, ◌+◌, ◌*◌, ◌<◌, ◌≤◌, true, List, [], ◌∷◌, length, refl, ap, arith}
use Rattle.std.specs.List.{AllByRecursion}
use Rattle.std.proofs.lemmas.Bool.{ltb-true, lt-ltb}
use Rattle.pef_reloc.specs.declared.fixup.Base.{Base}
use Rattle.pef_reloc.specs.declared.fixup.Base.TheVariants.{Section, Import}
use Rattle.pef_reloc.specs.declared.fixup.Fixup.{Fixup}
use Rattle.pef_reloc.specs.declared.instr.Instr.{Instr}
use Rattle.pef_reloc.specs.declared.instr.Instr.TheVariants.{LgByImport, LgBySection, SetPosition}
use Rattle.pef_reloc.specs.Deliveries.{is_flat_instr}
use Rattle.pef_reloc.specs.Fixups.{base_fits, fixup_fits, fixups_fit}
use Rattle.pef_reloc.specs.Instrs.{program_length}
use Rattle.pef_reloc.specs.Limits.{most_imports, most_sections}
use Rattle.pef_reloc.specs.Steps.{Makes, State, added, is_flat, next_state, start, trace}
use Rattle.pef_reloc.proofs.Laws.{each_fits, fixup_fits-parts, flat_more}

-- the addition of a base
abbrev addition : Base → Instr
addition (Section k) = LgBySection k
addition (Import j) = LgByImport j

abbrev pub word_by_word : List Fixup → List Instr
word_by_word [] = []
word_by_word (f ∷ fixups) = SetPosition f.offset ∷ addition f.base ∷ word_by_word fixups

-- it makes the fixups from each state
one_made : (o : ℕ) (b : Base) (instrs : List Instr) (fixups : List Fixup) (s : State) → ((t : State) → trace instrs t ≡ fixups) → trace (SetPosition o ∷ addition b ∷ instrs) s ≡ added o b ∷ fixups
one_made o (Section k) instrs fixups s others = ap (λ fs. added o (Section k) ∷ fs) (others (next_state (LgBySection k) (record s { position = o })))
one_made o (Import j) instrs fixups s others = ap (λ fs. added o (Import j) ∷ fs) (others (next_state (LgByImport j) (record s { position = o })))

made_from : (fixups : List Fixup) (s : State) → trace (word_by_word fixups) s ≡ fixups
made_from [] s = refl
made_from (f ∷ fixups) s = one_made f.offset f.base (word_by_word fixups) fixups s (made_from fixups)

pub word_by_word-makes : (fixups : List Fixup) → Makes fixups (word_by_word fixups)
word_by_word-makes fixups = made_from fixups start

-- it is flat, if the fixups fit
move_flat : (o : ℕ) → o < 0x4000000 → is_flat_instr (SetPosition o) ≡ true
move_flat o under = lt-ltb o 0x4000000 under

addition_flat : (b : Base) → base_fits b ≡ true → is_flat_instr (addition b) ≡ true
addition_flat (Section k) fits = (let under = ltb-true k most_sections fits in lt-ltb k 0x400000 (omega (arith, under)))
addition_flat (Import j) fits = (let under = ltb-true j most_imports fits in lt-ltb j 0x4000000 (omega (arith, under)))

all_flat : (fixups : List Fixup) → AllByRecursion (λ f. fixup_fits f ≡ true) fixups → is_flat (word_by_word fixups) ≡ true
all_flat [] fit = refl
all_flat (f ∷ fixups) fit =
    let here = fixup_fits-parts f fit.0 in
    let inside = here.inside in
    flat_more (SetPosition f.offset) (addition f.base ∷ word_by_word fixups) (move_flat f.offset (omega (arith, inside)))
    (flat_more (addition f.base) (word_by_word fixups) (addition_flat f.base here.base) (all_flat fixups fit.1))

pub word_by_word-flat : (fixups : List Fixup) → fixups_fit fixups ≡ true → is_flat (word_by_word fixups) ≡ true
word_by_word-flat fixups fit = all_flat fixups (each_fits fixups fit)

-- it is short
addition_short : (b : Base) (instrs : List Instr) → program_length (addition b ∷ instrs) ≤ 2 + program_length instrs
addition_short (Section k) instrs = omega arith
addition_short (Import j) instrs = omega arith

pub word_by_word-short : (fixups : List Fixup) → program_length (word_by_word fixups) ≤ 4 * length fixups
word_by_word-short [] = omega arith
word_by_word-short (f ∷ fixups) =
    let here = addition_short f.base (word_by_word fixups) in
    let others = word_by_word-short fixups in
    omega (arith, here, others)
