-- A valid certificate can be printed: its program is readable, and its numbers are small.
use Rattle.std.proofs.Common.{◌≡◌, ℕ, zero, suc, ◌+◌, ◌-◌, ◌*◌, ◌/◌, ◌%◌, ◌<◌, ◌≤◌, inl, inr, true, ◌||◌, ◌==◌, List, [], ◌∷◌, length, slice_index, refl, ap, sym, ◌∙◌, arith, eq-eqb}
use Rattle.std.specs.Prelude.{slice_index_or}
use Rattle.std.specs.List.{AllByRecursion}
use Rattle.std.proofs.lemmas.Bool.Decides.{eqb_tells}
use Rattle.std.proofs.Math.Nat.{div-add-mod, div-lt_iff_lt-mul, mod-lt}
use Rattle.pef_reloc.specs.declared.fixup.Fixup.{Fixup}
use Rattle.pef_reloc.specs.Deliveries.{index_past}
use Rattle.pef_reloc.specs.Fixups.{fixup_fits, fixups_fit}
use Rattle.pef_reloc.specs.Instrs.{instrs_fit, program_length, repeat_free}
use Rattle.pef_reloc.proofs.Laws.{count-length, each_fits, fixups_fit-parts, program_fault-spelled, used_section-below}
use Rattle.pef_cert.specs.Labels.{Labels, class_of, classes}
use Rattle.pef_cert.specs.Certified.{Certified}
use Rattle.pef_cert.specs.Valid.{Valid, is_among, labels_of}
use Rattle.pef_cert.proofs.Falling.{World, world-first, world-next}
use Rattle.pef_cert.proofs.ClassLemmas.{class_of-below}
use Rattle.pef_cert.proofs.Bounds.{extension-small}
use Rattle.pef_cert.proofs.ClaimLemmas.{few_rising}
use Rattle.pef_cert.proofs.LabelFacts.{label-extension}
use Rattle.pef_cert.proofs.Soundness.{whole_world}
use Rattle.std.proofs.lemmas.Bool.{and_parts}
use Rattle.pef_cert.specs.Text.Grammar.{row_width}
use Rattle.pef_cert.specs.Text.Printed.{IsNumber, IsRow, Printable}
use Rattle.pef_reloc.specs.Limits.{most_sections}

-- a fact of each place of a list is one of its members
each_number : (ns : List ℕ) → ((i : ℕ) → i < length ns → IsNumber (slice_index ns i)) → AllByRecursion IsNumber ns
each_number [] small = tt
each_number (n ∷ ns) small = (small 0 (omega arith), each_number ns (λ i under. small (suc i) (omega (arith, under))))

each_row : (width : ℕ) (rows : List (List ℕ)) → ((i : ℕ) → i < length rows → IsRow width (slice_index_or rows i [])) → AllByRecursion (IsRow width) rows
each_row width [] right = tt
each_row width (row ∷ rows) right = (right 0 (omega arith), each_row width rows (λ i under. right (suc i) (omega (arith, under))))

row_wide : (width : ℕ) (rows : List (List ℕ)) (i : ℕ) → AllByRecursion (λ row. length row ≡ width) rows → i < length rows → length (slice_index_or rows i []) ≡ width
row_wide width [] i all under = absurd (omega (arith, under))
row_wide width (row ∷ rows) zero all under = all.0
row_wide width (row ∷ rows) (suc i) all under = row_wide width rows i all.1 (omega (arith, under))

-- the registers are numbers of sections
among_small : (rs : List ℕ) (most : ℕ) → most ≤ most_sections → ((k : ℕ) → is_among rs k ≡ true → k < most) → AllByRecursion IsNumber rs
among_small [] most few below = tt
among_small (r ∷ rs) most few below =
    let here = below r (rw (eq-eqb r r refl) refl) in
    (omega (arith, here, few), among_small rs most few (λ k among. below k (later r rs k among)))
  where
    later : (r : ℕ) (rs : List ℕ) (k : ℕ) → is_among rs k ≡ true → (r == k || is_among rs k) ≡ true
    later r rs k among = elim (eqb_tells r k) [
      | inl same ↦ rw same.0 refl
      | inr other ↦ rw other.0 among
    ]

-- the label of each state at a fixup is at most four for each fixup that is left, and two
label_small : (l : Labels) (index : ℕ) (fixups : List Fixup) (left c d : ℕ) → World l index fixups → AllByRecursion (λ f. fixup_fits f ≡ true) fixups → ((c d : ℕ) → c < classes l → d < classes l → l.label 0 c d ≡ 0) → c < classes l → d < classes l → left ≤ length fixups → l.label left c d ≤ 4 * length fixups + 2
label_small l index [] left c d w fit last under_c under_d most =
    let none : left ≡ 0 = omega (arith, most) in
    let is = ap (λ n. l.label n c d) none ∙ last c d under_c under_d in
    omega (arith, is)
label_small l index (f ∷ rest) left c d w fit last under_c under_d most =
    elim (eqb_tells left (length (f ∷ rest))) [
      | inl whole ↦
          (let is = ap (λ n. l.label n c d) whole.1 in
          let low = label-extension l index f rest 0 c d (world-first l index f rest w) under_c under_d in
          let small = extension-small l index (f ∷ rest) 0 c d w fit under_c under_d in
          omega (arith, is, low, small))
      | inr other ↦
          (let apart = other.1 in
          let small = label_small l (index_past f.base index) rest left c d (world-next l index f rest w) fit.1 last under_c under_d (omega (arith, most, apart)) in
          omega (arith, small))
    ]

-- the outer class of a place in a square
outer_class : (j count : ℕ) → 0 < count → j < count * count → j / count < count
outer_class j count some inside = (div-lt_iff_lt-mul {k = count} {x = j} {y = count} some).1 inside

-- the label at a place of a row
row_label : (fixups : List Fixup) (c : Certified) (i j : ℕ) → fixups_fit fixups ≡ true → Valid fixups c → i ≤ length fixups → j < row_width c.registers → slice_index (slice_index_or c.labels i []) j ≤ 4 * length fixups + 2
row_label fixups c i j fit valid at inside =
    let l : Labels = labels_of c (length fixups) in
    let count : ℕ = length c.registers + 1 in
    let some : 0 < count = omega arith in
    let outside : j / count < count = outer_class j count some inside in
    let within : j % count < count = mod-lt j some in
    let place : j / count * count + j % count ≡ j = omega (arith, div-add-mod j count) in
    let left : length fixups - (length fixups - i) ≡ i = omega (arith, at) in
    let w = whole_world l fixups fit valid.registers valid.feasible in
    let small = label_small l 0 fixups (length fixups - i) (j / count) (j % count) w (each_fits fixups fit) valid.feasible.last outside within (omega arith) in
    let is = ap (λ n. slice_index (slice_index_or c.labels n []) (j / count * count + j % count)) left ∙ ap (λ n. slice_index (slice_index_or c.labels i []) n) place in
    omega (arith, small, is)

rows_right : (fixups : List Fixup) (c : Certified) → fixups_fit fixups ≡ true → Valid fixups c → AllByRecursion (IsRow (row_width c.registers)) c.labels
rows_right fixups c fit valid =
    let few = (fixups_fit-parts fixups fit).count in
    let count = valid.rows in
    each_row (row_width c.registers) c.labels (λ i under.
    let wide = row_wide (row_width c.registers) c.labels i valid.row under in
    record {
      wide = wide;
      numbers = each_number (slice_index_or c.labels i []) (λ j inside.
          let small = row_label fixups c i j fit valid (omega (arith, under, count)) (omega (arith, inside, wide)) in
          omega (arith, small, few));
    })

-- a valid program has at most four halfwords for each fixup, and two
program_short : (fixups : List Fixup) (c : Certified) → fixups_fit fixups ≡ true → Valid fixups c → program_length c.program ≤ 4 * length fixups + 2
program_short fixups c fit valid =
    let l : Labels = labels_of c (length fixups) in
    let w = whole_world l fixups fit valid.registers valid.feasible in
    let small = extension-small l 0 fixups 0 (class_of c.registers 0) (class_of c.registers 1) w (each_fits fixups fit) (class_of-below l 0) (class_of-below l 1) in
    let is = valid.length_is in
    omega (arith, small, is)

pub valid_prints : (fixups : List Fixup) (c : Certified) → fixups_fit fixups ≡ true → Valid fixups c → IsNumber c.section → Printable c
valid_prints fixups c fit valid section =
    let few = (fixups_fit-parts fixups fit).count in
    let short = program_short fixups c fit valid in
    let instrs = count-length c.program in
    let below : (k : ℕ) → is_among c.registers k ≡ true → k < most_sections = λ k among. used_section-below fixups k fit (sym (valid.registers.used k) ∙ among) in
    let registers = few_rising most_sections c.registers valid.registers.rising below in
    let count = valid.rows in
    record {
      section = section;
      fits = (and_parts (repeat_free c.program) (instrs_fit c.program) valid.flat).1;
      readable = program_fault-spelled c.program valid.flat (omega (arith, instrs, short, few));
      halfwords = omega (arith, short, few);
      rising = valid.registers.rising;
      few = omega (arith, registers);
      registers = among_small c.registers most_sections (omega arith) below;
      some = omega (arith, count);
      most = omega (arith, count, few);
      rows = rows_right fixups c fit valid;
    }
