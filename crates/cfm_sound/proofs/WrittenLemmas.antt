-- What `link` wrote is sound, and its programs are within the limits for one container.
use Rattle.std.proofs.Common.{◌≡◌, ◌∙◌, ℕ, zero, suc, ◌+◌, ◌*◌, ◌<◌, ◌≤◌, Bool, true, false, List, [], ◌∷◌, length, map, Option, None, Some, refl, sym, ap, subst, arith}
use Rattle.std.specs.Prelude.{option_map, slice_get, if◌then◌else◌}
use Rattle.std.specs.List.{AllByRecursion}
use Rattle.std.specs.Option.{is_none, option_and_then, option_map_or}
use Rattle.std.proofs.lemmas.Bool.{and_parts}
use Rattle.std.proofs.lemmas.List.{length-append, length-map}
use Rattle.pef_words.specs.Refusals.{◌>>=◌}
use Rattle.pef_words.proofs.Laws.Lists.{all-append, all-get}
use Rattle.pef_format.specs.Symbols.{Import}
use Rattle.pef_loader.specs.Loader.{reloc_of}
use Rattle.pef_loader.specs.Partial.{RelocationRow, relocation_row}
use Rattle.pef_loader.proofs.Laws.{reloc_row}
use Rattle.pef_reloc.specs.Applied.{Addresses}
use Rattle.pef_reloc.specs.Instrs.{instrs_fit, program_length, repeat_free, repeat_of, spelled}
use Rattle.pef_reloc.specs.Steps.{is_flat}
use Rattle.pef_reloc.specs.Unrolled.{instrs_of, program_fault, repeat_count, steps_of, unrolled_after}
use Rattle.pef_reloc.specs.declared.fixup.Fixup.{Fixup}
use Rattle.pef_reloc.specs.declared.instr.Instr.{Instr}
use Rattle.pef_reloc.specs.declared.instr.Repeat.{Repeat}
use Rattle.pef_reloc.specs.declared.verifying.Sizes.{Sizes}
use Rattle.pef_reloc.proofs.Laws.{count-length, fixups_fit-parts, instrs_of-spelled, length-spelled}
use Rattle.pef_script.specs.Script.{DescribedScript, DescribedSection}
use Rattle.pef_script.specs.WellFormed.{SectionHolds}
use Rattle.pef_write.specs.Linked.{AreProgramsFor, IsLinked, IsProgramFor, LinkedContainer, program_of, programs_from}
use Rattle.pef_write.specs.Loaders.{ProgramEntry}
use Rattle.pef_write.specs.ReadBack.{IsReadBack, program_read}
use Rattle.pef_write.proofs.Laws.{is_read_back}
use Rattle.pef_headline.proofs.Laws.{AreAddresses, IsContainerOf, headers_sound, images_sound}
use Rattle.pef_inspect.specs.Errors.{errors_within, program_cost, run_cost, run_of, sizes_at}
use Rattle.pef_inspect.specs.Limits.{most_program_bytes, most_steps, total}
use Rattle.pef_inspect.specs.Sound.{FitPrograms, IsSound, OnlyImages}
use Rattle.pef_inspect.specs.declared.limits.Limits.{Limits}
use Rattle.pef_inspect.proofs.Laws.{no_false_alarm}
use Rattle.cfm_sound.specs.Written.{LinkedAreSound}
use Rattle.cfm_sound.proofs.PreparedLemmas.{prepared-sound}

-- n parts that each cost little cost little together
total-few : (cost : ℕ → ℕ) (from n : ℕ) → ((k : ℕ) → from ≤ k → k < from + n → cost k ≤ 524288) → total cost from n ≤ 524288 * n
total-few cost from zero few = omega arith
total-few cost from (suc n) few =
    let here = few from (omega arith) (omega arith) in
    let later = total-few cost (from + 1) n (λ k low high. few k (omega (arith, low)) (omega (arith, high))) in
    omega (arith, here, later)

none_is : (r : Option Repeat) → is_none r ≡ true → r ≡ None
none_is None none = refl
none_is (Some r) none = absurd (cc none)

-- a list without repeats takes a step for each instruction
flat-steps : (before xs : List Instr) → repeat_free xs ≡ true → length (unrolled_after before xs) + repeat_count xs ≡ length xs
flat-steps before [] free = refl
flat-steps before (x ∷ xs) free =
    let p = and_parts (is_none (repeat_of x)) (repeat_free xs) free in
    let rest = flat-steps (x ∷ before) xs p.1 in
    rw (none_is (repeat_of x) p.0) (omega (arith, rest))

-- the steps of a program with the sizes of its section
abbrev steps : Sizes × List ℕ → ℕ
steps run = steps_of run.1

-- a program without repeats that has few halfwords
record IsShort (p : ProgramEntry) : Type 0 where
  pub instrs : List Instr
  pub flat : is_flat instrs ≡ true
  pub bytes : p.bytes ≡ spelled instrs
  pub short : program_length instrs ≤ 262144

all-short : (count m n k : ℕ) (sections : List DescribedSection) (programs : List (List Instr)) → AreProgramsFor count sections programs → AllByRecursion (SectionHolds m n) sections → AllByRecursion IsShort (programs_from k sections programs)
all-short count m n k [] [] are holds = tt
all-short count m n k [] (instrs ∷ programs) are holds = tt
all-short count m n k (s ∷ sections) [] are holds = tt
all-short count m n k (s ∷ sections) (instrs ∷ programs) are holds =
    all-append IsShort (program_of k s.fixups instrs) (programs_from (k + 1) sections programs) (here s.fixups are.0 (fixups_fit-parts s.fixups holds.0.fixups).count) (all-short count m n (k + 1) sections programs are.1 holds.1)
  where
    here : (fixups : List Fixup) → IsProgramFor count fixups instrs → length fixups ≤ 65536 → AllByRecursion IsShort (program_of k fixups instrs)
    here [] is few = tt
    here (fixup ∷ fixups) is few = (let short = is.short in (record { instrs = instrs; flat = is.flat; bytes = refl; short = omega (arith, short, few) }, tt))

-- there are no more programs than sections
length-programs : (k : ℕ) (sections : List DescribedSection) (programs : List (List Instr)) → length (programs_from k sections programs) ≤ length sections
length-programs k [] [] = omega arith
length-programs k [] (instrs ∷ programs) = omega arith
length-programs k (s ∷ sections) [] = omega arith
length-programs k (s ∷ sections) (instrs ∷ programs) =
    let both = length-append (program_of k s.fixups instrs) (programs_from (k + 1) sections programs) in
    let here = one s.fixups in
    let later = length-programs (k + 1) sections programs in
    omega (arith, both, here, later)
  where
    one : (fixups : List Fixup) → length (program_of k fixups instrs) ≤ 1
    one [] = omega arith
    one (fixup ∷ fixups) = omega arith

short-bytes : (p : ProgramEntry) → IsShort p → length p.bytes ≤ 524288
short-bytes p short =
    let len = ap length short.bytes ∙ length-spelled short.instrs in
    let few = short.short in
    omega (arith, len, few)

short-steps : (p : ProgramEntry) → IsShort p → steps_of p.bytes ≤ 524288
unfolding steps_of
short-steps p short =
    let flat = and_parts (repeat_free short.instrs) (instrs_fit short.instrs) short.flat in
    let reads : instrs_of p.bytes ≡ short.instrs = ap instrs_of short.bytes ∙ instrs_of-spelled short.instrs flat.1 in
    let steps : steps_of p.bytes ≡ length short.instrs = rw reads (flat-steps [] short.instrs flat.0) in
    let count = count-length short.instrs in
    let few = short.short in
    omega (arith, steps, count, few)

module _ (script : DescribedScript) (k : LinkedContainer) (linked : IsLinked script k) where
  abbrev back : IsReadBack script k linked
  back = is_read_back script k linked

  of : IsContainerOf script k linked back.container back.loader
  of = record { sections = back.sections; tables = back.tables }

  -- some addresses for its sections and its imports
  abbrev addresses : Addresses
  addresses = record { sections = map (λ (s : DescribedSection). 0) script.sections; imports = map (λ (i : Import). 0) script.imports }

  are : AreAddresses script addresses
  are = record { sections = length-map script.sections (λ (s : DescribedSection). 0); imports = length-map script.imports (λ (i : Import). 0) }

  linked-sound : IsSound k.bytes
  linked-sound = prepared-sound k.bytes back.container back.read (images_sound script k linked back.container back.loader of) back.loader back.loaded addresses
      (are.sections ∙ sym back.sections.instantiated) (are.imports ∙ sym back.tables.import_count) (headers_sound script k linked back.container back.loader of addresses are)

  abbrev entries : List ProgramEntry
  entries = programs_from 0 script.sections linked.programs

  shorts : AllByRecursion IsShort entries
  shorts = all-short (length script.sections) (length script.sections) (length script.imports) 0 script.sections linked.programs linked.are linked.holds.sections.each

  few : back.loader.header.reloc_count ≤ 16
  few =
      let count = back.tables.reloc_count in
      let programs = length-programs 0 script.sections linked.programs in
      let sections = linked.holds.sections.count in
      omega (arith, count, programs, sections)

  -- a program that is read is one that was written
  record IsWritten (bytes : List ℕ) : Type 0 where
    pub entry : ProgramEntry
    pub short : IsShort entry
    pub is : bytes ≡ entry.bytes

  written : (i : ℕ) (r : RelocationRow) (bytes : List ℕ) → relocation_row back.loader i ≡ Some r → r.program ≡ Some bytes → IsWritten bytes
  written i r bytes row is = by (slice_get entries i) refl (sym header ∙ back.tables.relocs i)
    where
      header : reloc_of back.loader i ≡ Some (r.section, bytes)
      header = reloc_row back.loader i ∙ ap (λ o. o >>= (λ (r : RelocationRow). option_map (λ (program : List ℕ). (r.section, program)) r.program)) row ∙ ap (option_map (λ (program : List ℕ). (r.section, program))) is

      by : (o : Option ProgramEntry) → slice_get entries i ≡ o → Some (r.section, bytes) ≡ option_map program_read o → IsWritten bytes
      by None at same = absurd (cc same)
      by (Some p) at same = record { entry = p; short = all-get IsShort entries i p shorts at; is = (let pair : (r.section, bytes) ≡ (p.section, p.bytes) = cc same in ap (λ (h : ℕ × List ℕ). h.1) pair) }

  program-few : (i : ℕ) → program_cost back.loader i ≤ 524288
  program-few i = by (relocation_row back.loader i) refl
    where
      at : (r : RelocationRow) (o : Option (List ℕ)) → relocation_row back.loader i ≡ Some r → r.program ≡ o → option_map_or length o 0 ≤ 524288
      at r None row is = omega arith
      at r (Some bytes) row is = (let w = written i r bytes row is in let low = short-bytes w.entry w.short in let same = ap length w.is in omega (arith, low, same))

      by : (o : Option RelocationRow) → relocation_row back.loader i ≡ o → option_map_or length (option_and_then (λ (r : RelocationRow). r.program) o) 0 ≤ 524288
      by None row = omega arith
      by (Some r) row = at r r.program row refl

  run-few : (i : ℕ) → run_cost back.container back.loader i ≤ 524288
  run-few i = by (relocation_row back.loader i) refl
    where
      sized : (bytes : List ℕ) (o : Option Sizes) → steps_of bytes ≤ 524288 → option_map_or steps (option_map (λ z. (z, bytes)) o) 0 ≤ 524288
      sized bytes None low = omega arith
      sized bytes (Some z) low = low

      read : (r : RelocationRow) (bytes : List ℕ) (readable : Bool) → steps_of bytes ≤ 524288 → option_map_or steps (if readable then option_map (λ z. (z, bytes)) (sizes_at back.container back.loader r.section) else None) 0 ≤ 524288
      read r bytes true low = sized bytes (sizes_at back.container back.loader r.section) low
      read r bytes false low = omega arith

      at : (r : RelocationRow) (o : Option (List ℕ)) → relocation_row back.loader i ≡ Some r → r.program ≡ o
          → option_map_or steps (o >>= (λ bytes. if is_none (program_fault bytes) then option_map (λ z. (z, bytes)) (sizes_at back.container back.loader r.section) else None)) 0 ≤ 524288
      at r None row is = omega arith
      at r (Some bytes) row is = (let w = written i r bytes row is in let low = short-steps w.entry w.short in read r bytes (is_none (program_fault bytes)) (subst (λ b. steps_of b ≤ 524288) (sym w.is) low))

      by : (o : Option RelocationRow) → relocation_row back.loader i ≡ o → option_map_or steps (o >>= run_of back.container back.loader) 0 ≤ 524288
      by None row = omega arith
      by (Some r) row = at r r.program row refl

  linked-fits : (limits : Limits) → most_program_bytes ≤ limits.program_bytes → most_steps ≤ limits.steps → FitPrograms limits back.container back.loader
  linked-fits limits bytes steps = record {
    bytes = (let all = total-few (program_cost back.loader) 0 back.loader.header.reloc_count (λ i low high. program-few i) in let count = few in omega (arith, all, count, bytes));
    steps = (let all = total-few (run_cost back.container back.loader) 0 back.loader.header.reloc_count (λ i low high. run-few i) in let count = few in omega (arith, all, count, steps));
  }

  linked-none : (limits : Limits) → most_program_bytes ≤ limits.program_bytes → most_steps ≤ limits.steps → OnlyImages back.container (errors_within limits k.bytes)
  unfolding linked-sound prepared-sound
  linked-none limits bytes steps = no_false_alarm.programs limits k.bytes linked-sound (linked-fits limits bytes steps)

pub linked_are_sound : LinkedAreSound
linked_are_sound = record {
  sound = λ script l linked. linked-sound script l linked;
  none = λ script l limits linked bytes steps. ((is_read_back script l linked).container, (is_read_back script l linked).read, linked-none script l linked limits bytes steps);
}
