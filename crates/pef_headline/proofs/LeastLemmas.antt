-- What is linked has a least program for each section, in its bytes as they are read.
use Rattle.std.proofs.Common.{◌≡◌, ◌≢◌, ℕ, zero, suc, ◌*◌, ◌==◌, Bool, true, false, List, [], ◌∷◌, None, Some, Result, Ok, option_map, slice_get, eq-eqb, refl, sym, ap, subst, ◌∙◌, arith}
use Rattle.std.specs.List.{filter}
use Rattle.std.proofs.lemmas.Bool.{and_parts}
use Rattle.cfm_store.specs.Stores.{Pair, pair_of}
use Rattle.cfm_closure.specs.Faults.{BindRefusal}
use Rattle.cfm_closure.specs.Fragments.{Fragment, fragment_of}
use Rattle.pef_loader.specs.Loader.{Loaded}
use Rattle.pef_reloc.specs.Headers.{IsOther}
use Rattle.pef_reloc.specs.Instrs.{instrs_fit, program_length, repeat_free, spelled}
use Rattle.pef_reloc.specs.Steps.{Least}
use Rattle.pef_reloc.specs.Unrolled.{instrs_of, program_fault}
use Rattle.pef_reloc.proofs.Laws.{count-length, instrs_of-spelled, length-spelled, program_fault-spelled}
use Rattle.pef_reloc.specs.declared.fixup.Fixup.{Fixup}
use Rattle.pef_reloc.specs.declared.instr.Instr.{Instr}
use Rattle.pef_script.specs.Script.{DescribedScript, DescribedSection}
use Rattle.pef_write.specs.Linked.{IsLinked, LinkedContainer, program_of, programs_from}
use Rattle.pef_write.specs.Loaders.{ProgramEntry}
use Rattle.pef_write.specs.ReadBack.{HasTables, program_read}
use Rattle.pef_write.proofs.Laws.{least_program, section_programs}
use Rattle.pef_headline.specs.Least.{HasLeast, HasProgram}
use Rattle.pef_headline.proofs.LinkedLemmas.{fragment_linked, read_fragment}

-- the relocation programs of a section among some
abbrev programs_of_section : ℕ → List ProgramEntry → List ProgramEntry
programs_of_section k programs = filter (λ p. p.section == k) programs

-- no header is that of a section, if the test says so
is_other : (k : ℕ) (p : ProgramEntry) → (p.section == k) ≡ false → p.section ≢ k
is_other k p other same = let wrong : true ≡ false = sym (eq-eqb p.section k same) ∙ other in absurd (cc)

-- if no program is a section's, each is another's
others-none : (k i : ℕ) (programs : List ProgramEntry) → programs_of_section k programs ≡ [] → IsOther k (option_map program_read (slice_get programs i))
others-none k i [] none = tt
others-none k i (p ∷ programs) none = by i (p.section == k) refl (λ j others. others-none k j programs others)
  where
    by : (i : ℕ) (equal : Bool) → (p.section == k) ≡ equal → ((j : ℕ) → programs_of_section k programs ≡ [] → IsOther k (option_map program_read (slice_get programs j))) → IsOther k (option_map program_read (slice_get (p ∷ programs) i))
    by i true test later = (let two : p ∷ programs_of_section k programs ≡ [] = rw test at none in absurd (cc))
    by zero false test later = is_other k p test
    by (suc i) false test later = later i (rw test at none)

-- one program is a section's, and all others are of others
record HasOneProgram (k : ℕ) (programs : List ProgramEntry) (p : ProgramEntry) : Type 0 where
  place : ℕ
  here : slice_get programs place ≡ Some p
  others : (i : ℕ) → i ≢ place → IsOther k (option_map program_read (slice_get programs i))

others-one : (k : ℕ) (programs : List ProgramEntry) (p : ProgramEntry) → programs_of_section k programs ≡ p ∷ [] → HasOneProgram k programs p
others-one k [] p one = absurd (cc)
others-one k (q ∷ programs) p one = by (q.section == k) refl (λ others. others-one k programs p others)
  where
    first : programs_of_section k programs ≡ [] → (i : ℕ) → i ≢ 0 → IsOther k (option_map program_read (slice_get (q ∷ programs) i))
    first none zero apart = absurd (apart refl)
    first none (suc i) apart = others-none k i programs none

    later : (o : HasOneProgram k programs p) → (q.section == k) ≡ false → (i : ℕ) → i ≢ suc o.place → IsOther k (option_map program_read (slice_get (q ∷ programs) i))
    later o other zero apart = is_other k q other
    later o other (suc i) apart = o.others i (λ same. apart (ap suc same))

    by : (equal : Bool) → (q.section == k) ≡ equal → (programs_of_section k programs ≡ p ∷ [] → HasOneProgram k programs p) → HasOneProgram k (q ∷ programs) p
    by true test among =
        let two : q ∷ programs_of_section k programs ≡ p ∷ [] = rw test at one in
        let same : q ≡ p = cc in
        record { place = 0; here = ap Some same; others = first (cc) }
    by false test among =
        let o = among (rw test at one) in
        record { place = suc o.place; here = o.here; others = later o test }

-- a loader section with the tables of a script has a section's program, which is the one that is written for
-- the section
pub has_program : (s : DescribedScript) (programs : List (List Instr)) (loader : Loaded) (k : ℕ) (fixups : List Fixup) (instrs : List Instr) → HasTables s programs loader → programs_of_section k (programs_from 0 s.sections programs) ≡ program_of k fixups instrs → HasProgram loader k fixups (spelled instrs)
has_program s programs loader k [] instrs tables written = λ i. subst (IsOther k) (sym (tables.relocs i)) (others-none k i (programs_from 0 s.sections programs) written)
has_program s programs loader k (fixup ∷ fixups) instrs tables written =
    let one = others-one k (programs_from 0 s.sections programs) (record { section = k; bytes = spelled instrs }) written in
    record {
      place = one.place;
      here = tables.relocs one.place ∙ ap (option_map program_read) one.here;
      others = λ i apart. subst (IsOther k) (sym (tables.relocs i)) (one.others i apart);
    }

-- and these bytes are a readable program
program_readable : (script : DescribedScript) (linked : LinkedContainer) (is : IsLinked script linked) (k : ℕ) (fixups : List Fixup) (instrs : List Instr) → programs_of_section k (programs_from 0 script.sections is.programs) ≡ program_of k fixups instrs → Least fixups instrs
    → program_fault (spelled instrs) ≡ None
program_readable script linked is k [] instrs written least = program_fault-spelled instrs least.flat (omega (arith, least.shortest [] refl refl, count-length instrs))
program_readable script linked is k (fixup ∷ fixups) instrs written least =
    let p : ProgramEntry = record { section = k; bytes = spelled instrs } in
    let one = others-one k (programs_from 0 script.sections is.programs) p written in
    (section_programs script linked is one.place p one.here).relocates.readable

fragment_is : (f g : Fragment) (read : Result Fragment BindRefusal) → read ≡ Ok f → read ≡ Ok g → f ≡ g
fragment_is f g read one two = let both = sym one ∙ two in cc

-- each section of a linked container has a least program, in the loader section that is read from its bytes
pub linked_least : (script : DescribedScript) (linked : LinkedContainer) (pairs : List Pair) (p : ℕ) (f : Fragment) (k : ℕ) (section : DescribedSection) (is : IsLinked script linked) → (pair_of pairs p).bytes ≡ linked.bytes
    → fragment_of pairs p ≡ Ok f → slice_get script.sections k ≡ Some section → HasLeast is.certificates f.loader k section.fixups
linked_least script linked pairs p f k section is holds read there =
    let read_as_linked = fragment_linked script linked is pairs p holds in
    let same = ap (λ (g : Fragment). g.loader) (fragment_is (read_fragment script linked is pairs p) f (fragment_of pairs p) read_as_linked.read read) in
    let least = least_program script linked is k section there in
    let instrs = least.certificate.program in
    let reads : instrs_of (spelled instrs) ≡ instrs = instrs_of-spelled instrs (and_parts (repeat_free instrs) (instrs_fit instrs) least.least.flat).1 in
    subst (λ (loader : Loaded). HasLeast is.certificates loader k section.fixups) same (record {
      program = spelled instrs;
      header = has_program script is.programs (read_fragment script linked is pairs p).loader k section.fixups instrs read_as_linked.of.tables least.written;
      readable = program_readable script linked is k section.fixups instrs least.written least.least;
      halfwords = length-spelled instrs ∙ ap (λ xs. 2 * program_length xs) (sym reads);
      least = subst (Least section.fixups) (sym reads) least.least;
      certificate = least.certificate;
      there = least.there;
      valid = least.certified.valid;
      written = refl;
    })
