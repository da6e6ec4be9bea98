-- The relocation programs of a linked container relocate their sections, and aren't refused.
use Rattle.std.proofs.Common.{◌≡◌, ◌∙◌, ℕ, zero, suc, ◌+◌, true, List, [], ◌∷◌, ◌++◌, Some, length, map, slice_get, refl, ap, subst, sym, arith}
use Rattle.std.specs.List.{AllByRecursion}
use Rattle.pef_reloc.specs.declared.fixup.Fixup.{Fixup}
use Rattle.pef_reloc.specs.declared.instr.Instr.{Instr}
use Rattle.pef_reloc.specs.declared.stop.Stop.{Stop}
use Rattle.pef_reloc.specs.Additions.{IsThere}
use Rattle.pef_reloc.specs.Applied.{Addresses, Done, applied}
use Rattle.pef_reloc.specs.Instrs.{spelled}
use Rattle.pef_reloc.specs.Steps.{add, names_below, start}
use Rattle.pef_reloc.proofs.Laws.{applied-trace, count-length, fixups_fit-parts, program_fault-spelled, relocated-spelled}
use Rattle.pef_reloc.proofs.Laws.Additions.{additions-done, fixups-inside}
use Rattle.pef_script.specs.Script.{DescribedScript, DescribedSection}
use Rattle.pef_script.specs.WellFormed.{BaseThere, SectionHolds}
use Rattle.pef_words.proofs.Laws.Lists.{all-get, all-weaker}
use Rattle.pef_script.proofs.Laws.{base_there}
use Rattle.pef_write.specs.Linked.{AreProgramsFor, IsLinked, IsProgramFor, LinkedContainer, program_of, programs_from}
use Rattle.pef_write.specs.Loaders.{ProgramEntry}
use Rattle.pef_write.specs.ReadBack.{IsSectionProgram, Relocates}

-- a program for a section's fixups relocates the section
pub relocates : (s : DescribedScript) (section : DescribedSection) (instrs : List Instr) → SectionHolds (length s.sections) (length s.imports) section → IsProgramFor (length s.sections) section.fixups instrs → Relocates s section (spelled instrs)
relocates s section instrs holds program =
    let few = fixups_fit-parts section.fixups holds.fixups in
    let does : (a : Addresses) (memory : List ℕ) → length a.sections ≡ length s.sections → _ = λ a memory sections. (
    let names = subst (λ n. names_below n instrs ≡ true) (sym sections) program.names in
    relocated-spelled instrs a memory program.flat ∙ applied-trace a instrs start memory names ∙ ap (λ fixups. applied a (map add fixups) memory) program.makes) in
    record {
      readable = program_fault-spelled instrs program.flat (omega (arith, program.short, few.count, count-length instrs));
      does = does;
      unrefused = λ a memory sections imports whole.
          let P : ℕ → Type 0 = λ n. AllByRecursion (λ (fixup : Fixup). BaseThere n (length s.imports) fixup.base) section.fixups in
          let Q : ℕ → Type 0 = λ n. AllByRecursion (λ (fixup : Fixup). BaseThere (length a.sections) n fixup.base) section.fixups in
          let bases = subst Q (sym imports) (subst P (sym sections) holds.bases) in
          let there = all-weaker (λ (fixup : Fixup). BaseThere (length a.sections) (length a.imports) fixup.base) (λ (fixup : Fixup). IsThere a fixup.base) section.fixups (λ fixup. base_there a fixup.base) bases in
          let inside = fixups-inside a 0 (length memory) section.fixups few.apart (omega (arith, holds.inside, whole)) there in
          ap (λ (d : Done Stop). d.fault) (does a memory sections ∙ additions-done a section.fixups memory inside);
    }

-- each of the programs of sections is that of one of them, and is for its fixups
record IsAmong (count from : ℕ) (sections : List DescribedSection) (p : ProgramEntry) : Type 0 where
  k : ℕ
  section : DescribedSection
  instrs : List Instr
  there : slice_get sections k ≡ Some section
  own : p.section ≡ from + k
  program : IsProgramFor count section.fixups instrs
  bytes : p.bytes ≡ spelled instrs

among : (count from : ℕ) (sections : List DescribedSection) (programs : List (List Instr)) (i : ℕ) (p : ProgramEntry) → AreProgramsFor count sections programs → slice_get (programs_from from sections programs) i ≡ Some p → IsAmong count from sections p
among count from [] [] i p are there = absurd (cc)
among count from [] (instrs ∷ programs) i p are there = absurd are
among count from (s ∷ sections) [] i p are there = absurd are
among count from (s ∷ sections) (instrs ∷ programs) i p are there = by s.fixups (λ j found. among count (from + 1) sections programs j p are.1 found) i there
  where
    later : IsAmong count (from + 1) sections p → IsAmong count from (s ∷ sections) p
    later a = record { k = suc a.k; section = a.section; instrs = a.instrs; there = a.there; own = omega (arith, a.own); program = a.program; bytes = a.bytes }

    here : record { section = from; bytes = spelled instrs } ≡ p → IsAmong count from (s ∷ sections) p
    here same =
        let at : from ≡ from + 0 = omega arith in
        record { k = zero; section = s; instrs = instrs; there = refl; own = sym (ap (λ (q : ProgramEntry). q.section) same) ∙ at; program = are.0; bytes = sym (ap (λ (q : ProgramEntry). q.bytes) same) }

    by : (fixups : List Fixup) → ((j : ℕ) → slice_get (programs_from (from + 1) sections programs) j ≡ Some p → IsAmong count (from + 1) sections p)
        → (j : ℕ) → slice_get (program_of from fixups instrs ++ programs_from (from + 1) sections programs) j ≡ Some p → IsAmong count from (s ∷ sections) p
    by [] rest j found = later (rest j found)
    by (f ∷ fixups) rest zero found = here (cc)
    by (f ∷ fixups) rest (suc j) found = later (rest j found)

pub section_programs : (s : DescribedScript) (l : LinkedContainer) (linked : IsLinked s l) (i : ℕ) (p : ProgramEntry) → slice_get (programs_from 0 s.sections linked.programs) i ≡ Some p → IsSectionProgram s p
section_programs s l linked i p there =
    let a = among (length s.sections) 0 s.sections linked.programs i p linked.are there in
    let holds = all-get (SectionHolds (length s.sections) (length s.imports)) s.sections a.k a.section linked.holds.sections.each a.there in
    let own : p.section ≡ a.k = omega (arith, a.own) in
    record {
      section = a.section;
      there = ap (slice_get s.sections) own ∙ a.there;
      relocates = subst (Relocates s a.section) (sym a.bytes) (relocates s a.section a.instrs holds a.program);
    }
