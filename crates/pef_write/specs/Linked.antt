-- What the linker writes for a script: a container of its sections, and a loader section with its
-- libraries, imports and exports, its entries, and a relocation program for each section that has fixups
-- (Mac OS Runtime Architectures, "PEF Structure").
use Rattle.std.specs.Prelude.{◌≡◌, ℕ, true, pos, ◌+◌, ◌*◌, ◌≤◌, ◌==◌, List, [], ◌∷◌, ◌++◌, length, map, nat_lt, slice_index_or}
use Rattle.std.specs.List.{count_by}
use Rattle.pef_cert.specs.Certified.{Certified}
use Rattle.pef_cert.specs.Valid.{Valid, labels_of}
use Rattle.pef_hash.specs.Build.{built}
use Rattle.pef_format.specs.declared.symbol.SymbolClass.TheVariants.{Code}
use Rattle.pef_format.specs.Exports.{Export}
use Rattle.pef_format.specs.Symbols.{Import, options_code}
use Rattle.pef_loader.specs.Library.{Library}
use Rattle.pef_plan.specs.Exact.{Exact}
use Rattle.pef_plan.specs.Planned.{Planned}
use Rattle.pef_reloc.specs.declared.fixup.Fixup.{Fixup}
use Rattle.pef_reloc.specs.declared.instr.Instr.{Instr}
use Rattle.pef_reloc.specs.Instrs.{program_length, spelled}
use Rattle.pef_reloc.specs.Steps.{Makes, is_flat, names_below}
use Rattle.pef_script.specs.Script.{DescribedLibrary, DescribedScript, DescribedSection, described_export, export_names}
use Rattle.pef_script.specs.WellFormed.{ScriptHolds}
use Rattle.pef_write.specs.Containers.{written_container}
use Rattle.pef_write.specs.Loaders.{LoaderTables, ProgramEntry, written_loader}

-- instructions that are a program for some fixups among this many sections: without a repeat, they make the
-- fixups, each once and in order, name no other sections, and have at most four halfwords for each
pub record IsProgramFor (sections : ℕ) (fixups : List Fixup) (instrs : List Instr) : Type 0 where
  pub flat : is_flat instrs ≡ true
  pub makes : Makes fixups instrs
  pub names : names_below sections instrs ≡ true
  pub short : program_length instrs ≤ 4 * length fixups

-- a program for each of some sections
abbrev pub AreProgramsFor : ℕ → List DescribedSection → List (List Instr) → Type 0
AreProgramsFor count [] [] = Unit {0}
AreProgramsFor count [] (instrs ∷ programs) = ⊥
AreProgramsFor count (s ∷ sections) [] = ⊥
AreProgramsFor count (s ∷ sections) (instrs ∷ programs) = IsProgramFor count s.fixups instrs × AreProgramsFor count sections programs

-- a certificate that holds for the fixups of a section, by its number; each of its labels is a least length
pub record IsCertified (k : ℕ) (fixups : List Fixup) (c : Certified) : Type 0 where
  pub section : c.section ≡ k
  pub valid : Valid fixups c
  pub exact : Exact (labels_of c (length fixups)) fixups

-- a certificate for each of some sections, numbered from a number on
abbrev pub AreCertified : ℕ → List DescribedSection → List Certified → Type 0
AreCertified k [] [] = Unit {0}
AreCertified k [] (c ∷ certificates) = ⊥
AreCertified k (s ∷ sections) [] = ⊥
AreCertified k (s ∷ sections) (c ∷ certificates) = IsCertified k s.fixups c × AreCertified (k + 1) sections certificates

-- certificates have the planned programs of some sections
abbrev pub ArePlanned : List DescribedSection → List Certified → Type 0
ArePlanned [] [] = Unit {0}
ArePlanned [] (c ∷ certificates) = ⊥
ArePlanned (s ∷ sections) [] = ⊥
ArePlanned (s ∷ sections) (c ∷ certificates) = Planned s.fixups c.program × ArePlanned sections certificates

-- a library with this many imports, from a number on
abbrev pub library_with : ℕ → ℕ → DescribedLibrary → Library
library_with count first l = record {
  fields = record { current = l.current; old_imp = l.old_imp; count = count; first = first; options = options_code l.options };
  name = l.name;
}

-- library k with its imports: how many it has, and how many the libraries before it have
abbrev pub linked_library : List Import → ℕ → DescribedLibrary → Library
linked_library imports k l = library_with (count_by (λ i. i.library == k) imports) (count_by (λ i. nat_lt i.library k) imports) l

-- libraries, numbered from a number on
abbrev pub libraries_from : List Import → ℕ → List DescribedLibrary → List Library
libraries_from imports k [] = []
libraries_from imports k (l ∷ libraries) = linked_library imports k l ∷ libraries_from imports (k + 1) libraries

-- the relocation program of section k, if it has fixups
abbrev pub program_of : ℕ → List Fixup → List Instr → List ProgramEntry
program_of k [] instrs = []
program_of k (fixup ∷ fixups) instrs = record { section = k; bytes = spelled instrs } ∷ []

-- the relocation programs of sections, numbered from a number on
abbrev pub programs_from : ℕ → List DescribedSection → List (List Instr) → List ProgramEntry
programs_from k (s ∷ sections) (instrs ∷ programs) = program_of k s.fixups instrs ++ programs_from (k + 1) sections programs
programs_from k sections programs = []

-- the value for an export past the last one
abbrev pub no_export : Export
no_export = described_export [] Code (pos 0) 0

-- the exports at some places, in the order of the places
abbrev pub exports_at : List Export → List ℕ → List Export
exports_at exports order = map (λ e. slice_index_or exports e no_export) order

-- the tables of the loader section of a script, with some relocation programs; keys and exports are in
-- the order of the export table
unfoldable pub script_tables : DescribedScript → List ProgramEntry → LoaderTables
script_tables s programs = record {
  main = s.main;
  init = s.init;
  term = s.term;
  libraries = libraries_from s.imports 0 s.libraries;
  imports = s.imports;
  programs = programs;
  power = (built (export_names s)).power;
  slots = (built (export_names s)).slots;
  keys = (built (export_names s)).keys;
  exports = exports_at s.exports (built (export_names s)).order;
}

-- the tables of a script, with programs for its sections
abbrev pub linked_tables : DescribedScript → List (List Instr) → LoaderTables
linked_tables s programs = script_tables s (programs_from 0 s.sections programs)

-- the loader section of a script, with programs for its sections
unfoldable pub linked_loader : DescribedScript → List (List Instr) → List ℕ
linked_loader s programs = written_loader (linked_tables s programs)

-- the container of a script, with programs for its sections
unfoldable pub linked_bytes : DescribedScript → List (List Instr) → List ℕ
linked_bytes s programs = written_container s.versions s.sections (linked_loader s programs)

-- a linked container: its bytes, and for each section the length of its program, in halfwords
pub record LinkedContainer : Type 0 where
  pub bytes : List ℕ
  pub lengths : List ℕ

-- a container linked from a script, which keeps the limits: its bytes with some programs for its sections,
-- their lengths, and certificates that have the programs
pub record IsLinked (script : DescribedScript) (l : LinkedContainer) : Type 0 where
  pub holds : ScriptHolds script
  pub programs : List (List Instr)
  pub are : AreProgramsFor (length script.sections) script.sections programs
  pub bytes : l.bytes ≡ linked_bytes script programs
  pub lengths : l.lengths ≡ map program_length programs
  pub certificates : List Certified
  pub certified : AreCertified 0 script.sections certificates
  pub programs_are : programs ≡ map (λ c. c.program) certificates

-- a linked container with certificates
pub record CertifiedContainer : Type 0 where
  pub container : LinkedContainer
  pub certificates : List Certified

-- what `link` gives for a script: a linked container, and the certificates that have its programs, which are the planned
-- ones
pub record IsCertifiedLink (script : DescribedScript) (l : CertifiedContainer) : Type 0 where
  pub linked : IsLinked script l.container
  pub certificates : l.certificates ≡ linked.certificates
  pub planned : ArePlanned script.sections l.certificates

-- the container that `link` gives, with certificates that it may give
pub record IsLinkedContainer (script : DescribedScript) (l : LinkedContainer) : Type 0 where
  pub certificates : List Certified
  pub certified : IsCertifiedLink script (record { container = l; certificates = certificates })

-- certificates that `link` may give, with some container
pub record AreLinkCertificates (script : DescribedScript) (certificates : List Certified) : Type 0 where
  pub container : LinkedContainer
  pub certified : IsCertifiedLink script (record { container = container; certificates = certificates })
