-- What is least about a container that was linked, as its bytes are read: the relocation program of each section. No
-- repeat-free program that makes the same fixups has fewer halfwords. This is our own rule.
use Rattle.std.specs.Prelude.{◌≡◌, ◌≢◌, ℕ, ◌*◌, List, [], ◌∷◌, None, Some, length, slice_get}
use Rattle.pef_cert.specs.Certified.{Certified}
use Rattle.pef_cert.specs.Valid.{Valid}
use Rattle.pef_loader.specs.Loader.{Loaded, reloc_of}
use Rattle.pef_reloc.specs.Headers.{IsOther}
use Rattle.pef_reloc.specs.Instrs.{program_length, spelled}
use Rattle.pef_reloc.specs.Steps.{Least}
use Rattle.pef_reloc.specs.Unrolled.{instrs_of, program_fault}
use Rattle.pef_reloc.specs.declared.fixup.Fixup.{Fixup}

-- one relocation header is that of section k, with this program, and no other is
pub record HasOneHeader (loader : Loaded) (k : ℕ) (program : List ℕ) : Type 0 where
  pub place : ℕ
  pub here : reloc_of loader place ≡ Some (k, program)
  pub others : (i : ℕ) → i ≢ place → IsOther k (reloc_of loader i)

-- a section with fixups has one relocation header, with this program; a section without fixups has none
abbrev pub HasProgram : Loaded → ℕ → List Fixup → List ℕ → Type 0
HasProgram loader k [] program = (i : ℕ) → IsOther k (reloc_of loader i)
HasProgram loader k (fixup ∷ fixups) program = HasOneHeader loader k program

-- the bytes of section k's relocation program (no bytes if there is no header) are read as instructions that make the
-- section's fixups, each once and in address order. No repeat-free program that makes them so has fewer halfwords. The
-- program is that of the section's certificate, which is valid for the fixups
pub record HasLeast (certificates : List Certified) (loader : Loaded) (k : ℕ) (fixups : List Fixup) : Type 0 where
  pub program : List ℕ
  pub header : HasProgram loader k fixups program
  pub readable : program_fault program ≡ None
  pub least : Least fixups (instrs_of program)
  pub halfwords : length program ≡ 2 * program_length (instrs_of program)
  pub certificate : Certified
  pub there : slice_get certificates k ≡ Some certificate
  pub valid : Valid fixups certificate
  pub written : program ≡ spelled certificate.program
