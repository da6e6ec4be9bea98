-- What is least about a linked container: the relocation program of each section. No flat program that
-- makes the same fixups has fewer halfwords. This is our own rule.
use Rattle.std.specs.Prelude.{◌≡◌, ℕ, ◌==◌, Some, slice_get}
use Rattle.std.specs.List.{filter}
use Rattle.pef_cert.specs.Certified.{Certified}
use Rattle.pef_reloc.specs.Instrs.{program_length}
use Rattle.pef_reloc.specs.Steps.{Least}
use Rattle.pef_script.specs.Script.{DescribedScript, DescribedSection}
use Rattle.pef_write.specs.Linked.{IsCertified, IsLinked, LinkedContainer, program_of, programs_from}

-- section k has a certificate that holds for its fixups. Its program is a least one, its length is the
-- one that is reported, and it is the program that is written for section k, or nothing if there are no
-- fixups
pub record HasLeastProgram (s : DescribedScript) (l : LinkedContainer) (linked : IsLinked s l) (k : ℕ) (section : DescribedSection) : Type 0 where
  pub certificate : Certified
  pub there : slice_get linked.certificates k ≡ Some certificate
  pub certified : IsCertified k section.fixups certificate
  pub least : Least section.fixups certificate.program
  pub length_is : slice_get l.lengths k ≡ Some (program_length certificate.program)
  pub written : filter (λ p. p.section == k) (programs_from 0 s.sections linked.programs) ≡ program_of k section.fixups certificate.program
