-- The relocation programs of a script's sections as bytes, as the code has them.
use Rattle.std.specs.Prelude.{◌≡◌, ℕ, ◌+◌, ◌<◌, ◌^◌, List, [], ◌∷◌, ◌++◌, length, map}
use Rattle.pef_cert.specs.Certified.{Certified}
use Rattle.pef_reloc.specs.Instrs.{program_length, spelled}
use Rattle.pef_script.specs.Script.{DescribedScript, DescribedSection}
use Rattle.pef_script.specs.WellFormed.{ScriptHolds}
use Rattle.pef_write.specs.Containers.{written_container}
use Rattle.pef_write.specs.Linked.{AreCertified, ArePlanned, script_tables}
use Rattle.pef_write.specs.Loaders.{ProgramEntry, strings_of, written_loader}

-- a program that has bytes, with its section's number
abbrev pub nonempty : ℕ → List ℕ → List ProgramEntry
nonempty k [] = []
nonempty k (b ∷ bytes) = record { section = k; bytes = b ∷ bytes } ∷ []

-- the programs that have bytes, if the first is that of section k
abbrev pub nonempty_from : ℕ → List (List ℕ) → List ProgramEntry
nonempty_from k [] = []
nonempty_from k (bytes ∷ programs) = nonempty k bytes ++ nonempty_from (k + 1) programs

-- programs as bytes, and their numbers of halfwords: those of certificates for some sections
pub record AreEncodedFor (sections : List DescribedSection) (certificates : List Certified) (programs : List (List ℕ)) (lengths : List ℕ) : Type 0 where
  pub certified : AreCertified 0 sections certificates
  pub planned : ArePlanned sections certificates
  pub programs_are : programs ≡ map (λ c. spelled c.program) certificates
  pub lengths_are : lengths ≡ map (λ c. program_length c.program) certificates

-- .. for those of a script that was read
pub record AreEncoded (s : DescribedScript) (certificates : List Certified) (programs : List (List ℕ)) (lengths : List ℕ) : Type 0 where
  pub holds : ScriptHolds s
  pub each : AreEncodedFor s.sections certificates programs lengths

-- the loader section of a script with the programs of its sections as bytes, and the container

abbrev pub loader_with : DescribedScript → List (List ℕ) → List ℕ
loader_with s programs = written_loader (script_tables s (nonempty_from 0 programs))

abbrev pub container_with : DescribedScript → List (List ℕ) → List ℕ
container_with s programs = written_container s.versions s.sections (loader_with s programs)

-- a script that was read, and programs that fit the fields
pub record HasRoom (s : DescribedScript) (programs : List (List ℕ)) : Type 0 where
  pub holds : ScriptHolds s
  pub few : length programs < 2 ^ 15
  pub loader : length (loader_with s programs) < 2 ^ 32
  pub strings : length (strings_of (script_tables s (nonempty_from 0 programs))) < 2 ^ 24
  pub container : length (container_with s programs) < 2 ^ 32
