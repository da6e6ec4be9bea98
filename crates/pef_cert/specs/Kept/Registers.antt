-- The registers of a certificate against the fixups, test by test.
use Rattle.std.specs.Prelude.{ℕ, Bool, true, ◌&&◌, nat_lt, List, [], ◌∷◌, length}
use Rattle.pef_reloc.specs.declared.fixup.Base.{Base}
use Rattle.pef_reloc.specs.declared.fixup.Base.TheVariants.{Section, Import}
use Rattle.pef_reloc.specs.declared.fixup.Fixup.{Fixup}
use Rattle.pef_cert.specs.Labels.{class_of}

-- a base is an import or one of the registers
abbrev pub is_registered : List ℕ → Base → Bool
is_registered registers (Section k) = nat_lt (class_of registers k) (length registers)
is_registered registers (Import k) = true

-- the base of each fixup is an import or one of the registers
abbrev pub all_registered : List ℕ → List Fixup → Bool
all_registered registers [] = true
all_registered registers (f ∷ fixups) = is_registered registers f.base && all_registered registers fixups
