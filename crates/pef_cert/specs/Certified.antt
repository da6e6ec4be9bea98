-- Certificates as values.
use Rattle.std.specs.Prelude.{ℕ, List}
use Rattle.pef_reloc.specs.declared.instr.Instr.{Instr}

-- a certificate: its section, a program, the registers that count, and its labels row by row
pub record Certified : Type 0 where
  pub section : ℕ
  pub program : List Instr
  pub registers : List ℕ
  pub labels : List (List ℕ)
