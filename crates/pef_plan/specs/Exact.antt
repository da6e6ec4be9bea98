-- Labels that are least lengths. The rule is this project's own.
use Rattle.std.specs.Prelude.{◌≡◌, ◌≤◌, ℕ, true, List, ◌∷◌, ◌++◌}
use Rattle.pef_reloc.specs.declared.fixup.Fixup.{Fixup}
use Rattle.pef_reloc.specs.declared.instr.Instr.{Instr}
use Rattle.pef_reloc.specs.Deliveries.{MakesFrom, index_after}
use Rattle.pef_reloc.specs.Instrs.{program_length}
use Rattle.pef_reloc.specs.Steps.{State, is_flat}
use Rattle.pef_cert.specs.Labels.{Labels}
use Rattle.pef_cert.specs.Feasible.{AtFixup, label_at}

-- n is the least number of halfwords of a flat list that makes some fixups from a state
pub record LeastFrom (s : State) (fixups : List Fixup) (n : ℕ) : Type 0 where
  pub instrs : List Instr
  pub flat : is_flat instrs ≡ true
  pub makes : MakesFrom s fixups instrs
  pub length_is : program_length instrs ≡ n
  pub least : (others : List Instr) → is_flat others ≡ true → MakesFrom s fixups others → n ≤ program_length others

-- the label of each state at a fixup is the least length of a flat list that makes the remaining fixups from
-- that state
pub record Exact (l : Labels) (fixups : List Fixup) : Type 0 where
  pub at : (made rest : List Fixup) (f : Fixup) (s : State) → fixups ≡ made ++ f ∷ rest → AtFixup f (index_after made 0) s → LeastFrom s (f ∷ rest) (label_at l (f ∷ rest) s)
