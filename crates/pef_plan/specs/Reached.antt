-- Labels that are reached: from each state at a fixup an instruction leads on, and its halfwords are at most
-- the fall of the label. The rule is this project's own.
use Rattle.std.specs.Prelude.{ℕ, List, [], ◌∷◌}
use Rattle.pef_reloc.specs.declared.fixup.Fixup.{Fixup}
use Rattle.pef_reloc.specs.Deliveries.{index_past}
use Rattle.pef_reloc.specs.Steps.{State}
use Rattle.pef_cert.specs.Labels.{Labels}
use Rattle.pef_cert.specs.Extension.{extension_at}
use Rattle.pef_cert.specs.Feasible.{AtFixup}
use Rattle.pef_plan.specs.Runs.Leads.{LeadsWithin}

-- an instruction leads on: the extension falls by at least its halfwords
abbrev pub LeadsOn : Labels → State → List Fixup → Type 0
LeadsOn l s fixups = LeadsWithin l s fixups (extension_at l fixups s)

-- an instruction leads on from each state at a fixup that others follow
abbrev pub ReachedAt : Labels → ℕ → Fixup → List Fixup → Type 0
ReachedAt l index f rest = (s : State) → AtFixup f index s → LeadsOn l s (f ∷ rest)

-- the same at each of some fixups, with the import index at the first
abbrev pub ReachedFrom : Labels → ℕ → List Fixup → Type 0
ReachedFrom l index [] = Unit {0}
ReachedFrom l index (f ∷ rest) = ReachedAt l index f rest × ReachedFrom l (index_past f.base index) rest
