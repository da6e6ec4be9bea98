use Rattle.pef_reloc.proofs.Laws.Additions.{additions-described, additions-done}
use Rattle.pef_reloc.proofs.FixupLemmas.{fixups_fit-parts}
use Rattle.pef_reloc.proofs.theorems.additions_inside.Goals as goal

pub returns : goal.returns
returns c = record { done = additions-done; described = λ a fixups memory fit inside. additions-described a fixups memory (fixups_fit-parts fixups fit).apart inside }
