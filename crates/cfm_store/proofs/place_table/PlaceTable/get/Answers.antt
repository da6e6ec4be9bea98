use Rattle.std.proofs.Common.{arith}
use Rattle.std.proofs.lemmas.Grind.{common_steps, elements}
use Rattle.cfm_store.proofs.place_table.PlaceTable.get.Goals as goal

pub returns-in_err-checked_sub : goal.returns-in_err-checked_sub
returns-in_err-checked_sub c = grind (arith, common_steps)

pub returns : goal.returns
returns c = grind (arith, elements)
