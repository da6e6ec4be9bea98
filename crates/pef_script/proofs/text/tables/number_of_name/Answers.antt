-- The place among the keys is the number.
use Rattle.std.proofs.Common.{◌∙◌}
use Rattle.pef_script.proofs.TextProofs.TableLemmas.{position-keys}
use Rattle.pef_script.proofs.text.tables.number_of_name.Goals as goal

pub returns-clause-number : goal.returns-clause-number
returns-clause-number g c = c.get_index_of.ensures.index ∙ position-keys c.args.name.now c.args.table.now.entries
