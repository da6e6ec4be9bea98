-- A part is no longer than the whole.
use Rattle.std.proofs.Common.{sym}
use Rattle.pef_script.proofs.TextProofs.PlaceLemmas.{part-shorter}
use Rattle.pef_script.proofs.text.places.first_part.Goals as goal

pub returns-in-Some-clause-shorter : goal.returns-in-Some-clause-shorter
returns-in-Some-clause-shorter c = part-shorter c.args.byte c.args.bytes.now c.in-Some.part.now c.in-Some.field-0-1.now (sym c.in-Some.ensures)
