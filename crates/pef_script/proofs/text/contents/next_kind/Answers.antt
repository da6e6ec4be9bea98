-- The line begins with the word and its space.
use Rattle.pef_script.proofs.TextProofs.KindLemmas.{import_kind, section_kind}
use Rattle.pef_script.proofs.text.contents.next_kind.Goals as goal

pub returns-in-Some : goal.returns-in-Some
returns-in-Some c = section_kind c.args.line.now c.in-Some.rest.now c.in-Some.ensures

pub returns-in-Some-rest_after : goal.returns-in-Some-rest_after
returns-in-Some-rest_after c = import_kind c.args.line.now c.in-Some-rest_after.rest.now c.in-Some-rest_after.ensures
