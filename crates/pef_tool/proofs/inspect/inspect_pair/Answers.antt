-- The reports are written whole, or a prefix of them.
use Rattle.std.proofs.Common.{◌∙◌, ap, inl, inr, refl}
use Rattle.pef_ports.proofs.Laws.Sending.{StopsShort-front}
use Rattle.pef_tool.specs.Answers.Answers.{Answer}
use Rattle.pef_tool.specs.Inspect.{outcome_of}
use Rattle.pef_tool.proofs.InspectLemmas.{delivered}
use Rattle.pef_tool.proofs.inspect.inspect_pair.Goals as goal

pub returns-in-Ok : goal.returns-in-Ok
returns-in-Ok g c =
    let w = c.in-Ok.ensures in
    let answer : Answer = record { text = w.0; outcome = outcome_of w.1 } in
    (answer, inl (w.0, w.1, w.2, refl), inl (delivered w.3, w.3.sound, c.outcome_of.ensures ∙ ap outcome_of w.4))

pub returns-in-Err : goal.returns-in-Err
returns-in-Err g c =
    let w = c.in-Err.ensures in
    let answer : Answer = record { text = w.0; outcome = outcome_of w.1 } in
    (answer, inl (w.0, w.1, w.2, refl), inr (StopsShort-front w.3, w.3.failed, refl))
