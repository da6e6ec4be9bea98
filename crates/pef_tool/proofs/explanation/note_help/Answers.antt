-- Delivered with some outcome.
use Rattle.std.proofs.Common.{List, ℕ, ◌++◌, subst}
use Rattle.pef_faults.specs.Notes.Notes.{note_text}
use Rattle.pef_tool.specs.Explain.{IsNoted}
use Rattle.pef_tool.proofs.explanation.note_help.Goals as goal

pub returns-in-Some : goal.returns-in-Some
returns-in-Some g c =
    let stream = g.W.Sink.stream in
    let P : List ℕ → Type 0 = λ text. IsNoted (stream c.args.notes.now) (stream c.deliver.new.out) (text ++ note_text c.args.note) in
    rw (c.in-Some.is) (subst P c.as_bytes.ensures.value (c.deliver.result, c.deliver.ensures))
