use Rattle.std.proofs.Common.{List, ℕ, subst}
use Rattle.pef_tool.specs.Explain.{IsNoted}
use Rattle.pef_tool.proofs.explanation.explain.Goals as goal

pub returns-in-OutputFailed : goal.returns-in-OutputFailed
returns-in-OutputFailed g c =
    let stream = g.W.Sink.stream in
    let P : List ℕ → Type 0 = λ text. IsNoted (stream c.args.notes.now) (stream c.write_note.new.notes) text in
    rw (c.in-OutputFailed.is) (subst P c.as_bytes.ensures.value c.write_note.ensures)
