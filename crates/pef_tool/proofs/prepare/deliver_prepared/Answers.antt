-- With files or without.
use Rattle.std.proofs.Common.{List, ℕ, Option, refl, subst}
use Rattle.pef_ports.specs.Ports.{FilesPort}
use Rattle.pef_tool.specs.Answers.Answers.{answer_done}
use Rattle.pef_tool.specs.Kept.Supplying.{supplied_text}
use Rattle.pef_tool.specs.Prepare.{AnswersPrepared}
use Rattle.pef_tool.proofs.prepare.deliver_prepared.Goals as goal

pub returns-in-Some : goal.returns-in-Some
returns-in-Some g c =
    let port : FilesPort _ = record { state = g.F.Files.state; reason = g.F.Files.reason; was_read = g.F.Files.was_read; was_written = g.F.Files.was_written } in
    let shown = c.args.shown.now in
    let answer = c.deliver_with_files.ensures.0 in
    let P : Option (List ℕ) → Type 0 = λ folder. AnswersPrepared port c.args.files.now c.deliver_with_files.new.files folder shown.loaded.context shown.loaded.connection.0 (supplied_text shown) answer in
    (answer, subst P c.in-Some.ensures c.deliver_with_files.ensures.1, c.deliver_with_files.ensures.2)

pub returns-in-None : goal.returns-in-None
returns-in-None g c =
    let port : FilesPort _ = record { state = g.F.Files.state; reason = g.F.Files.reason; was_read = g.F.Files.was_read; was_written = g.F.Files.was_written } in
    let shown = c.args.shown.now in
    let answer = answer_done (supplied_text shown) in
    let P : Option (List ℕ) → Type 0 = λ folder. AnswersPrepared port c.args.files.now c.args.files.now folder shown.loaded.context shown.loaded.connection.0 (supplied_text shown) answer in
    (answer, subst P c.in-None.ensures (refl, refl), c.deliver.ensures)
