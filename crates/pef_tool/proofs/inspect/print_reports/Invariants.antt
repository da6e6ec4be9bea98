-- The reports so far were sent. Whatever the files left add, all files add both.
use Rattle.std.proofs.Common.{drop, map}
use Rattle.std.specs.Borrow.{Bor}
use Rattle.std.proofs.Common.{List, ℕ}
use Rattle.pef_tool.proofs.InspectLemmas.{HasInspected}
use Rattle.pef_tool.proofs.inspect.print_reports.Given as goal

abbrev pub invariant-loop-path : goal.invariant-loop-path
invariant-loop-path g l =
    let now : Bor (List ℕ) → List ℕ = λ path. path.now in
    HasInspected (record { state = g.F.Files.state; reason = g.F.Files.reason; was_read = g.F.Files.was_read; was_written = g.F.Files.was_written }) g.R.Source.stream l.form l.fn.files l.files l.fn.input l.input (g.W.Sink.stream l.fn.out) (g.W.Sink.stream l.out) l.page.items (map now l.asked.paths.now) l.errors (map now (drop l.path-index l.asked.paths.now))
