-- The list is read, and then the files that it names.
use Rattle.std.proofs.Common.{List, ℕ, ◌∙◌, ap, inl, inr, map, refl, subst}
use Rattle.std.specs.Borrow.{Bor}
use Rattle.pef_faults.specs.declared.fault.Fault.TheVariants.{OutOfMemory}
use Rattle.pef_ports.specs.Ports.{FilesPort}
use Rattle.pef_tool.specs.Answers.Faults.{fault_answer}
use Rattle.pef_tool.specs.Inspect.{InspectAnswers, listed_paths}
use Rattle.pef_tool.proofs.inspect.inspect_listed.Goals as goal

abbrev now : Bor (List ℕ) → List ℕ
now path = path.now

pub returns-in-Ok-listed_paths : goal.returns-in-Ok-listed_paths
returns-in-Ok-listed_paths g c =
    let port : FilesPort _ = record { state = g.F.Files.state; reason = g.F.Files.reason; was_read = g.F.Files.was_read; was_written = g.F.Files.was_written } in
    let list = c.in-Ok.list.items in
    let w = c.inspect_files.ensures in
    let are = ap (map now) c.as_slice-in-Ok-listed_paths.ensures.value ∙ c.in-Ok-listed_paths.ensures ∙ ap listed_paths c.as_slice.ensures.value in
    let P : List (List ℕ) → Type 0 = λ (paths : List (List ℕ)). InspectAnswers port g.R.Source.stream c.args.json c.args.files.now c.inspect_files.new.files c.read_standard.new.input c.inspect_files.new.input paths w.0 in
    (w.0, inl (list, c.read_standard.new.input, c.in-Ok.ensures, subst P are w.1), w.2)

pub returns : goal.returns
returns g c =
    (fault_answer OutOfMemory, inl (c.in-Ok.list.items, c.read_standard.new.input, c.in-Ok.ensures, inr (refl, refl, refl)), c.deliver-in-Err-listed_paths.ensures)
