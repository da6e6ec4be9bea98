-- Each file is read and reported after the others, and the rest of the page is written last.
use Rattle.std.proofs.Common.{◌∷◌, ◌∙◌, List, ℕ, None, [], ap, append-nil, drop, map, option_map, refl, subst, sym}
use Rattle.std.proofs.Common.{◌+◌}
use Rattle.std.proofs.lemmas.List.{at_drop_more, drop_all}
use Rattle.std.specs.Borrow.{Bor}
use Rattle.mac_rows.specs.declared.output_format.OutputFormat.{OutputFormat}
use Rattle.pef_ports.specs.Ports.{FilesPort}
use Rattle.pef_ports.specs.Sent.{Prints, StopsShort}
use Rattle.pef_ports.proofs.Laws.Sending.{Prints-then, Sends-short, StopsShort-then}
use Rattle.pef_tool.specs.Inspect.{Inspects, ReadsPair, Reported}
use Rattle.pef_tool.specs.Kept.Inspecting.{companion_seen, read_seen}
use Rattle.pef_tool.proofs.InspectLemmas.{inspected-all, inspected-more, inspected-nothing, inspected-short, no_value}
use Rattle.pef_tool.proofs.inspect.print_reports.Goals as goal

abbrev now : Bor (List ℕ) → List ℕ
now path = path.now

pub loop-path-init : goal.loop-path-init
loop-path-init g c =
    let port : FilesPort _ = record { state = g.F.Files.state; reason = g.F.Files.reason; was_read = g.F.Files.was_read; was_written = g.F.Files.was_written } in
    rw c.new-page.ensures (inspected-nothing port g.R.Source.stream c.form_of-form.result c.args.files.now c.args.input.now (g.W.Sink.stream c.args.out.now) (map now c.args.asked.paths.now))

pub returns-in_err-more : goal.returns-in_err-more
returns-in_err-more g c =
    let port : FilesPort _ = record { state = g.F.Files.state; reason = g.F.Files.reason; was_read = g.F.Files.was_read; was_written = g.F.Files.was_written } in
    let stream = g.R.Source.stream in
    let form = c.form_of-form.result in
    let at = c.loop-path in
    let paths = c.args.asked.paths.now in
    let path = c.find_pair-pair.result.named.path.now in
    let others = map now (drop (at.path-index + 1) paths) in
    let read = read_seen c.find_pair-pair.result.named.bytes in
    let companion = c.find_pair-pair.result.companion in
    let e = c.in_err-more.ensures in
    let P : List ℕ → Type 0 = λ (p : List ℕ). ReadsPair port stream None at.files c.find_pair-pair.new.files at.input c.find_pair-pair.new.input p read (option_map (companion_seen p) companion) in
    let reported : Reported port stream None form at.files c.find_pair-pair.new.files at.input c.find_pair-pair.new.input path e.0 e.1 =
    record { read = read; companion = option_map (companion_seen path) companion; pair = subst P (sym c.find_pair-pair.ensures.path) c.find_pair-pair.ensures.pair; printed = e.2 } in
    let w = inspected-short port stream form c.find_pair-pair.new.files c.find_pair-pair.new.input (g.W.Sink.stream c.print_pair.new.out) path others e.0 e.1 at.invariant
    (at_drop_more (map now) paths at.path-index _ c.loop-path-test.true ∙ ap (λ (p : List ℕ). p ∷ others) (sym c.find_pair-pair.ensures.path)) reported e.3 in
    let Q : OutputFormat → Type 0 = λ (f : OutputFormat). Inspects port stream f c.args.files.now c.find_pair-pair.new.files c.args.input.now c.find_pair-pair.new.input (map now paths) 0 w.0 w.1 in
    (w.0, w.1, subst Q c.form_of-form.ensures w.2, Sends-short _ c.from_residual.result _ c.from_residual.ensures.1 w.3, no_value _ _ c.from_residual.result c.from_residual.ensures.1)

pub loop-path-preserved : goal.loop-path-preserved
loop-path-preserved g c =
    let port : FilesPort _ = record { state = g.F.Files.state; reason = g.F.Files.reason; was_read = g.F.Files.was_read; was_written = g.F.Files.was_written } in
    let stream = g.R.Source.stream in
    let form = c.form_of-form.result in
    let at = c.loop-path in
    let paths = c.args.asked.paths.now in
    let path = c.find_pair-pair.result.named.path.now in
    let others = map now (drop (at.path-index + 1) paths) in
    let read = read_seen c.find_pair-pair.result.named.bytes in
    let companion = c.find_pair-pair.result.companion in
    let e = c.in_ok-more.ensures in
    let P : List ℕ → Type 0 = λ (p : List ℕ). ReadsPair port stream None at.files c.find_pair-pair.new.files at.input c.find_pair-pair.new.input p read (option_map (companion_seen p) companion) in
    let reported : Reported port stream None form at.files c.find_pair-pair.new.files at.input c.find_pair-pair.new.input path e.0 e.1 =
    record { read = read; companion = option_map (companion_seen path) companion; pair = subst P (sym c.find_pair-pair.ensures.path) c.find_pair-pair.ensures.pair; printed = e.2 } in
    rw (c.saturating_add-errors.ensures, e.4)
    (inspected-more port stream form c.find_pair-pair.new.files c.find_pair-pair.new.input (g.W.Sink.stream c.print_pair.new.out) c.print_pair.new.page.items path others e.0 e.1 at.invariant
    (at_drop_more (map now) paths at.path-index _ c.loop-path-test.true ∙ ap (λ (p : List ℕ). p ∷ others) (sym c.find_pair-pair.ensures.path)) reported e.3)

pub returns-in_err-flush : goal.returns-in_err-flush
returns-in_err-flush g c =
    let port : FilesPort _ = record { state = g.F.Files.state; reason = g.F.Files.reason; was_read = g.F.Files.was_read; was_written = g.F.Files.was_written } in
    let stream = g.R.Source.stream in
    let at = c.loop-path in
    let paths = c.args.asked.paths.now in
    let r = c.from_residual-in_err-flush in
    let w = inspected-all port stream c.form_of-form.result at.invariant (ap (map now) (drop_all at.path-index paths c.loop-path-test.false)) in
    let Q : OutputFormat → Type 0 = λ (f : OutputFormat). Inspects port stream f c.args.files.now at.files c.args.input.now at.input (map now paths) 0 w.0 at.errors in
    let S : List ℕ → Type 0 = λ (t : List ℕ). StopsShort (g.W.Sink.stream c.args.out.now) (g.W.Sink.stream c.flush.new.out) [] t in
    let short = subst S (append-nil w.0) (StopsShort-then w.2 c.in_err-flush.ensures.sends) in
    (w.0, at.errors, subst Q c.form_of-form.ensures w.1, Sends-short _ r.result _ r.ensures.1 short, no_value _ _ r.result r.ensures.1)

pub returns : goal.returns
returns g c =
    let port : FilesPort _ = record { state = g.F.Files.state; reason = g.F.Files.reason; was_read = g.F.Files.was_read; was_written = g.F.Files.was_written } in
    let stream = g.R.Source.stream in
    let at = c.loop-path in
    let paths = c.args.asked.paths.now in
    let w = inspected-all port stream c.form_of-form.result at.invariant (ap (map now) (drop_all at.path-index paths c.loop-path-test.false)) in
    let Q : OutputFormat → Type 0 = λ (f : OutputFormat). Inspects port stream f c.args.files.now at.files c.args.input.now at.input (map now paths) 0 w.0 at.errors in
    let S : List ℕ → Type 0 = λ (t : List ℕ). Prints (g.W.Sink.stream c.args.out.now) (g.W.Sink.stream c.flush.new.out) [] c.flush.new.page.items t in
    let L : List ℕ → Type 0 = λ (page : List ℕ). Prints (g.W.Sink.stream c.args.out.now) (g.W.Sink.stream c.flush.new.out) [] page w.0 in
    let prints = subst S (append-nil w.0) (Prints-then w.2 c.in_ok-flush.ensures.sends) in
    (w.0, at.errors, subst Q c.form_of-form.ensures w.1, subst L c.in_ok-flush.ensures.empty prints, refl)
