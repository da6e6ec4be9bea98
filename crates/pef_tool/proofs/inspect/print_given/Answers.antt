-- Both files are read, and then reported. The rest of the page is written last.
use Rattle.std.proofs.Common.{List, ℕ, [], Some, append-nil, option_map, subst}
use Rattle.mac_rows.specs.declared.output_format.OutputFormat.{OutputFormat}
use Rattle.pef_ports.specs.Ports.{FilesPort}
use Rattle.pef_ports.specs.Sent.{Prints, StopsShort}
use Rattle.pef_ports.proofs.Laws.Sending.{Prints-then, Sends-short, StopsShort-then}
use Rattle.pef_tool.specs.Inspect.{IsPairPrinted, Reported, form_of}
use Rattle.pef_tool.specs.Kept.Inspecting.{companion_seen, read_seen}
use Rattle.pef_tool.proofs.InspectLemmas.{no_value}
use Rattle.pef_tool.proofs.inspect.print_given.Goals as goal

pub returns-in_err-errors : goal.returns-in_err-errors
returns-in_err-errors g c =
    let port : FilesPort _ = record { state = g.F.Files.state; reason = g.F.Files.reason; was_read = g.F.Files.was_read; was_written = g.F.Files.was_written } in
    let stream = g.W.Sink.stream in
    let asked = c.args.asked in
    let pair = c.given_pair-pair.result in
    let read = read_seen pair.named.bytes in
    let companion = option_map (companion_seen asked.path.now) pair.companion in
    let e = c.in_err-errors.ensures in
    let P : List ℕ → Type 0 = λ (p : List ℕ). IsPairPrinted c.form_of.result p read (option_map (companion_seen p) pair.companion) e.0 e.1 in
    let Q : OutputFormat → Type 0 = λ (f : OutputFormat). IsPairPrinted f asked.path.now read companion e.0 e.1 in
    let reported : Reported port g.R.Source.stream (Some asked.resources.now) (form_of asked.json) c.args.files.now c.given_pair-pair.new.files c.args.input.now c.given_pair-pair.new.input asked.path.now e.0 e.1 =
    record { read = read; companion = companion; pair = c.given_pair-pair.ensures.pair; printed = subst Q c.form_of.ensures (subst P c.given_pair-pair.ensures.path e.2) } in
    let S : List ℕ → Type 0 = λ (page : List ℕ). StopsShort (stream c.args.out.now) (stream c.print_pair.new.out) page e.0 in
    let r = c.from_residual in
    (e.0, e.1, reported, Sends-short _ r.result _ r.ensures.1 (subst S c.new-page.ensures e.3), no_value _ _ r.result r.ensures.1)

pub returns-in_err-flush : goal.returns-in_err-flush
returns-in_err-flush g c =
    let port : FilesPort _ = record { state = g.F.Files.state; reason = g.F.Files.reason; was_read = g.F.Files.was_read; was_written = g.F.Files.was_written } in
    let stream = g.W.Sink.stream in
    let asked = c.args.asked in
    let pair = c.given_pair-pair.result in
    let read = read_seen pair.named.bytes in
    let companion = option_map (companion_seen asked.path.now) pair.companion in
    let e = c.in_ok-errors.ensures in
    let P : List ℕ → Type 0 = λ (p : List ℕ). IsPairPrinted c.form_of.result p read (option_map (companion_seen p) pair.companion) e.0 e.1 in
    let Q : OutputFormat → Type 0 = λ (f : OutputFormat). IsPairPrinted f asked.path.now read companion e.0 e.1 in
    let reported : Reported port g.R.Source.stream (Some asked.resources.now) (form_of asked.json) c.args.files.now c.given_pair-pair.new.files c.args.input.now c.given_pair-pair.new.input asked.path.now e.0 e.1 =
    record { read = read; companion = companion; pair = c.given_pair-pair.ensures.pair; printed = subst Q c.form_of.ensures (subst P c.given_pair-pair.ensures.path e.2) } in
    let B : List ℕ → Type 0 = λ (page : List ℕ). Prints (stream c.args.out.now) (stream c.print_pair.new.out) page c.print_pair.new.page.items e.0 in
    let S : List ℕ → Type 0 = λ (t : List ℕ). StopsShort (stream c.args.out.now) (stream c.flush.new.out) [] t in
    let short = subst S (append-nil e.0) (StopsShort-then (subst B c.new-page.ensures e.3) c.in_err-flush.ensures.sends) in
    let r = c.from_residual-in_err-flush in
    (e.0, e.1, reported, Sends-short _ r.result _ r.ensures.1 short, no_value _ _ r.result r.ensures.1)

pub returns : goal.returns
returns g c =
    let port : FilesPort _ = record { state = g.F.Files.state; reason = g.F.Files.reason; was_read = g.F.Files.was_read; was_written = g.F.Files.was_written } in
    let stream = g.W.Sink.stream in
    let asked = c.args.asked in
    let pair = c.given_pair-pair.result in
    let read = read_seen pair.named.bytes in
    let companion = option_map (companion_seen asked.path.now) pair.companion in
    let e = c.in_ok-errors.ensures in
    let P : List ℕ → Type 0 = λ (p : List ℕ). IsPairPrinted c.form_of.result p read (option_map (companion_seen p) pair.companion) e.0 e.1 in
    let Q : OutputFormat → Type 0 = λ (f : OutputFormat). IsPairPrinted f asked.path.now read companion e.0 e.1 in
    let reported : Reported port g.R.Source.stream (Some asked.resources.now) (form_of asked.json) c.args.files.now c.given_pair-pair.new.files c.args.input.now c.given_pair-pair.new.input asked.path.now e.0 e.1 =
    record { read = read; companion = companion; pair = c.given_pair-pair.ensures.pair; printed = subst Q c.form_of.ensures (subst P c.given_pair-pair.ensures.path e.2) } in
    let B : List ℕ → Type 0 = λ (page : List ℕ). Prints (stream c.args.out.now) (stream c.print_pair.new.out) page c.print_pair.new.page.items e.0 in
    let S : List ℕ → Type 0 = λ (t : List ℕ). Prints (stream c.args.out.now) (stream c.flush.new.out) [] c.flush.new.page.items t in
    let L : List ℕ → Type 0 = λ (page : List ℕ). Prints (stream c.args.out.now) (stream c.flush.new.out) [] page e.0 in
    let prints = subst S (append-nil e.0) (Prints-then (subst B c.new-page.ensures e.3) c.in_ok-flush.ensures.sends) in
    (e.0, e.1, reported, subst L c.in_ok-flush.ensures.empty prints, e.4)
