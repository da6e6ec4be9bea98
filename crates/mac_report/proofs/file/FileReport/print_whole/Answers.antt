-- What comes before the containers, the containers, and what comes after them.
use Rattle.std.proofs.Common.{◌++◌, ◌∙◌, ap, length, option_map, refl, subst}
use Rattle.cfm_members.specs.Search.{containers_in}
use Rattle.pef_ports.specs.Sent.{Prints, StopsShort}
use Rattle.pef_ports.proofs.Laws.Sending.{Prints-then, Sends-short, StopsShort-longer, StopsShort-then}
use Rattle.mac_rows.specs.Views.{data_file_seen}
use Rattle.mac_report.specs.Containers.{fresh_tally, total}
use Rattle.mac_report.specs.Reports.{IsWhole, end_text, head_text}
use Rattle.mac_report.specs.Views.{shown_seen}
use Rattle.mac_report.specs.declared.tally.Tally.{Tally}
use Rattle.mac_report.proofs.ContainerLemmas.{no_value, some_walk}
use Rattle.mac_report.proofs.file.FileReport.print_whole.Goals as goal

pub returns-in_err-print_head : goal.returns-in_err-print_head
returns-in_err-print_head g c =
    let me = c.args.self in
    let other = option_map data_file_seen me.data_file in
    let found = shown_seen c.args.found in
    let w = some_walk me.form me.bytes.now (fresh_tally me.bytes.now) (containers_in me.bytes.now 0) in
    let rest = w.0 ++ end_text me.form found w.1 in
    let whole : IsWhole me.form me.path.now me.bytes.now other found (head_text me.form me.path.now me.bytes.now other found ++ rest) (total w.1 (length found.errors) (length found.notes)) =
    record { containers = w.0; tally = w.1; walked = w.2; printed = refl; counted = refl } in (
      head_text me.form me.path.now me.bytes.now other found ++ rest,
      total w.1 (length found.errors) (length found.notes),
      whole,
      Sends-short _ c.from_residual.result _ c.from_residual.ensures.1 (StopsShort-longer rest c.in_err-print_head.ensures),
      no_value _ _ c.from_residual.result c.from_residual.ensures.1,
    )

pub returns-in_err-tally : goal.returns-in_err-tally
returns-in_err-tally g c =
    let me = c.args.self in
    let other = option_map data_file_seen me.data_file in
    let found = shown_seen c.args.found in
    let w = c.in_err-tally.ensures in
    let rest = end_text me.form found w.1 in
    let r = c.from_residual-in_err-tally in
    let whole : IsWhole me.form me.path.now me.bytes.now other found (head_text me.form me.path.now me.bytes.now other found ++ (w.0 ++ rest)) (total w.1 (length found.errors) (length found.notes)) =
    record { containers = w.0; tally = w.1; walked = w.2; printed = refl; counted = refl } in (
      head_text me.form me.path.now me.bytes.now other found ++ (w.0 ++ rest),
      total w.1 (length found.errors) (length found.notes),
      whole,
      Sends-short _ r.result _ r.ensures.1 (StopsShort-then c.in_ok-print_head.ensures (StopsShort-longer rest w.3)),
      no_value _ _ r.result r.ensures.1,
    )

pub returns-in_err-print_end : goal.returns-in_err-print_end
returns-in_err-print_end g c =
    let me = c.args.self in
    let other = option_map data_file_seen me.data_file in
    let found = shown_seen c.args.found in
    let w = c.in_ok-tally.ensures in
    let rest = end_text me.form found w.1 in
    let r = c.from_residual-in_err-print_end in
    let stream = g.W.Sink.stream in
    let P : Tally → Type 0 = λ (t : Tally). StopsShort (stream c.print_containers.new.out) (stream c.print_end.new.out) c.print_containers.new.page.items (end_text me.form found t) in
    let whole : IsWhole me.form me.path.now me.bytes.now other found (head_text me.form me.path.now me.bytes.now other found ++ (w.0 ++ rest)) (total w.1 (length found.errors) (length found.notes)) =
    record { containers = w.0; tally = w.1; walked = w.2; printed = refl; counted = refl } in (
      head_text me.form me.path.now me.bytes.now other found ++ (w.0 ++ rest),
      total w.1 (length found.errors) (length found.notes),
      whole,
      Sends-short _ r.result _ r.ensures.1 (StopsShort-then c.in_ok-print_head.ensures (StopsShort-then w.3 (subst P w.4 c.in_err-print_end.ensures))),
      no_value _ _ r.result r.ensures.1,
    )

pub returns : goal.returns
returns g c =
    let me = c.args.self in
    let other = option_map data_file_seen me.data_file in
    let found = shown_seen c.args.found in
    let w = c.in_ok-tally.ensures in
    let rest = end_text me.form found w.1 in
    let stream = g.W.Sink.stream in
    let P : Tally → Type 0 = λ (t : Tally). Prints (stream c.print_containers.new.out) (stream c.print_end.new.out) c.print_containers.new.page.items c.print_end.new.page.items (end_text me.form found t) in
    let whole : IsWhole me.form me.path.now me.bytes.now other found (head_text me.form me.path.now me.bytes.now other found ++ (w.0 ++ rest)) (total w.1 (length found.errors) (length found.notes)) =
    record { containers = w.0; tally = w.1; walked = w.2; printed = refl; counted = refl } in (
      head_text me.form me.path.now me.bytes.now other found ++ (w.0 ++ rest),
      total w.1 (length found.errors) (length found.notes),
      whole,
      Prints-then c.in_ok-print_head.ensures (Prints-then w.3 (subst P w.4 c.in_ok-print_end.ensures)),
      c.total.ensures ∙ ap (λ t. total t (length found.errors) (length found.notes)) w.4,
    )
