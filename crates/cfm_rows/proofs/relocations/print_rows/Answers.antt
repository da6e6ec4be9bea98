-- Each relocation header sends its object.
use Rattle.std.proofs.Common.{◌≡◌, ◌<◌, ◌≤◌, ◌==◌, ◌-◌, ap, arith}
use Rattle.pef_loader.specs.Views.{loaded}
use Rattle.pef_ports.proofs.Laws.Sending.{Sends-short, same_printed, same_short, sent-all, sent-nothing, sent-piece, sent-short}
use Rattle.cfm_rows.specs.Relocations.{relocation_elements, relocation_row}
use Rattle.cfm_rows.proofs.RelocationLemmas.{relocations-more, relocations-none}
use Rattle.cfm_rows.proofs.relocations.print_rows.Goals as goal

pub loop-k-init : goal.loop-k-init
loop-k-init g c =
    let l = loaded c.args.loader.now in
    let all : l.header.reloc_count - 0 ≡ l.header.reloc_count = omega arith in
    rw all (sent-nothing (g.W.Sink.stream c.args.out.now) c.args.page.now.items (relocation_elements l 0 l.header.reloc_count))

pub loop-k-preserved : goal.loop-k-preserved
loop-k-preserved g c =
    let l = loaded c.args.loader.now in
    let k = c.loop-k.k in
    let under : k < l.header.reloc_count = omega (arith, c.loop-k-test.true, c.relocs-k-end.ensures.count) in
    let row = ap (relocation_row (k == 0)) c.reloc.ensures.value in
    sent-piece _ c.loop-k.invariant (relocations-more l k l.header.reloc_count under) (same_printed row c.in_ok-print_row.ensures)

pub returns-in_err-print_row : goal.returns-in_err-print_row
returns-in_err-print_row g c =
    let l = loaded c.args.loader.now in
    let k = c.loop-k.k in
    let under : k < l.header.reloc_count = omega (arith, c.loop-k-test.true, c.relocs-k-end.ensures.count) in
    let row = ap (relocation_row (k == 0)) c.reloc.ensures.value in
    Sends-short _ c.from_residual.result _ c.from_residual.ensures.1 (sent-short _ c.loop-k.invariant (relocations-more l k l.header.reloc_count under) (same_short row c.in_err-print_row.ensures))

pub returns : goal.returns
returns g c =
    let l = loaded c.args.loader.now in
    let past : l.header.reloc_count ≤ c.loop-k.k = omega (arith, c.loop-k-test.false, c.relocs-k-end.ensures.count) in
    sent-all c.loop-k.invariant (relocations-none l c.loop-k.k l.header.reloc_count past)
