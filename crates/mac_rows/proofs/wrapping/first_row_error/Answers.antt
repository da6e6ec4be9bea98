-- A row that is there is passed over.
use Rattle.std.proofs.Common.{◌∙◌, ◌<◌, ap, sym, arith}
use Rattle.pef_words.proofs.Laws.Refusals.{first_among-next}
use Rattle.mac_forks.specs.declared.apple.AppleHeader.{AppleHeader}
use Rattle.mac_forks.specs.Views.{apple_seen}
use Rattle.mac_rows.specs.MacParts.{row_error_at}
use Rattle.mac_rows.proofs.wrapping.first_row_error.Goals as goal

pub loop-i-preserved : goal.loop-i-preserved
loop-i-preserved c =
    let count = ap (λ (h : AppleHeader). h.entry_count) c.header-i-end.ensures in
    let under : c.loop-i.i < (apple_seen c.args.file.now).header.entry_count = omega (arith, count) in
    sym (first_among-next (row_error_at (apple_seen c.args.file.now)) _ _ under (sym c.in-None.ensures)) ∙ c.loop-i.invariant
