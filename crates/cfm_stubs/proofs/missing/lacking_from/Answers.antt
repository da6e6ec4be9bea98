-- The entries of one more fragment are there.
use Rattle.std.proofs.Common.{◌∙◌, ◌+◌, ◌<◌, drop, length, map, ap, sym, arith}
use Rattle.std.specs.Prelude.{fold}
use Rattle.std.specs.List.{flat_map}
use Rattle.pef_loader.specs.Views.{loaded}
use Rattle.cfm_stubs.specs.Kept.Tables.{lacking_named}
use Rattle.cfm_stubs.specs.Lacking.{all_entries, with_entry}
use Rattle.cfm_stubs.proofs.FoldLemmas.{fold-parts}
use Rattle.cfm_stubs.proofs.missing.lacking_from.Goals as goal

pub loop-loader-preserved : goal.loop-loader-preserved
loop-loader-preserved c =
    let step = with_entry c.args.store.now in
    let i = c.loop-loader.loader-index in
    let under : i < length c.args.loaders.now = omega arith in
    ap (λ found. fold step found (flat_map all_entries (map loaded (drop (i + 1) c.args.loaders.now)))) c.in_ok-add_entries.ensures
    ∙ sym (fold-parts step all_entries loaded (lacking_named c.loop-loader.weak.entries) c.args.loaders.now i c.loader-item.result under c.loader-item.is)
    ∙ c.loop-loader.invariant
