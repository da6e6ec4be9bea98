-- The entries of one more fragment are served, and at the end those of all.
use Rattle.std.proofs.Common.{◌∙◌, ◌+◌, ◌<◌, drop, length, map, ap, sym, arith}
use Rattle.std.specs.Prelude.{fold}
use Rattle.std.specs.List.{flat_map}
use Rattle.pef_loader.specs.Views.{loaded}
use Rattle.cfm_stubs.specs.Versions.{entries_in, noted}
use Rattle.cfm_stubs.proofs.FoldLemmas.{fold-parts}
use Rattle.cfm_stubs.proofs.versions.library_versions.Goals as goal

pub loop-loader-preserved : goal.loop-loader-preserved
loop-loader-preserved c =
    let parts = entries_in c.args.library.now in
    let i = c.loop-loader.loader-index in
    let under : i < length c.args.loaders.now = omega arith in
    ap (λ found. fold noted found (flat_map parts (map loaded (drop (i + 1) c.args.loaders.now)))) c.with_entries-found.ensures
    ∙ sym (fold-parts noted parts loaded c.loop-loader.found c.args.loaders.now i c.loader-item.result under c.loader-item.is)
    ∙ c.loop-loader.invariant
