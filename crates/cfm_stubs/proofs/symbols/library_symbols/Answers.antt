-- The symbols of one more fragment are there, and at the end those of all.
use Rattle.std.proofs.Common.{◌∙◌, ◌+◌, ◌<◌, drop, length, map, ap, sym, arith}
use Rattle.std.specs.Prelude.{fold}
use Rattle.std.specs.List.{flat_map}
use Rattle.pef_loader.specs.Views.{loaded}
use Rattle.cfm_stubs.specs.Kept.Tables.{symbols_in}
use Rattle.cfm_stubs.specs.Symbols.{imports_from, with_symbol}
use Rattle.cfm_stubs.proofs.FoldLemmas.{fold-parts}
use Rattle.cfm_stubs.proofs.symbols.library_symbols.Goals as goal

pub loop-loader-preserved : goal.loop-loader-preserved
loop-loader-preserved c =
    let parts = imports_from c.args.library.now in
    let i = c.loop-loader.loader-index in
    let under : i < length c.args.loaders.now = omega arith in
    ap (λ symbols. fold with_symbol symbols (flat_map parts (map loaded (drop (i + 1) c.args.loaders.now)))) c.in_ok-add_imports.ensures
    ∙ sym (fold-parts with_symbol parts loaded (symbols_in c.loop-loader.classes.entries) c.args.loaders.now i c.loader-item.result under c.loader-item.is)
    ∙ c.loop-loader.invariant
