-- The symbol of one more import is there.
use Rattle.std.proofs.Common.{◌∙◌, ◌+◌, ◌-◌, ◌<◌, ap, sym, arith}
use Rattle.std.specs.Prelude.{fold}
use Rattle.pef_loader.specs.Views.{loaded}
use Rattle.cfm_stubs.specs.Kept.Tables.{symbols_in}
use Rattle.cfm_stubs.specs.Symbols.{own_import, own_imports, with_symbol}
use Rattle.cfm_stubs.proofs.SymbolLemmas.{imports-next}
use Rattle.cfm_stubs.proofs.symbols.add_imports.Goals as goal

pub loop-j-preserved : goal.loop-j-preserved
loop-j-preserved c =
    let l = loaded c.args.loader.now in
    let library = c.args.library.now in
    let n = l.header.import_count in
    let j = c.loop-j.j in
    let before = symbols_in c.loop-j.classes.entries in
    let under : j < n = omega (arith, c.imports-j-end.ensures.count) in
    ap (λ symbols. fold with_symbol symbols (own_imports l library (j + 1) (n - (j + 1)))) (c.in_ok-add_import.ensures ∙ ap (λ o. fold with_symbol before (own_import l library o)) c.import.ensures.value)
    ∙ sym (imports-next before l library n j under)
    ∙ c.loop-j.invariant
