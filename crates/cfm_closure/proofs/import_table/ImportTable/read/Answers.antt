-- One more import is read.
use Rattle.std.proofs.Common.{◌≡◌, ◌+◌, ◌<◌, ◌∙◌, ◌∷◌, [], Some, length, sym, ap, subst}
use Rattle.std.proofs.lemmas.List.{length-append}
use Rattle.pef_format.specs.Symbols.{import_seen}
use Rattle.pef_loader.specs.Loader.{import_of}
use Rattle.pef_loader.specs.Views.{loaded}
use Rattle.cfm_closure.specs.Kept.Imports.{AreImports}
use Rattle.cfm_closure.proofs.ImportLemmas.{imports-more}
use Rattle.cfm_closure.proofs.import_table.ImportTable.read.Goals as goal

pub loop-j-preserved : goal.loop-j-preserved
loop-j-preserved c =
    let l = loaded c.args.loader in
    let before = c.loop-j.invariant in
    let here : import_of l (length c.loop-j.imports.items) ≡ Some (import_seen c.in-Some.import) = ap (import_of l) before.all ∙ ap (λ loader. import_of (loaded loader) c.loop-j.j) (sym before.same) ∙ sym c.in-Some.ensures.value in
    let library : c.in-Some.import.library < l.header.library_count = rw (← before.same) c.in-Some.ensures.library in
    let items = c.in_ok-push.ensures.items in
    record {
      same = c.import.ensures.same ∙ before.same;
      all = ap length items ∙ length-append c.loop-j.imports.items (c.in-Some.import ∷ []) ∙ ap (λ n. n + 1) before.all;
      read = subst (AreImports l) (sym items) (imports-more l c.loop-j.imports.items c.in-Some.import before.read here library);
    }
