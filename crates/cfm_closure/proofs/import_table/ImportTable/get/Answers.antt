-- The table has each import at its index.
use Rattle.std.proofs.Common.{◌≡◌, ◌∙◌, ap, sym, subst, arith}
use Rattle.std.proofs.lemmas.Option.{slice_get_past, slice_get_read}
use Rattle.std.specs.Prelude.{slice_get}
use Rattle.pef_loader.specs.Views.{loaded}
use Rattle.cfm_closure.proofs.ImportLemmas.{IsImport, import_is}
use Rattle.cfm_closure.proofs.import_table.ImportTable.get.Goals as goal

found : (c : goal.After-copied) → IsImport (loaded c.self.inside.loader) c.args.j c.copied.result
found c =
    let there : slice_get c.deref.result.now c.args.j ≡ c.copied.result = grind (arith, slice_get_read, slice_get_past) in
    let is : slice_get c.self.inside.imports.items c.args.j ≡ c.copied.result = ap (λ xs. slice_get xs c.args.j) (sym c.deref.ensures.value) ∙ there in
    subst (IsImport (loaded c.self.inside.loader) c.args.j) is (import_is (loaded c.self.inside.loader) c.self.inside.imports.items c.args.j c.self.inside.read c.self.inside.all)

pub returns-clause-value : goal.returns-clause-value
returns-clause-value c = rw (← c.self.view_is) (found c).value

pub returns-clause-library : goal.returns-clause-library
returns-clause-library c = rw (← c.self.view_is) (found c).library
