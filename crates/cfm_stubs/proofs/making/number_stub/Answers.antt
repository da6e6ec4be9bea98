-- The exports are some that a container can have.
use Rattle.std.proofs.Common.{◌≡◌, ◌∙◌, None, map, ap, subst, sym}
use Rattle.pef_format.specs.Exports.{export_seen}
use Rattle.pef_loader.specs.Views.{loaded}
use Rattle.pef_write.specs.ExportContainers.{NumbersFit}
use Rattle.cfm_stubs.specs.NumberStubs.{number_exports, number_refusal}
use Rattle.cfm_stubs.specs.Stubs.{exports_from, stub_refusal}
use Rattle.cfm_stubs.proofs.FittingLemmas.{numbers-fit}
use Rattle.cfm_stubs.proofs.making.number_stub.Goals as goal

pub link_exports-requires : goal.link_exports-requires
link_exports-requires c =
    let loaders = map loaded c.args.loaders.now in
    let library = c.args.library.now in
    let same : map export_seen c.deref.result.now ≡ number_exports loaders c.args.first c.args.step library = ap (map export_seen) c.deref.ensures.value ∙ c.in_ok-exports.ensures.0 ∙ ap (exports_from c.args.first c.args.step) c.in_ok-symbols.ensures in
    let none : number_refusal loaders c.args.first c.args.step library ≡ None = ap (stub_refusal c.args.first c.args.step) (sym c.in_ok-symbols.ensures) ∙ c.in_ok-exports.ensures.1 in
    subst NumbersFit (sym same) (numbers-fit c.args.first c.args.step loaders library none)
