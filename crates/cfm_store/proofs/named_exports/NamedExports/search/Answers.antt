-- The row that is read is that of the export that was found.
use Rattle.std.proofs.Common.{sym}
use Rattle.pef_format.specs.Exports.{export_seen}
use Rattle.pef_loader.specs.Views.{loaded}
use Rattle.cfm_store.proofs.NameLemmas.{means-row}
use Rattle.cfm_store.proofs.named_exports.NamedExports.search.Goals as goal

pub returns : goal.returns
returns c =
    rw (← c.self.view_is) (means-row (loaded c.self.inside.loader) c.args.name.now c.in_ok-export.export (export_seen c.in_ok-export-2.export) c.value.result c.self.inside.loader.accepted
    (sym c.in_ok-export.ensures.value) (sym c.in_ok-export-2.ensures.value) c.value.ensures)
