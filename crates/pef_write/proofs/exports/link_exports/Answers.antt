-- The container is read back.
use Rattle.std.proofs.Common.{◌∙◌, [], map, ap, arith}
use Rattle.pef_format.specs.Exports.{export_seen}
use Rattle.pef_write.specs.Containers.{written_container}
use Rattle.pef_write.specs.ExportContainers.{exports_container}
use Rattle.pef_write.proofs.NumberedLemmas.{exported}
use Rattle.pef_write.proofs.exports.link_exports.Goals as goal

pub returns-clause-read : goal.returns-clause-read
unfolding exports_container
returns-clause-read c =
    exported (map export_seen c.args.exports.now) c.requires c.args.versions c.in_ok-write_container.field-0.items
    (record { current = omega arith; old_def = omega arith; old_imp = omega arith })
    (c.in_ok-write_container.ensures ∙ ap (written_container c.args.versions []) (c.deref.ensures.value ∙ c.in_ok-loader.ensures))
