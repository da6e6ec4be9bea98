-- The part listed and the part left make the whole.
use Rattle.std.proofs.Common.{◌≡◌, ◌++◌, ◌-◌, drop, length, map}
use Rattle.pef_script.specs.Script.{export_names}
use Rattle.pef_write.proofs.ExportNames.{joined}
use Rattle.pef_write.proofs.export_table.export_table.Given as goal

abbrev pub invariant-exports : goal.invariant-exports
invariant-exports l = record {
  names : l.names.items ++ joined (drop l.k (export_names l.script)) ≡ joined (export_names l.script);
  lengths : l.lengths.items ++ map length (drop l.k (export_names l.script)) ≡ map length (export_names l.script);
}

abbrev pub decreases-exports : goal.decreases-exports
decreases-exports l = length l.script.exports - l.k
