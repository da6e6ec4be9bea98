-- The part written and the part left make the whole.
use Rattle.std.proofs.Common.{◌≡◌, ◌++◌, drop, length, map}
use Rattle.pef_format.specs.Exports.{export_seen}
use Rattle.pef_write.specs.Fields.{spelled}
use Rattle.pef_write.specs.Loaders.{export_fields}
use Rattle.pef_write.proofs.NumberedLemmas.{names_of}
use Rattle.pef_write.proofs.exports.put_exports.Given as goal

abbrev pub invariant-loop-export : goal.invariant-loop-export
invariant-loop-export l = record {
  names : l.strings.items ++ names_of (map export_seen (drop l.export-index l.exports)) ≡ l.fn.strings.items ++ names_of (map export_seen l.exports);
  entries : l.out.items ++ spelled (export_fields (length l.strings.items) (map export_seen (drop l.export-index l.exports))) ≡ l.fn.out.items ++ spelled (export_fields (length l.fn.strings.items) (map export_seen l.exports));
}
