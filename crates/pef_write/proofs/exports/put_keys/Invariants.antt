-- The part written and the part left make the whole.
use Rattle.std.proofs.Common.{◌≡◌, ◌++◌, drop, map}
use Rattle.pef_format.specs.Exports.{export_seen}
use Rattle.pef_write.specs.declared.field.Field.TheVariants.{Word}
use Rattle.pef_write.specs.Fields.{spelled}
use Rattle.pef_write.proofs.NumberedLemmas.{keys_of}
use Rattle.pef_write.proofs.exports.put_keys.Given as goal

abbrev pub invariant-loop-export : goal.invariant-loop-export
invariant-loop-export l = l.out.items ++ spelled (map Word (keys_of (map export_seen (drop l.export-index l.exports)))) ≡ l.fn.out.items ++ spelled (map Word (keys_of (map export_seen l.exports)))
