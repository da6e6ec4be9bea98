-- The part written and the part left make the whole.
use Rattle.std.proofs.Common.{◌≡◌, ◌++◌, drop}
use Rattle.pef_write.specs.Fields.{spelled}
use Rattle.pef_write.proofs.field.put_fields.Given as goal

abbrev pub invariant-loop-field : goal.invariant-loop-field
invariant-loop-field l = l.out.items ++ spelled (drop l.field-index l.fields) ≡ l.fn.out.items ++ spelled l.fields
