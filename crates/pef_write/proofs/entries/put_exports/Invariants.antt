-- The part written and the part left make the whole.
use Rattle.std.proofs.Common.{◌≡◌, ◌++◌, drop, length}
use Rattle.std.specs.List.{flat_map}
use Rattle.pef_format.specs.Exports.{Export}
use Rattle.pef_write.specs.Fields.{spelled}
use Rattle.pef_write.specs.Linked.{exports_at}
use Rattle.pef_write.specs.Loaders.{export_fields}
use Rattle.pef_write.proofs.entries.put_exports.Given as goal

abbrev pub invariant-loop-place : goal.invariant-loop-place
invariant-loop-place l = record {
  names : l.strings.items ++ flat_map (λ (e : Export). e.name) (exports_at l.script.exports (drop l.place-index l.order))
      ≡ l.fn.strings.items ++ flat_map (λ (e : Export). e.name) (exports_at l.script.exports l.order);
  entries : l.out.items ++ spelled (export_fields (length l.strings.items) (exports_at l.script.exports (drop l.place-index l.order)))
      ≡ l.fn.out.items ++ spelled (export_fields (length l.fn.strings.items) (exports_at l.script.exports l.order));
}
