-- The part written and the part left make the whole.
use Rattle.std.proofs.Common.{◌≡◌, ◌++◌, ◌-◌, drop, length, map}
use Rattle.pef_format.specs.Symbols.{Import}
use Rattle.pef_write.specs.Fields.{spelled}
use Rattle.pef_write.specs.Loaders.{import_fields, zero_ended}
use Rattle.pef_write.proofs.entries.put_imports.Given as goal

abbrev pub invariant-imports : goal.invariant-imports
invariant-imports l = record {
  names : l.strings.items ++ zero_ended (map (λ (symbol : Import). symbol.name) (drop l.j l.script.imports))
      ≡ l.fn.strings.items ++ zero_ended (map (λ (symbol : Import). symbol.name) l.script.imports);
  entries : l.out.items ++ spelled (import_fields (length l.strings.items) (drop l.j l.script.imports))
      ≡ l.fn.out.items ++ spelled (import_fields (length l.fn.strings.items) l.script.imports);
}

abbrev pub decreases-imports : goal.decreases-imports
decreases-imports l = length l.script.imports - l.j
