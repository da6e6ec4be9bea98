-- The part written and the part left make the whole.
use Rattle.std.proofs.Common.{◌≡◌, ◌++◌, ◌-◌, drop, length, map}
use Rattle.pef_script.specs.Script.{DescribedLibrary}
use Rattle.pef_write.specs.Fields.{spelled}
use Rattle.pef_write.specs.Linked.{libraries_from}
use Rattle.pef_write.specs.Loaders.{library_fields, zero_ended}
use Rattle.pef_write.proofs.Counts.{count_before}
use Rattle.pef_write.proofs.entries.put_libraries.Given as goal

abbrev pub invariant-libraries : goal.invariant-libraries
invariant-libraries l = record {
  first : l.first ≡ count_before l.k l.script.imports;
  names : l.strings.items ++ zero_ended (map (λ (library : DescribedLibrary). library.name) (drop l.k l.script.libraries))
      ≡ l.fn.strings.items ++ zero_ended (map (λ (library : DescribedLibrary). library.name) l.script.libraries);
  entries : l.out.items ++ spelled (library_fields (length l.strings.items) (libraries_from l.script.imports l.k (drop l.k l.script.libraries)))
      ≡ l.fn.out.items ++ spelled (library_fields (length l.fn.strings.items) (libraries_from l.script.imports 0 l.script.libraries));
}

abbrev pub decreases-libraries : goal.decreases-libraries
decreases-libraries l = length l.script.libraries - l.k
