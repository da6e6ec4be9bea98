-- The imports that are left decide.
use Rattle.std.proofs.Common.{◌≡◌, ◌-◌}
use Rattle.pef_words.specs.Refusals.{first_among}
use Rattle.pef_loader.specs.ImportNames.{import_named_at}
use Rattle.pef_loader.specs.Views.{loaded}
use Rattle.pef_loader.proofs.import_names.import_named.Given as goal

abbrev pub invariant-loop-j : goal.invariant-loop-j
invariant-loop-j l = record {
  same : l.reader.loader ≡ l.loader;
  left : first_among (import_named_at (loaded l.loader) l.name) l.j ((loaded l.loader).header.import_count - l.j)
      ≡ first_among (import_named_at (loaded l.loader) l.name) 0 (loaded l.loader).header.import_count;
}
