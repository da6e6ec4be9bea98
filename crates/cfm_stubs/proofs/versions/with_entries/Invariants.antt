-- The entries so far, and those that are left, are all entries of the fragment.
use Rattle.std.proofs.Common.{◌≡◌, ◌-◌}
use Rattle.std.specs.Prelude.{fold}
use Rattle.pef_loader.specs.Views.{loaded}
use Rattle.cfm_stubs.specs.Versions.{entries_in, noted, own_entries}
use Rattle.cfm_stubs.proofs.versions.with_entries.Given as goal

abbrev pub invariant-loop-k : goal.invariant-loop-k
invariant-loop-k l = fold noted l.served (own_entries (loaded l.loader) l.library l.k ((loaded l.loader).header.library_count - l.k)) ≡ fold noted l.fn.found (entries_in l.library (loaded l.loader))
