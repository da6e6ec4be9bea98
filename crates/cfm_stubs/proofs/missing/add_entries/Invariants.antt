-- The libraries so far, with the entries that are left, are those with all entries.
use Rattle.std.proofs.Common.{◌≡◌, ◌-◌}
use Rattle.std.specs.Prelude.{fold}
use Rattle.pef_loader.specs.Views.{loaded}
use Rattle.cfm_stubs.specs.Kept.Tables.{lacking_named}
use Rattle.cfm_stubs.specs.Lacking.{all_entries, entries_on, with_entry}
use Rattle.cfm_stubs.proofs.missing.add_entries.Given as goal

abbrev pub invariant-loop-k : goal.invariant-loop-k
invariant-loop-k l = fold (with_entry l.store) (lacking_named l.weak.entries) (entries_on (loaded l.loader) l.k ((loaded l.loader).header.library_count - l.k))
    ≡ fold (with_entry l.store) (lacking_named l.fn.weak.entries) (all_entries (loaded l.loader))
