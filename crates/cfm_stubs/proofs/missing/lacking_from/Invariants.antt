-- The libraries so far, with the entries of the fragments that are left, are all that are lacking.
use Rattle.std.proofs.Common.{◌≡◌, drop, map}
use Rattle.std.specs.Prelude.{fold}
use Rattle.std.specs.List.{flat_map}
use Rattle.pef_loader.specs.Views.{loaded}
use Rattle.cfm_stubs.specs.Kept.Tables.{lacking_named}
use Rattle.cfm_stubs.specs.Lacking.{all_entries, lacking_of, with_entry}
use Rattle.cfm_stubs.proofs.missing.lacking_from.Given as goal

abbrev pub invariant-loop-loader : goal.invariant-loop-loader
invariant-loop-loader l = fold (with_entry l.store) (lacking_named l.weak.entries) (flat_map all_entries (map loaded (drop l.loader-index l.loaders))) ≡ lacking_of l.store (map loaded l.loaders)
