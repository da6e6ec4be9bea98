-- The entries of the fragments so far, and of those that are left, are all entries.
use Rattle.std.proofs.Common.{◌≡◌, None, drop, map}
use Rattle.std.specs.Prelude.{fold}
use Rattle.std.specs.List.{flat_map}
use Rattle.pef_loader.specs.Views.{loaded}
use Rattle.cfm_stubs.specs.Versions.{entries_in, entries_of, noted}
use Rattle.cfm_stubs.proofs.versions.library_versions.Given as goal

abbrev pub invariant-loop-loader : goal.invariant-loop-loader
invariant-loop-loader l = fold noted l.found (flat_map (entries_in l.library) (map loaded (drop l.loader-index l.loaders))) ≡ fold noted None (entries_of (map loaded l.loaders) l.library)
