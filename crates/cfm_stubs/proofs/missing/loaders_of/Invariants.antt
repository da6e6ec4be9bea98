-- The loader sections so far, and those that are left, are all.
use Rattle.std.proofs.Common.{◌≡◌, ◌-◌, ◌++◌, length, map}
use Rattle.pef_loader.specs.Views.{loaded}
use Rattle.cfm_stubs.specs.Lacking.{loaders_from}
use Rattle.cfm_stubs.proofs.missing.loaders_of.Given as goal

abbrev pub invariant-loop-p : goal.invariant-loop-p
invariant-loop-p l = map loaded l.loaders.items ++ loaders_from l.store l.p (length l.store - l.p) ≡ loaders_from l.store 0 (length l.store)
