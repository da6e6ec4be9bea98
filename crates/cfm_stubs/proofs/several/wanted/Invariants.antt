-- The names so far, and those that are left, are all.
use Rattle.std.proofs.Common.{◌≡◌, ◌++◌, drop, map}
use Rattle.std.specs.Borrow.{Bor}
use Rattle.std.specs.Prelude.{List, ℕ}
use Rattle.cfm_stubs.specs.Lacking.{wanted}
use Rattle.cfm_stubs.specs.Views.{lacking_seen}
use Rattle.cfm_stubs.proofs.several.wanted.Given as goal

abbrev pub invariant-loop-library : goal.invariant-loop-library
invariant-loop-library l = map (λ (name : Bor (List ℕ)). name.now) l.names.items ++ wanted l.weak (map lacking_seen (drop l.library-index l.lacking)) ≡ wanted l.weak (map lacking_seen l.lacking)
