-- The stubs so far, and those that are left, are all. There is no reason against those so far.
use Rattle.std.proofs.Common.{◌≡◌, ◌≤◌, ◌^◌, ◌++◌, drop, map}
use Rattle.std.specs.Borrow.{Bor}
use Rattle.std.specs.List.{AllByRecursion}
use Rattle.std.specs.Prelude.{List, ℕ}
use Rattle.pef_loader.specs.Views.{loaded}
use Rattle.cfm_stubs.specs.NumberStubs.{IsReadStub, number_refusals, number_stubs}
use Rattle.cfm_stubs.proofs.several.number_stubs.Given as goal

abbrev pub invariant-loop-name : goal.invariant-loop-name
invariant-loop-name l = record {
  all : l.made.items ++ number_stubs (map loaded l.loaders) l.next l.step (map (λ (name : Bor (List ℕ)). name.now) (drop l.name-index l.names)) ≡ number_stubs (map loaded l.loaders) l.first l.step (map (λ (name : Bor (List ℕ)). name.now) l.names);
  each : AllByRecursion (IsReadStub (map loaded l.loaders)) l.made.items;
  refusals : number_refusals (map loaded l.loaders) l.next l.step (map (λ (name : Bor (List ℕ)). name.now) (drop l.name-index l.names)) ≡ number_refusals (map loaded l.loaders) l.first l.step (map (λ (name : Bor (List ℕ)). name.now) l.names);
  small : l.next ≤ 2 ^ 47;
}
