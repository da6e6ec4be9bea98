-- The stubs so far are those of the names before a place.
use Rattle.std.proofs.Common.{◌≡◌, drop, map, take}
use Rattle.std.specs.Borrow.{Bor}
use Rattle.std.specs.Prelude.{List, ℕ}
use Rattle.pef_loader.specs.Views.{loaded}
use Rattle.cfm_stubs.specs.MemoryStubs.{AreMemoryStubs, memory_refusals}
use Rattle.cfm_stubs.proofs.several.memory_stubs.Given as goal

abbrev pub invariant-loop-name : goal.invariant-loop-name
invariant-loop-name l = record {
  all : AreMemoryStubs (map loaded l.loaders) l.word l.size (map (λ (name : Bor (List ℕ)). name.now) (take l.name-index l.names)) l.made.items;
  refusals : memory_refusals (map loaded l.loaders) l.size (map (λ (name : Bor (List ℕ)). name.now) (drop l.name-index l.names)) ≡ memory_refusals (map loaded l.loaders) l.size (map (λ (name : Bor (List ℕ)). name.now) l.names);
}
