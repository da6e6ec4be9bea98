-- The rest of the visit stays the same.
use Rattle.std.proofs.Common.{◌≡◌, ℕ, ◌-◌}
use Rattle.pef_loader.specs.Views.{loaded}
use Rattle.cfm_closure.specs.Kept.Searches.{AreSought, rest_of_visit, sought_of}
use Rattle.cfm_closure.proofs.search.Search.search_on.Given as goal

abbrev pub invariant-loop-library : goal.invariant-loop-library
invariant-loop-library l = record {
  tables : AreSought l.store l.self.fragments l.self.marked.items;
  marked : l.self.marked ≡ l.fn.self.marked;
  path : l.self.path ≡ l.fn.self.path;
  rest : (n : ℕ) → rest_of_visit n l.store l.fn.visit (sought_of l.fn.self) ≡ rest_of_visit n l.store l.visit (sought_of l.self);
}

abbrev pub decreases-loop-library : goal.decreases-loop-library
decreases-loop-library l = (loaded l.visit.loader).header.library_count - l.visit.next
