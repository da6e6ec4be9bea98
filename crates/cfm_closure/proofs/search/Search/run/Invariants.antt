-- The rest of the path stays the same.
use Rattle.std.proofs.Common.{◌≡◌, length}
use Rattle.cfm_closure.specs.Kept.Searches.{IsSearch, rest_of_visits, searches_left, sought_of}
use Rattle.cfm_closure.proofs.search.Search.run.Given as goal

abbrev pub invariant-loop-visit : goal.invariant-loop-visit
invariant-loop-visit l = record {
  search : IsSearch l.store l.self;
  rest : rest_of_visits (length l.store) l.store l.fn.self.path.items (sought_of l.fn.self) ≡ rest_of_visits (length l.store) l.store l.self.path.items (sought_of l.self);
}

abbrev pub decreases-loop-visit : goal.decreases-loop-visit
decreases-loop-visit l = searches_left l.self
