use Rattle.std.proofs.Common.{◌≡◌, ◌<◌, ◌≤◌, ℕ, IsTrue, drop, length}
use Rattle.cfm_memory.specs.Extents.{given_back, place_at}
use Rattle.cfm_memory.specs.Instances.{holds_place}
use Rattle.cfm_sections.proofs.places.give_back.Given as goal

abbrev pub invariant-loop-place : goal.invariant-loop-place
invariant-loop-place l = record {
  left : given_back l.memory (drop l.place-index l.places) ≡ given_back l.fn.memory l.places;
  held : (k : ℕ) → l.place-index ≤ k → k < length l.places → IsTrue (holds_place l.memory (place_at l.places k));
}
