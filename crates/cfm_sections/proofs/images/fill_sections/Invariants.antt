use Rattle.std.proofs.Common.{◌≡◌, ◌-◌, ◌<◌, ◌≤◌, ℕ, Some, length}
use Rattle.cfm_memory.specs.Extents.{AreHeld, given_back, place_at}
use Rattle.cfm_memory.specs.Instances.{bytes_at}
use Rattle.pef_views.specs.Views.{contained}
use Rattle.pef_words.specs.Refusals.{first_among}
use Rattle.cfm_sections.specs.Begun.{placed_at}
use Rattle.cfm_sections.specs.Images.{filled_at, first_image_refusal, image_refusal}
use Rattle.cfm_sections.proofs.images.fill_sections.Given as goal

abbrev pub invariant-loop-k : goal.invariant-loop-k
invariant-loop-k l = record {
  left : first_among (image_refusal (contained l.container)) l.k (length l.places - l.k) ≡ first_image_refusal (contained l.container) (length l.places);
  filled : (j : ℕ) → j < l.k → j < length l.places → bytes_at l.memory.instances (place_at l.places j).address ≡ Some (filled_at (contained l.container) j);
  first : (j : ℕ) → l.k ≤ j → j < length l.places → bytes_at l.memory.instances (place_at l.places j).address ≡ Some (placed_at (contained l.container) j);
  others : given_back l.memory l.places ≡ given_back l.fn.memory l.places;
  held : AreHeld l.fn.memory l.places → AreHeld l.memory l.places;
}
