-- Fragments without names are found by the search.
use Rattle.mac_fragments.proofs.PlaceLemmas.{alone-fragment, unnamed-fragments}
use Rattle.mac_fragments.proofs.theorems.places_are_as_extracted.Goals as goal

pub returns : goal.returns
returns c = record { unnamed = unnamed-fragments; alone = alone-fragment }
