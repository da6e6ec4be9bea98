-- What `pef_container_place` returns and writes.
use Rattle.std.specs.Prelude.{◌≡◌, ◌==◌, ℕ, List, None, Ok, Err, MatchBool}
use Rattle.pef_faults.specs.Places.{fault_place}
use Rattle.pef_faults.specs.declared.fault.Fault.TheVariants.{Listing}
use Rattle.pef_listing.specs.Faults.{fault_number}
use Rattle.pef_listing.specs.Listed.{Parts, listed_of}
use Rattle.pef_listing.specs.declared.fault.ListFault.{ListFault}
use Rattle.pef_records.specs.declared.structs.PefPlace.{PefPlace}
use Rattle.pef_records.specs.Places.{place_or_nowhere}

-- 0, and no place, if a container can be listed; or its first error and the place of that
abbrev pub ContainerPlaces : List ℕ → PefPlace → ℕ → Type 0
ContainerPlaces bytes place answer =
    MatchBool (answer == 0) ((p : Parts) × (listed_of bytes ≡ Ok p) × (place ≡ place_or_nowhere None))
    ((fault : ListFault) × (listed_of bytes ≡ Err fault) × (answer ≡ fault_number fault) × (place ≡ place_or_nowhere (fault_place (Listing fault))))
