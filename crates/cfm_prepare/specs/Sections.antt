-- The sections of fragments that are present: where they lie, and their bytes (Mac OS Runtime
-- Architectures, "Code Fragment Manager", "Preparing a Fragment").
use Rattle.std.specs.Prelude.{ℕ, List, [], Option, map, option_map, slice_get}
use Rattle.std.specs.Borrow.{Bor}
use Rattle.std.specs.Option.{option_and_then, option_map_or}
use Rattle.cfm_memory.specs.Instances.{Layout, bytes_at}
use Rattle.cfm_memory.specs.declared.place.Place.{Place}
use Rattle.cfm_prepare.specs.Fragments.{Present, places_of}
use Rattle.cfm_prepare.specs.declared.sections.Sections.{Sections}

-- the instance at a place: its address and its bytes
abbrev pub held_at : Layout → Place → Option (ℕ × List ℕ)
held_at m p = option_map (λ bytes. (p.address, bytes)) (bytes_at m.instances p.address)

-- section i of the fragment in a place of the store; none if the fragment isn't present
abbrev pub section_present : Layout → List Present → ℕ → ℕ → Option (ℕ × List ℕ)
section_present m all p i = option_and_then (held_at m) (slice_get (places_of all p) i)

-- the value of borrowed bytes, without places in memory
abbrev pub section_seen : ℕ × Bor (List ℕ) → ℕ × List ℕ
section_seen s = (s.0, s.1.now)

-- the sections at some places, in order: the address and the bytes of each
abbrev pub sections_at : Layout → List Place → List (ℕ × List ℕ)
sections_at m places = map (λ p. (p.address, option_map_or (λ bytes. bytes) (bytes_at m.instances p.address) [])) places

-- the sections that an iterator has before it
abbrev pub sections_left : Sections → List (ℕ × List ℕ)
sections_left walk = sections_at walk.memory.now walk.places.now
