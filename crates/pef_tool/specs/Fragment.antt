-- The text that is printed of a prepared fragment (README, `pef show`).
use Rattle.std.specs.Prelude.{ℕ, ◌+◌, List, [], ◌∷◌, ◌++◌, Option, None, Some, length, codes, decimal, unwrap_or}
use Rattle.cfm_memory.specs.Instances.{Layout, bytes_at}
use Rattle.cfm_memory.specs.declared.place.Place.{Place}
use Rattle.pef_ports.specs.Text.{word_text, dump_text}

-- a section at the address where it was placed, with its memory
pub record PlacedSection : Type 0 where
  pub address : ℕ
  pub bytes : List ℕ

-- the section at an index
abbrev pub placed_section : Layout → Place → PlacedSection
placed_section m place = record { address = place.address; bytes = unwrap_or (bytes_at m.instances place.address) [] }

-- the line above a section's memory
unfoldable pub heading_text : ℕ → ℕ → ℕ → List ℕ
heading_text i address size = codes "section " ++ decimal i ++ codes " at " ++ word_text address ++ codes " size " ++ decimal size ++ 10 ∷ []

-- a section: its line, then its memory
abbrev pub section_text : ℕ → PlacedSection → List ℕ
section_text i s = heading_text i s.address (length s.bytes) ++ dump_text s.address s.bytes

-- sections, numbered from a number on
abbrev pub sections_text : ℕ → List PlacedSection → List ℕ
sections_text i [] = []
sections_text i (s ∷ sections) = section_text i s ++ sections_text (i + 1) sections

-- the line of an entry point that is there
abbrev pub entry_text : List ℕ → Option ℕ → List ℕ
entry_text label None = []
entry_text label (Some address) = label ++ word_text address ++ 10 ∷ []
