-- The sections of a fragment, one after the other.
use Rattle.std.proofs.Common.{◌≡◌, ◌+◌, ◌==◌, ◌<◌, ℕ, zero, suc, List, [], ◌∷◌, ◌++◌, Option, None, Some, drop, get_or, length, option_map, slice_get, unwrap_or, ap, sym, ◌∙◌, arith}
use Rattle.std.specs.Option.{option_and_then}
use Rattle.std.proofs.lemmas.List.{at_drop_more}
use Rattle.cfm_memory.specs.Instances.{Layout, bytes_at}
use Rattle.cfm_memory.specs.declared.place.Place.{Place}
use Rattle.cfm_prepare.specs.Contexts.{ContextState}
use Rattle.cfm_prepare.specs.Sections.{held_at}
use Rattle.pef_rows.specs.Objects.{separator}
use Rattle.cfm_files.specs.Sections.{fragment_name}
use Rattle.cfm_rows.specs.Sections.{BytesShown, header_in, section_elements, section_object}

-- the address and the bytes of a section that has a place
abbrev section_at : Layout → Place → ℕ × List ℕ
section_at m place = (place.address, unwrap_or (bytes_at m.instances place.address) [])

-- those of a section that is found, or nothing
abbrev known : Option (ℕ × List ℕ) → ℕ × List ℕ
known o = unwrap_or o (0, [])

held-one : (p : Place) (o : Option (List ℕ)) (x : ℕ × List ℕ) → ◌≡◌ {A = Option (ℕ × List ℕ)} (Some x) (option_map (λ b. (p.address, b)) o) → ◌≡◌ {A = ℕ × List ℕ} (p.address, unwrap_or o []) x
held-one p None x same = absurd (cc)
held-one p (Some b) x same = sym (ap known same)

-- a section that is found is the one at its index
held-section : (m : Layout) (places : List Place) (i : ℕ) (d : Place) (x : ℕ × List ℕ) → i < length places → ◌≡◌ {A = Option (ℕ × List ℕ)} (Some x) (option_and_then (held_at m) (slice_get places i)) → section_at m (get_or places i d) ≡ x
held-section m [] i d x under found = absurd (omega (arith, under))
held-section m (p ∷ places) zero d x under found = held-one p (bytes_at m.instances p.address) x found
held-section m (p ∷ places) (suc i) d x under found = held-section m places i d x (omega (arith, under)) found

abbrev nowhere : Place
nowhere = record { address = 0; size = 0 }

-- section i comes before those after it
pub sections-more : (s : ContextState) (number p : ℕ) (shown : BytesShown) (places : List Place) (i : ℕ) (x : ℕ × List ℕ) → i < length places
    → ◌≡◌ {A = Option (ℕ × List ℕ)} (Some x) (option_and_then (held_at s.memory) (slice_get places i))
    → section_elements s number p shown i (drop i places)
    ≡ (separator (i == 0) ++ section_object (fragment_name s p) i (header_in s number p i) x.0 x.1 shown) ++ section_elements s number p shown (i + 1) (drop (i + 1) places)
sections-more s number p shown places i x under found =
    let rest = section_elements s number p shown (i + 1) (drop (i + 1) places) in
    at_drop_more (section_elements s number p shown i) places i nowhere under
    ∙ ap (λ (y : ℕ × List ℕ). (separator (i == 0) ++ section_object (fragment_name s p) i (header_in s number p i) y.0 y.1 shown) ++ rest) (held-section s.memory places i nowhere x under found)
