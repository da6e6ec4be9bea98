-- The files of the sections of a fragment, one after the other.
use Rattle.std.proofs.Common.{◌≡◌, ◌+◌, ◌<◌, ℕ, zero, suc, List, [], ◌∷◌, ◌++◌, Option, None, Some, drop, get_or, length, map, option_map, slice_get, unwrap_or, ap, refl, sym, ◌∙◌, arith}
use Rattle.std.specs.Option.{option_and_then}
use Rattle.std.proofs.lemmas.List.{at_drop_more}
use Rattle.cfm_memory.specs.Instances.{Layout, bytes_at}
use Rattle.cfm_memory.specs.declared.place.Place.{Place}
use Rattle.cfm_prepare.specs.Sections.{held_at}
use Rattle.cfm_files.specs.Paths.{section_path}
use Rattle.cfm_files.specs.Sections.{files_from}
use Rattle.cfm_files.specs.Writing.{FileIs}

-- one file more, before others
pub added : {A : Type 0} (seen : A → FileIs) (xs : List A) (x : A) (rest : List FileIs) → map seen (xs ++ x ∷ []) ++ rest ≡ map seen xs ++ seen x ∷ rest
added seen [] x rest = refl
added seen (y ∷ xs) x rest = ap (λ (more : List FileIs). seen y ∷ more) (added seen xs x rest)

-- the bytes of a section that is found, or none
abbrev known : Option (ℕ × List ℕ) → List ℕ
known o = (unwrap_or o (0, [])).1

held-one : (p : Place) (o : Option (List ℕ)) (x : ℕ × List ℕ) → ◌≡◌ {A = Option (ℕ × List ℕ)} (Some x) (option_map (λ b. (p.address, b)) o) → unwrap_or o [] ≡ x.1
held-one p None x same = absurd (cc)
held-one p (Some b) x same = sym (ap known same)

-- the bytes of a section that is found are those at its index
held-bytes : (m : Layout) (places : List Place) (i : ℕ) (d : Place) (x : ℕ × List ℕ) → i < length places → ◌≡◌ {A = Option (ℕ × List ℕ)} (Some x) (option_and_then (held_at m) (slice_get places i))
    → unwrap_or (bytes_at m.instances (get_or places i d).address) [] ≡ x.1
held-bytes m [] i d x under found = absurd (omega (arith, under))
held-bytes m (p ∷ places) zero d x under found = held-one p (bytes_at m.instances p.address) x found
held-bytes m (p ∷ places) (suc i) d x under found = held-bytes m places i d x (omega (arith, under)) found

abbrev nowhere : Place
nowhere = record { address = 0; size = 0 }

-- a file with the path of section i, and some bytes
abbrev pub file_with : List ℕ → List ℕ → ℕ → List ℕ → FileIs
file_with folder fragment i bytes = record { path = section_path folder fragment i; bytes = bytes }

-- section i comes before those after it
pub files-more : (m : Layout) (folder fragment : List ℕ) (places : List Place) (i : ℕ) (x : ℕ × List ℕ) → i < length places
    → ◌≡◌ {A = Option (ℕ × List ℕ)} (Some x) (option_and_then (held_at m) (slice_get places i))
    → files_from m folder fragment i (drop i places) ≡ file_with folder fragment i x.1 ∷ files_from m folder fragment (i + 1) (drop (i + 1) places)
files-more m folder fragment places i x under found =
    let rest = files_from m folder fragment (i + 1) (drop (i + 1) places) in
    at_drop_more (files_from m folder fragment i) places i nowhere under
    ∙ ap (λ (bytes : List ℕ). file_with folder fragment i bytes ∷ rest) (held-bytes m places i nowhere x under found)
