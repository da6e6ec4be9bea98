-- The files of the sections of prepared fragments: each gets the section's bytes of memory.
use Rattle.std.specs.Prelude.{ℕ, ◌+◌, ◌++◌, List, [], ◌∷◌, unwrap_or}
use Rattle.cfm_memory.specs.Instances.{Layout, bytes_at}
use Rattle.cfm_memory.specs.declared.place.Place.{Place}
use Rattle.cfm_prepare.specs.Contexts.{ContextState}
use Rattle.cfm_prepare.specs.Fragments.{places_of}
use Rattle.cfm_store.specs.Stores.{name_at}
use Rattle.cfm_files.specs.Paths.{section_path}
use Rattle.cfm_files.specs.Writing.{FileIs}
use Rattle.cfm_files.specs.declared.sections.SectionFile.{SectionFile}

-- the name of the fragment in a place of the store
abbrev pub fragment_name : ContextState → ℕ → List ℕ
fragment_name s p = unwrap_or (name_at s.pairs p) []

-- section i of a fragment with a name, which has a place in memory
abbrev pub section_file : Layout → List ℕ → List ℕ → ℕ → Place → FileIs
section_file m folder fragment i place = record { path = section_path folder fragment i; bytes = unwrap_or (bytes_at m.instances place.address) [] }

-- its sections from number i on, which have some places
abbrev pub files_from : Layout → List ℕ → List ℕ → ℕ → List Place → List FileIs
files_from m folder fragment i [] = []
files_from m folder fragment i (place ∷ places) = section_file m folder fragment i place ∷ files_from m folder fragment (i + 1) places

-- all sections of the fragment in a place of the store
abbrev pub fragment_files : ContextState → List ℕ → ℕ → List FileIs
fragment_files s folder p = files_from s.memory folder (fragment_name s p) 0 (places_of s.present p)

-- those of several fragments
abbrev pub section_files : ContextState → List ℕ → List ℕ → List FileIs
section_files s folder [] = []
section_files s folder (p ∷ order) = fragment_files s folder p ++ section_files s folder order

-- a file, without places in memory
abbrev pub file_seen : SectionFile → FileIs
file_seen file = record { path = file.path.items; bytes = file.bytes.now }
