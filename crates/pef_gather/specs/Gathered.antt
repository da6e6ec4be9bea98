-- The fragments that a preparation is made of: those of some files, each with the name that it goes by, of which the root is
-- prepared, and one for each other name.
use Rattle.std.specs.Prelude.{ℕ, ◌+◌, ◌&&◌, ◌++◌, Bool, true, false, not, List, [], ◌∷◌, Option, None, Some, Result, Ok, Err, map, slice_get, unwrap_or, if◌then◌else◌}
use Rattle.std.specs.List.{flat_map}
use Rattle.std.specs.Option.{option_to_list}
use Rattle.std.specs.Str.{bytes_eq}
use Rattle.cfm_members.specs.declared.member_lookup_fault.MemberLookupFault.{MemberLookupFault}
use Rattle.cfm_members.specs.declared.member_lookup_fault.MemberLookupFault.TheVariants.{Fork, Resource, Member, NoContainer}
use Rattle.mac_fragments.specs.Candidates.{CandidateIs}
use Rattle.mac_fragments.specs.Choices.{chosen}
use Rattle.mac_fragments.specs.Fragments.{FragmentIs, file_fragments}
use Rattle.pef_gather.specs.Names.{stem}

-- a file that was read: the name that it was given for its first fragment, its own name, its path, its bytes, those of the file
-- with its resource fork if that is another one, and whether it has libraries only
pub record Given : Type 0 where
  pub name : Option (List ℕ)
  pub file_name : List ℕ
  pub path : List ℕ
  pub bytes : List ℕ
  pub resources : Option (List ℕ)
  pub is_library : Bool

-- a fragment of a file: the name that it goes by, its usage and its bytes, and the file's path
pub record Found : Type 0 where
  pub candidate : CandidateIs
  pub path : List ℕ
  pub is_library : Bool

-- why there is nothing to prepare: the fragments of the file at a path can't be told, or no file has the root
pub data Refusal : Type 0 where
  untold : List ℕ → MemberLookupFault → Refusal
  root_missing : Refusal

-- a fragment of a file. It has the name that is given, or that of its member, or that of the file
abbrev pub found_as : Given → Option (List ℕ) → FragmentIs → Found
found_as file given f = record {
  candidate = record { name = unwrap_or given (unwrap_or f.name (stem file.file_name)); usage = f.usage; bytes = f.bytes };
  path = file.path;
  is_library = file.is_library;
}

-- the fragments of a file. A name is given to the first of them
abbrev pub found_of : Given → Option (List ℕ) → List FragmentIs → List Found
found_of file given [] = []
found_of file given (f ∷ fragments) = found_as file given f ∷ found_of file None fragments

-- a file with libraries only may have none
abbrev pub or_none : Bool → Result (List FragmentIs) MemberLookupFault → Result (List FragmentIs) MemberLookupFault
or_none true (Err NoContainer) = Ok []
or_none true (Err (Fork f)) = Err (Fork f)
or_none true (Err (Resource f)) = Err (Resource f)
or_none true (Err (Member f)) = Err (Member f)
or_none true (Ok fragments) = Ok fragments
or_none false told = told

abbrev pub fragments_of : Given → Result (List FragmentIs) MemberLookupFault
fragments_of file = or_none file.is_library (file_fragments file.bytes file.resources)

-- the fragments of a file, and then those of the files after it; or the error of the first file whose fragments can't be told
abbrev pub and_others : Given → Result (List FragmentIs) MemberLookupFault → Result (List Found) Refusal → Result (List Found) Refusal
and_others file (Err fault) others = Err (untold file.path fault)
and_others file (Ok fragments) (Err refusal) = Err refusal
and_others file (Ok fragments) (Ok found) = Ok (found_of file file.name fragments ++ found)

abbrev pub found_in : List Given → Result (List Found) Refusal
found_in [] = Ok []
found_in (file ∷ files) = and_others file (fragments_of file) (found_in files)

-- a fragment may be the root: it has the root's name if one is given, and its file isn't one of libraries only
abbrev pub has_name : Option (List ℕ) → Found → Bool
has_name None f = true
has_name (Some name) f = bytes_eq f.candidate.name name

abbrev pub is_root : Option (List ℕ) → Found → Bool
is_root root f = not f.is_library && has_name root f

-- the place of the first one that may be, counted from a number on
abbrev pub root_from : ℕ → Option (List ℕ) → List Found → Option ℕ
root_from at root [] = None
root_from at root (f ∷ found) = if is_root root f then Some at else root_from (at + 1) root found

-- the fragments in some places
abbrev pub picked : List Found → List ℕ → List Found
picked found places = flat_map (λ p. option_to_list (slice_get found p)) places

abbrev pub with_root : List Found → Option ℕ → Result (List Found) Refusal
with_root found None = Err root_missing
with_root found (Some root) = Ok (picked found (chosen (map (λ f. f.candidate) found) root))

abbrev pub chosen_of : Option (List ℕ) → Result (List Found) Refusal → Result (List Found) Refusal
chosen_of root (Err refusal) = Err refusal
chosen_of root (Ok found) = with_root found (root_from 0 root found)

-- the fragments that a preparation is made of: the root, and one for each other name
unfoldable pub gathered : List Given → Option (List ℕ) → Result (List Found) Refusal
gathered files root = chosen_of root (found_in files)
