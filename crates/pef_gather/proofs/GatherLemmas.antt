-- Fragments that are found file by file.
use Rattle.std.proofs.Common.{◌≡◌, ◌<◌, ◌≤◌, ◌++◌, ◌∙◌, List, [], None, Some, Result, Ok, Err, ℕ, get_or, length, map, option_map, refl, sym, ap}
use Rattle.std.specs.Prelude.{slice_get}
use Rattle.std.proofs.lemmas.Option.{slice_get-get_or, slice_get-map, slice_get_past}
use Rattle.std.proofs.lemmas.List.{append-nil, append_assoc}
use Rattle.mac_fragments.specs.Fragments.{FragmentIs}
use Rattle.pef_gather.specs.Gathered.{Found, Given, Refusal, and_others, found_of}
use Rattle.pef_gather.specs.Seen.{found_seen}
use Rattle.pef_gather.specs.declared.files.Found as files

-- what was found before, and then what is found
abbrev pub after_those : List Found → Result (List Found) Refusal → Result (List Found) Refusal
after_those before (Ok found) = Ok (before ++ found)
after_those before (Err refusal) = Err refusal

-- nothing was found before
pub after-none : (found : Result (List Found) Refusal) → after_those [] found ≡ found
after-none (Ok found) = refl
after-none (Err refusal) = refl

-- nothing is left
pub after-all : (before : List Found) → after_those before (Ok []) ≡ Ok before
after-all before = ap (λ (found : List Found). Ok found) (append-nil before)

-- the fragments of one file more
pub after-file : (before : List Found) (file : Given) (fragments : List FragmentIs) (others : Result (List Found) Refusal)
    → after_those before (and_others file (Ok fragments) others) ≡ after_those (before ++ found_of file file.name fragments) others
after-file before file fragments (Ok found) = ap (λ (all : List Found). Ok all) (sym (append_assoc before (found_of file file.name fragments) found))
after-file before file fragments (Err refusal) = refl

-- the fragment in a place, and none past the last one

pub found-at : (found : List files.Found) (place : ℕ) (f : files.Found) → place < length found → f ≡ get_or found place f → slice_get (map found_seen found) place ≡ Some (found_seen f)
found-at found place f inside is =
    slice_get-map found_seen found place ∙ ap (option_map found_seen) (slice_get-get_or found place f inside ∙ ap (λ (x : files.Found). Some x) (sym is))

pub found-past : (found : List files.Found) (place : ℕ) → length found ≤ place → slice_get (map found_seen found) place ≡ None
found-past found place past = slice_get-map found_seen found place ∙ ap (option_map found_seen) (slice_get_past found place past)
