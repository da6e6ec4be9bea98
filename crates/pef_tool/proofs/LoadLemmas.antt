-- Files that are read one after the other, and the fragment that is prepared from them.
use Rattle.std.proofs.Common.{◌≡◌, ℕ, zero, suc, ◌+◌, ◌<◌, ◌≤◌, ◌==◌, ◌^◌, Bool, false, List, [], ◌∷◌, ◌++◌, Ok, inl, inr, length, get_or, map, take, drop, refl, sym, ap, subst, ◌∙◌, arith}
use Rattle.std.proofs.lemmas.List.{map_more, take-map, take_all}
use Rattle.cfm_store.specs.Stores.{Pair}
use Rattle.cfm_memory.specs.Extents.{given_back}
use Rattle.cfm_memory.specs.Instances.{Layout, with_instances, without}
use Rattle.cfm_memory.specs.declared.place.Place.{Place}
use Rattle.cfm_prepare.specs.Fragments.{Present, all_given_back}
use Rattle.cfm_prepare.specs.Contexts.{ContextState, fresh_state}
use Rattle.cfm_prepare.specs.Steps.{Prepares}
use Rattle.pef_ports.specs.Ports.{FilesPort, Reads}
use Rattle.pef_ports.specs.declared.ports.FileFault.TheVariants as file_fault
use Rattle.pef_request.specs.Requests.{named_path}
use Rattle.pef_request.specs.declared.files.NamedFile.{NamedFile}
use Rattle.pef_tool.specs.Kept.Loading.{StopsReading}
use Rattle.pef_tool.specs.Reading.{StopsFile}
use Rattle.pef_tool.specs.Kept.Rooted.{RootEnds, RootOutcome, root_answer}
use Rattle.pef_tool.specs.Kept.Rooted as rooted
use Rattle.pef_tool.specs.Limits.{memory_limit}
use Rattle.pef_tool.specs.Load.{LoadEnds, LoadOutcome, StopsAt, WereRead, first_name, load_answer, loads, paired, refuses}
use Rattle.pef_faults.specs.declared.fault.Fault.{Fault}
use Rattle.pef_faults.specs.declared.fault.Fault.TheVariants.{Script, Listing, Certificate, SectionsDiffer, Input, Prepare, Fragment, Untold, StoreFull, Stub, Unreadable, Unwritable, OutOfMemory}

module _ {F : Type 0} (port : FilesPort F) where
  -- one file more
  pub read-more : (before between after : F) (named : List (List ℕ × List ℕ)) (contents : List (List ℕ)) (file : List ℕ × List ℕ) (bytes : List ℕ)
      → WereRead port before between named contents → Reads port between after file.1 (Ok bytes) → WereRead port before after (named ++ file ∷ []) (contents ++ bytes ∷ [])
  read-more before between after [] [] file bytes read next =
      let P : F → Type 0 = λ f. Reads port f after file.1 (Ok bytes) in
      (after, subst P read next, refl)
  read-more before between after [] (c ∷ contents) file bytes read next = absurd read
  read-more before between after (f ∷ named) [] file bytes read next = absurd read
  read-more before between after (f ∷ named) (c ∷ contents) file bytes read next = (read.0, read.1, read-more read.0 between after named contents file bytes read.2 next)

  -- the same for the files before the next one
  pub read-next : (before between after : F) (xs : List NamedFile) (i : ℕ) (d : NamedFile) (contents : List (List ℕ)) (bytes : List ℕ)
      → i < length xs → WereRead port before between (map named_path (take i xs)) contents → Reads port between after (get_or xs i d).path.now (Ok bytes)
      → WereRead port before after (map named_path (take (i + 1) xs)) (contents ++ bytes ∷ [])
  read-next before between after xs i d contents bytes under read next =
      let P : List (List ℕ × List ℕ) → Type 0 = λ named. WereRead port before after named (contents ++ bytes ∷ []) in
      subst P (sym (map_more named_path xs i d under)) (read-more before between after (map named_path (take i xs)) contents (named_path (get_or xs i d)) bytes read next)

  -- as many bytes as files
  pub were-length : (before after : F) (named : List (List ℕ × List ℕ)) (contents : List (List ℕ)) → WereRead port before after named contents → length contents ≡ length named
  were-length before after [] [] read = refl
  were-length before after [] (c ∷ contents) read = absurd read
  were-length before after (f ∷ named) [] read = absurd read
  were-length before after (f ∷ named) (c ∷ contents) read = ap suc (were-length read.0 after named contents read.2)

  -- the files before one file, that file, and the files after it
  apart : (xs : List NamedFile) (i : ℕ) (d : NamedFile) → i < length xs → map named_path xs ≡ map named_path (take i xs) ++ named_path (get_or xs i d) ∷ map named_path (drop (i + 1) xs)
  apart [] i d under = absurd (omega (arith, under))
  apart (x ∷ xs) zero d under = refl
  apart (x ∷ xs) (suc k) d under =
      let more : suc k + 1 ≡ suc (k + 1) = omega arith in
      ap (λ (ys : List (List ℕ × List ℕ)). named_path x ∷ ys) (apart xs k d (omega (arith, under)))
      ∙ ap (λ n. named_path x ∷ (map named_path (take k xs) ++ named_path (get_or xs k d) ∷ map named_path (drop n (x ∷ xs)))) (sym more)

  -- a file that can't be read stops the reading
  pub stops : (before between after : F) (xs : List NamedFile) (i : ℕ) (d : NamedFile) (contents : List (List ℕ)) (fault : Fault)
      → i < length xs → WereRead port before between (map named_path (take i xs)) contents → StopsFile port between after (get_or xs i d).path.now fault → StopsReading port before after (map named_path xs) fault
  stops before between after xs i d contents (Unreadable told reason) under read stop =
      let P : List ℕ → Type 0 = λ path. StopsAt port before after (map named_path xs) path file_fault.Failed in
      let file = get_or xs i d in (
        subst P (sym stop.0) (record {
          done = map named_path (take i xs);
          name = file.name.now;
          left = map named_path (drop (i + 1) xs);
          are = apart xs i d under;
          contents = contents;
          between = between;
          read = read;
          stops = stop.1;
        }),
        stop.2,
      )
  stops before between after xs i d contents OutOfMemory under read stop =
      let file = get_or xs i d in
      inr (
        file.path.now,
        record {
          done = map named_path (take i xs);
          name = file.name.now;
          left = map named_path (drop (i + 1) xs);
          are = apart xs i d under;
          contents = contents;
          between = between;
          read = read;
          stops = stop;
        },
      )
  stops before between after xs i d contents (Unwritable told reason) under read stop = absurd stop
  stops before between after xs i d contents (Script f told) under read stop = absurd stop
  stops before between after xs i d contents (Listing f) under read stop = absurd stop
  stops before between after xs i d contents (Certificate f) under read stop = absurd stop
  stops before between after xs i d contents SectionsDiffer under read stop = absurd stop
  stops before between after xs i d contents (Input f) under read stop = absurd stop
  stops before between after xs i d contents (Prepare f) under read stop = absurd stop
  stops before between after xs i d contents (Fragment f) under read stop = absurd stop
  stops before between after xs i d contents (Untold path why) under read stop = absurd stop
  stops before between after xs i d contents StoreFull under read stop = absurd stop
  stops before between after xs i d contents (Stub f) under read stop = absurd stop

  -- an allocation failed after the first files
  pub lacks-after : (before after : F) (xs : List NamedFile) (i : ℕ) (contents : List (List ℕ)) → WereRead port before after (map named_path (take i xs)) contents → StopsReading port before after (map named_path xs) OutOfMemory
  lacks-after before after xs i contents read =
      let P : List (List ℕ × List ℕ) → Type 0 = λ named. WereRead port before after named contents in
      inl (i, contents, subst P (sym (take-map named_path i xs)) read)

  -- or after all of them
  pub lacks-all : (before after : F) (named : List (List ℕ × List ℕ)) (contents : List (List ℕ)) → WereRead port before after named contents → WereRead port before after (take (length named) named) contents
  lacks-all before after named contents read =
      let same : length named ≤ length named = omega arith in
      let P : List (List ℕ × List ℕ) → Type 0 = λ files. WereRead port before after files contents in
      subst P (sym (take_all (length named) named same)) read

  -- if they were read, `load` ends as the preparation of the first one does
  pub root-loads : (before after : F) (named : List (List ℕ × List ℕ)) (contents : List (List ℕ)) (root : RootOutcome) → WereRead port before after named contents → RootEnds (paired named contents) (first_name named) root
      → (outcome : LoadOutcome) × LoadEnds port before after named outcome × (root_answer root ≡ load_answer outcome)
  root-loads before after named contents (rooted.prepares s number) read ends = (loads s number, record { contents = contents; read = read; prepared = ends }, refl)
  root-loads before after named contents (rooted.refuses fault) read ends = (refuses (Prepare fault), record { contents = contents; read = read; refused = ends }, refl)

-- there are files
pub some-files : (xs : List NamedFile) (empty : Bool) → empty ≡ (length xs == 0) → empty ≡ false → 0 < length xs
some-files [] empty is some = absurd (cc)
some-files (x ∷ xs) empty is some = omega arith

-- the first name is that of the first file
pub first-is : (xs : List NamedFile) (d : NamedFile) → 0 < length xs → first_name (map named_path xs) ≡ (get_or xs 0 d).name.now
first-is [] d some = absurd (omega (arith, some))
first-is (x ∷ xs) d some = refl

-- giving memory back keeps the limit
given-limit : (m : Layout) (places : List Place) → (given_back m places).limit ≡ m.limit
given-limit m [] = refl
given-limit m (p ∷ places) = given-limit (with_instances m (without m.instances p.address)) places

all-limit : (m : Layout) (fs : List Present) → (all_given_back m fs).limit ≡ m.limit
all-limit m [] = refl
all-limit m (f ∷ fs) = all-limit (given_back m f.places) fs ∙ given-limit m f.places

-- memory keeps its limit when fragments are prepared
pub prepared-limit : (pairs : List Pair) (name : List ℕ) (number : ℕ) (s : ContextState) → Prepares (fresh_state pairs memory_limit) name number s → s.memory.limit ≤ 2 ^ 32
prepared-limit pairs name number s done =
    let same : s.memory.limit ≡ memory_limit = sym (all-limit s.memory done.fresh) ∙ ap (λ (m : Layout). m.limit) done.prepared.others in
    omega (arith, same)
