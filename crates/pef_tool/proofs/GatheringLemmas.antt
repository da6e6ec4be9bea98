-- Files that are read one after the other, each with its companion.
use Rattle.std.proofs.Common.{◌≡◌, ℕ, zero, suc, ◌+◌, ◌<◌, List, [], ◌∷◌, ◌++◌, inl, inr, length, get_or, map, take, drop, refl, sym, ap, subst, ◌∙◌, arith}
use Rattle.std.proofs.lemmas.List.{map_more, take-map, take_all}
use Rattle.pef_faults.specs.declared.fault.Fault.{Fault}
use Rattle.pef_faults.specs.declared.fault.Fault.TheVariants.{OutOfMemory}
use Rattle.pef_gather.specs.Gathered.{Given}
use Rattle.pef_ports.specs.Ports.{FilesPort}
use Rattle.pef_tool.specs.Gathering.{IsGiven, StopsGathering, StopsGiven, WantedIs, WereGathered}
use Rattle.pef_tool.specs.Kept.Gathering.{wanted_seen}
use Rattle.pef_tool.specs.declared.gathering.WantedFile.{WantedFile}

-- the files before one file, that file, and the files after it
apart : (xs : List WantedFile) (i : ℕ) (d : WantedFile) → i < length xs → map wanted_seen xs ≡ map wanted_seen (take i xs) ++ wanted_seen (get_or xs i d) ∷ map wanted_seen (drop (i + 1) xs)
apart [] i d under = absurd (omega (arith, under))
apart (x ∷ xs) zero d under = refl
apart (x ∷ xs) (suc k) d under =
    let more : suc k + 1 ≡ suc (k + 1) = omega arith in
    ap (λ (ys : List WantedIs). wanted_seen x ∷ ys) (apart xs k d (omega (arith, under)))
    ∙ ap (λ n. wanted_seen x ∷ (map wanted_seen (take k xs) ++ wanted_seen (get_or xs k d) ∷ map wanted_seen (drop n (x ∷ xs)))) (sym more)

module _ {F : Type 0} (port : FilesPort F) where
  -- one file more
  gathered-more : (before between after : F) (wanted : List WantedIs) (given : List Given) (w : WantedIs) (g : Given)
      → WereGathered port before between wanted given → IsGiven port between after w g → WereGathered port before after (wanted ++ w ∷ []) (given ++ g ∷ [])
  gathered-more before between after [] [] w g read next =
      let P : F → Type 0 = λ f. IsGiven port f after w g in
      (after, subst P read next, refl)
  gathered-more before between after [] (x ∷ given) w g read next = absurd read
  gathered-more before between after (v ∷ wanted) [] w g read next = absurd read
  gathered-more before between after (v ∷ wanted) (x ∷ given) w g read next = (read.0, read.1, gathered-more read.0 between after wanted given w g read.2 next)

  -- the same for the files before the next one
  pub gathered-next : (before between after : F) (xs : List WantedFile) (i : ℕ) (d : WantedFile) (given : List Given) (g : Given)
      → i < length xs → WereGathered port before between (map wanted_seen (take i xs)) given → IsGiven port between after (wanted_seen (get_or xs i d)) g
      → WereGathered port before after (map wanted_seen (take (i + 1) xs)) (given ++ g ∷ [])
  gathered-next before between after xs i d given g under read next =
      let P : List WantedIs → Type 0 = λ wanted. WereGathered port before after wanted (given ++ g ∷ []) in
      subst P (sym (map_more wanted_seen xs i d under)) (gathered-more before between after (map wanted_seen (take i xs)) given (wanted_seen (get_or xs i d)) g read next)

  -- a file that can't be read stops the reading
  pub gathering-stops : (before between after : F) (xs : List WantedFile) (i : ℕ) (d : WantedFile) (given : List Given) (fault : Fault)
      → i < length xs → WereGathered port before between (map wanted_seen (take i xs)) given → StopsGiven port between after (wanted_seen (get_or xs i d)) fault → StopsGathering port before after (map wanted_seen xs) fault
  gathering-stops before between after xs i d given fault under read stop =
      inl (record {
        done = map wanted_seen (take i xs);
        next = wanted_seen (get_or xs i d);
        left = map wanted_seen (drop (i + 1) xs);
        are = apart xs i d under;
        given = given;
        between = between;
        read = read;
        stops = stop;
      })

  -- an allocation failed after the first files
  pub gathering-lacks : (before after : F) (xs : List WantedFile) (i : ℕ) (given : List Given) → WereGathered port before after (map wanted_seen (take i xs)) given → StopsGathering port before after (map wanted_seen xs) OutOfMemory
  gathering-lacks before after xs i given read =
      let P : List WantedIs → Type 0 = λ wanted. WereGathered port before after wanted given in
      inr (refl, (i, given, subst P (sym (take-map wanted_seen i xs)) read))

  -- or after all of them
  pub all-lack : (before after : F) (wanted : List WantedIs) (given : List Given) → WereGathered port before after wanted given → StopsGathering port before after wanted OutOfMemory
  all-lack before after wanted given read =
      let P : List WantedIs → Type 0 = λ files. WereGathered port before after files given in
      inr (refl, (length wanted, given, subst P (sym (take_all (length wanted) wanted (omega arith))) read))
