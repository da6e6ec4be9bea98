-- Files that were written, and one that isn't.
use Rattle.std.proofs.Common.{◌≡◌, ◌+◌, ◌<◌, ◌≤◌, ◌∷◌, ◌++◌, List, [], ℕ, zero, suc, Ok, length, get_or, map, take, drop, refl, sym, ap, subst, ◌∙◌, arith}
use Rattle.std.proofs.lemmas.List.{map_more, take_all}
use Rattle.pef_faults.specs.declared.fault.Fault.{Fault}
use Rattle.pef_ports.specs.Ports.{FilesPort, Writes}
use Rattle.cfm_files.specs.Writing.{FileIs, StopsWriting, Unwritten, WereWritten}

module _ {A : Type 0} (seen : A → FileIs) where
  -- the files before one, that file, and the files after it
  parted : (xs : List A) (i : ℕ) (d : A) → i < length xs → map seen xs ≡ map seen (take i xs) ++ seen (get_or xs i d) ∷ map seen (drop (i + 1) xs)
  parted [] i d under = absurd (omega (arith, under))
  parted (x ∷ xs) zero d under = refl
  parted (x ∷ xs) (suc k) d under =
      let more : suc k + 1 ≡ suc (k + 1) = omega arith in
      ap (λ (ys : List FileIs). seen x ∷ ys) (parted xs k d (omega (arith, under)))
      ∙ ap (λ n. seen x ∷ (map seen (take k xs) ++ seen (get_or xs k d) ∷ map seen (drop n (x ∷ xs)))) (sym more)

  module _ {F : Type 0} (port : FilesPort F) where
    -- one file more is written
    written-more : (before between after : F) (xs : List FileIs) (x : FileIs) → WereWritten port before between xs → Writes port between after x.path x.bytes (Ok tt) → WereWritten port before after (xs ++ x ∷ [])
    written-more before between after [] x written next =
        let P : F → Type 0 = λ f. Writes port f after x.path x.bytes (Ok tt) in
        (after, subst P written next, refl)
    written-more before between after (y ∷ xs) x written next = (written.0, written.1, written-more written.0 between after xs x written.2 next)

    pub written-next : (before between after : F) (xs : List A) (i : ℕ) (x : A) → i < length xs → x ≡ get_or xs i x → WereWritten port before between (map seen (take i xs))
        → Writes port between after (seen x).path (seen x).bytes (Ok tt) → WereWritten port before after (map seen (take (i + 1) xs))
    written-next before between after xs i x under is written next =
        let P : List FileIs → Type 0 = λ ys. WereWritten port before after ys in
        let Q : A → Type 0 = λ y. Writes port between after (seen y).path (seen y).bytes (Ok tt) in
        subst P (sym (map_more seen xs i x under)) (written-more before between after (map seen (take i xs)) (seen (get_or xs i x)) written (subst Q is next))

    -- a file that isn't written stops the writing
    pub writing-stops : (before between after : F) (xs : List A) (i : ℕ) (x : A) (why : Fault) → i < length xs → x ≡ get_or xs i x → WereWritten port before between (map seen (take i xs))
        → Unwritten port between after (seen x) why → StopsWriting port before after (map seen xs) why
    writing-stops before between after xs i x why under is written stops =
        let P : A → Type 0 = λ y. Unwritten port between after (seen y) why in
        record {
          done = map seen (take i xs);
          next = seen (get_or xs i x);
          left = map seen (drop (i + 1) xs);
          are = parted xs i x under;
          between = between;
          written = written;
          stops = subst P is stops;
        }

    -- all files were written
    pub all-written : (before after : F) (xs : List A) (i : ℕ) → length xs ≤ i → WereWritten port before after (map seen (take i xs)) → WereWritten port before after (map seen xs)
    all-written before after xs i past written =
        let P : List A → Type 0 = λ ys. WereWritten port before after (map seen ys) in
        subst P (take_all i xs past) written
