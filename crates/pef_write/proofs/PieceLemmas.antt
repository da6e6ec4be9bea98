-- The pieces of a loader section: where they begin, and that they make the whole.
use Rattle.std.proofs.Common.{◌≡◌, ◌∙◌, ℕ, ◌+◌, ◌<◌, ◌^◌, List, ◌++◌, length, map, append_assoc, sym, ap, arith}
use Rattle.std.specs.Int.{next_multiple_of}
use Rattle.pef_write.specs.declared.loader.Pieces.{Pieces}
use Rattle.pef_write.specs.declared.loader.Places.{Places}
use Rattle.pef_write.specs.Fields.{padded, spelled}
use Rattle.pef_write.specs.Loaders.{LoaderTables, entry_fields, exports_from, header_fields, program_bytes, programs_from, strings_from, strings_of, written_loader}
use Rattle.pef_write.specs.Kept.Pieces.{ArePieces, ArePlaces}
use Rattle.pef_write.specs.Kept.Views.{program_entry}
use Rattle.pef_write.proofs.Fields.{spelled-append}
use Rattle.pef_write.proofs.Loaders.{front_of, length-entry_fields, length-written_loader}

module _ (t : LoaderTables) (p : Pieces) (are : ArePieces t p) where
  programs_are : program_bytes (map program_entry p.programs.now) ≡ program_bytes t.programs
  programs_are = ap program_bytes are.programs

  -- the pieces end where the export table begins
  pub whole_length : 56 + length p.entries.now + length (program_bytes (map program_entry p.programs.now)) + length p.strings.now ≡ strings_from t + length (strings_of t)
  whole_length = omega (arith, ap length are.entries, ap length programs_are, ap length are.strings, length-entry_fields t)

  pub places_are : (q : Places) → q.programs ≡ 56 + length p.entries.now → q.strings ≡ q.programs + length (program_bytes (map program_entry p.programs.now)) → q.exports ≡ next_multiple_of (q.strings + length p.strings.now) 4 → ArePlaces t q
  places_are q programs strings exports =
      let first : q.programs ≡ programs_from t = omega (arith, programs, ap length are.entries, length-entry_fields t) in
      let second : q.strings ≡ strings_from t = omega (arith, strings, first, ap length programs_are) in
      let third : q.strings + length p.strings.now ≡ strings_from t + length (strings_of t) = omega (arith, second, ap length are.strings) in
      record { programs = first; strings = second; exports = exports ∙ ap (λ n. next_multiple_of n 4) third }

  -- the header and the pieces up to the strings
  pub front_is : (header entries programs strings : List ℕ) → header ≡ spelled (header_fields t) → entries ≡ header ++ p.entries.now → programs ≡ entries ++ program_bytes (map program_entry p.programs.now) → strings ≡ programs ++ p.strings.now → strings ≡ front_of t
  front_is header entries programs strings a b c d =
      let fields : entries ≡ spelled (header_fields t) ++ spelled (entry_fields t) = b ∙ ap (λ z. z ++ p.entries.now) a ∙ ap (λ z. spelled (header_fields t) ++ z) are.entries in
      d
      ∙ ap (λ z. z ++ p.strings.now) (c ∙ ap (λ z. z ++ program_bytes (map program_entry p.programs.now)) (fields ∙ sym (spelled-append (header_fields t) (entry_fields t))) ∙ ap (λ z. spelled (header_fields t ++ entry_fields t) ++ z) programs_are)
      ∙ ap (λ z. (spelled (header_fields t ++ entry_fields t) ++ program_bytes t.programs) ++ z) are.strings
      ∙ append_assoc (spelled (header_fields t ++ entry_fields t)) (program_bytes t.programs) (strings_of t)

  -- .. and the export table after them
  pub whole_is : (padding whole : List ℕ) → padding ≡ padded 4 (front_of t) → whole ≡ padding ++ p.table.now → whole ≡ written_loader t
  unfolding written_loader
  whole_is padding whole a b = b ∙ ap (λ z. z ++ p.table.now) a ∙ ap (λ z. padded 4 (front_of t) ++ z) are.table

  pub table_fits : length (written_loader t) < 2 ^ 32 → exports_from t + length p.table.now < 2 ^ 32
  table_fits fits = omega (arith, fits, length-written_loader t, ap length are.table)
