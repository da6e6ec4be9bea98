-- The code, the vectors and the fixups of a stub of memory, symbol by symbol.
use Rattle.std.proofs.Common.{◌≡◌, ◌∙◌, ℕ, ◌+◌, ◌≤◌, ◌==◌, ◌||◌, Bool, true, false, List, [], ◌∷◌, ◌++◌, Option, None, Some, Bor, drop, length, map, slice_get, append_assoc, refl, sym, ap, arith}
use Rattle.std.specs.Prelude.{if◌then◌else◌}
use Rattle.std.specs.Int.{next_multiple_of}
use Rattle.std.specs.List.{list_any, sum_by}
use Rattle.std.specs.Option.{is_some, option_copied}
use Rattle.std.proofs.lemmas.List.{map-append}
use Rattle.std.proofs.lemmas.List.Sums.{sum_by-cons}
use Rattle.byteorder.specs.Endian.{big_bytes}
use Rattle.pef_format.specs.Exports.{Export, ExportView, export_seen}
use Rattle.pef_lines.specs.Words.{is_word, last_word}
use Rattle.pef_reloc.specs.declared.fixup.Base.TheVariants.{Section}
use Rattle.pef_reloc.specs.declared.fixup.Fixup.{Fixup}
use Rattle.pef_words.proofs.Laws.Lists.{drop-here}
use Rattle.cfm_stubs.specs.MemoryStubs.{code_image, is_routine, is_unspellable, is_vector, others, routine_code, vector_fixups, vector_image, vectors}
use Rattle.cfm_stubs.specs.Symbols.{Symbol}

-- a word is left of a name if it is one
by-word : (name word : List ℕ) (b : Bool) → Some word ≡ (if b then Some name else None) → true ≡ b
by-word name word true is = refl
by-word name word false is = absurd (cc)

by-none : (name : List ℕ) (b : Bool) → None ≡ (if b then Some name else None) → false ≡ b
by-none name true is = absurd (cc)
by-none name false is = refl

pub word-there : (name : List ℕ) (o : Option (Bor (List ℕ))) → option_copied o ≡ last_word name → is_some o ≡ is_word name
unfolding last_word
word-there name None is = by-none name (is_word name) is
word-there name (Some word) is = by-word name word.now (is_word name) is

-- how many there are

pub vectors-few : (xs : List Symbol) → vectors xs ≤ length xs
vectors-few [] = omega arith
vectors-few (s ∷ xs) = by (is_vector s) (vectors-few xs)
  where
    by : (b : Bool) → vectors xs ≤ length xs → (if b then vectors xs + 1 else vectors xs) ≤ length (s ∷ xs)
    by true later = omega (arith, later)
    by false later = omega (arith, later)

pub others-few : (xs : List Symbol) → others xs ≤ length xs
others-few [] = omega arith
others-few (s ∷ xs) = by (is_routine s) (others-few xs)
  where
    by : (b : Bool) → others xs ≤ length xs → (if b then others xs else others xs + 1) ≤ length (s ∷ xs)
    by true later = omega (arith, later)
    by false later = omega (arith, later)

-- a multiple of 16 is near
pub multiple-near : (n : ℕ) → next_multiple_of n 16 ≤ n + 15
multiple-near n = omega arith

-- what is left, with the symbol at a place
module _ (xs : List Symbol) (k : ℕ) (s : Symbol) (there : slice_get xs k ≡ Some s) where
  abbrev rest : List Symbol
  rest = drop (k + 1) xs

  pub unspellable-here : list_any is_unspellable (drop k xs) ≡ (is_unspellable s || list_any is_unspellable (drop (k + 1) xs))
  unspellable-here = ap (list_any is_unspellable) (drop-here xs k s there)

  pub name_bytes-here : sum_by (λ (s : Symbol). length s.name + 1) (drop k xs) ≡ length s.name + 1 + sum_by (λ (s : Symbol). length s.name + 1) (drop (k + 1) xs)
  name_bytes-here = ap (sum_by (λ (s : Symbol). length s.name + 1)) (drop-here xs k s there) ∙ sum_by-cons (λ (s : Symbol). length s.name + 1) s rest

  pub vectors-here : (b : Bool) → is_vector s ≡ b → vectors (drop k xs) ≡ (if b then vectors (drop (k + 1) xs) + 1 else vectors (drop (k + 1) xs))
  vectors-here b is = ap vectors (drop-here xs k s there) ∙ ap (λ b. if b then vectors rest + 1 else vectors rest) is

  pub others-here : (b : Bool) → is_routine s ≡ b → others (drop k xs) ≡ (if b then others (drop (k + 1) xs) else others (drop (k + 1) xs) + 1)
  others-here b is = ap others (drop-here xs k s there) ∙ ap (λ b. if b then others rest else others rest + 1) is

  code-here : (word : ℕ) (b : Bool) → is_routine s ≡ b → code_image word (drop k xs) ≡ (if b then routine_code word ++ code_image word rest else code_image word rest)
  code-here word b is = ap (code_image word) (drop-here xs k s there) ∙ ap (λ b. if b then routine_code word ++ code_image word rest else code_image word rest) is

  pub code-more : (word : ℕ) (old new all : List ℕ) → is_routine s ≡ true → new ≡ old ++ routine_code word → old ++ code_image word (drop k xs) ≡ all → new ++ code_image word (drop (k + 1) xs) ≡ all
  code-more word old new all is added before =
      ap (λ z. z ++ code_image word rest) added
      ∙ append_assoc old (routine_code word) (code_image word rest)
      ∙ ap (λ z. old ++ z) (sym (code-here word true is))
      ∙ before

  pub code-same : (word : ℕ) (old all : List ℕ) → is_routine s ≡ false → old ++ code_image word (drop k xs) ≡ all → old ++ code_image word (drop (k + 1) xs) ≡ all
  code-same word old all is before = ap (λ z. old ++ z) (sym (code-here word false is)) ∙ before

  image-here : (code : ℕ) (a b : Bool) → is_vector s ≡ a → is_routine s ≡ b
      → vector_image code (drop k xs) ≡ (if a then big_bytes 4 code ++ (big_bytes 4 0 ++ vector_image (code + 8) rest) else if b then vector_image (code + 8) rest else vector_image code rest)
  image-here code a b vector routine =
      ap (vector_image code) (drop-here xs k s there)
      ∙ ap (λ a. if a then big_bytes 4 code ++ (big_bytes 4 0 ++ vector_image (code + 8) rest) else if is_routine s then vector_image (code + 8) rest else vector_image code rest) vector
      ∙ ap (λ b. if a then big_bytes 4 code ++ (big_bytes 4 0 ++ vector_image (code + 8) rest) else if b then vector_image (code + 8) rest else vector_image code rest) routine

  pub image-vector : (code : ℕ) (old new all : List ℕ) → is_vector s ≡ true → new ≡ old ++ (big_bytes 4 code ++ big_bytes 4 0) → old ++ vector_image code (drop k xs) ≡ all → new ++ vector_image (code + 8) (drop (k + 1) xs) ≡ all
  image-vector code old new all is added before =
      ap (λ z. z ++ vector_image (code + 8) rest) added
      ∙ append_assoc old (big_bytes 4 code ++ big_bytes 4 0) (vector_image (code + 8) rest)
      ∙ ap (λ z. old ++ z) (append_assoc (big_bytes 4 code) (big_bytes 4 0) (vector_image (code + 8) rest))
      ∙ ap (λ z. old ++ z) (sym (image-here code true (is_routine s) is refl))
      ∙ before

  pub image-code : (code : ℕ) (old all : List ℕ) → is_vector s ≡ false → is_routine s ≡ true → old ++ vector_image code (drop k xs) ≡ all → old ++ vector_image (code + 8) (drop (k + 1) xs) ≡ all
  image-code code old all vector routine before = ap (λ z. old ++ z) (sym (image-here code false true vector routine)) ∙ before

  pub image-same : (code : ℕ) (old all : List ℕ) → is_vector s ≡ false → is_routine s ≡ false → old ++ vector_image code (drop k xs) ≡ all → old ++ vector_image code (drop (k + 1) xs) ≡ all
  image-same code old all vector routine before = ap (λ z. old ++ z) (sym (image-here code false false vector routine)) ∙ before

  fixups-here : (at : ℕ) (b : Bool) → is_vector s ≡ b
      → vector_fixups at (drop k xs) ≡ (if b then (record { offset = at; base = Section 0 }) ∷ (record { offset = at + 4; base = Section 1 }) ∷ vector_fixups (at + 8) rest else vector_fixups at rest)
  fixups-here at b is =
      ap (vector_fixups at) (drop-here xs k s there)
      ∙ ap (λ b. if b then (record { offset = at; base = Section 0 }) ∷ (record { offset = at + 4; base = Section 1 }) ∷ vector_fixups (at + 8) rest else vector_fixups at rest) is

  pub fixups-more : (at : ℕ) (one two : Fixup) (old middle new all : List Fixup) → is_vector s ≡ true → one ≡ record { offset = at; base = Section 0 } → two ≡ record { offset = at + 4; base = Section 1 }
      → middle ≡ old ++ one ∷ [] → new ≡ middle ++ two ∷ [] → old ++ vector_fixups at (drop k xs) ≡ all → new ++ vector_fixups (at + 8) (drop (k + 1) xs) ≡ all
  fixups-more at one two old middle new all is first second added later before =
      ap (λ z. z ++ vector_fixups (at + 8) rest) later
      ∙ append_assoc middle (two ∷ []) (vector_fixups (at + 8) rest)
      ∙ ap (λ z. z ++ (two ∷ vector_fixups (at + 8) rest)) added
      ∙ append_assoc old (one ∷ []) (two ∷ vector_fixups (at + 8) rest)
      ∙ ap (λ f. old ++ (f ∷ two ∷ vector_fixups (at + 8) rest)) first
      ∙ ap (λ f. old ++ (record { offset = at; base = Section 0 } ∷ f ∷ vector_fixups (at + 8) rest)) second
      ∙ ap (λ z. old ++ z) (sym (fixups-here at true is))
      ∙ before

  pub fixups-same : (at : ℕ) (old all : List Fixup) → is_vector s ≡ false → old ++ vector_fixups at (drop k xs) ≡ all → old ++ vector_fixups at (drop (k + 1) xs) ≡ all
  fixups-same at old all is before = ap (λ z. old ++ z) (sym (fixups-here at false is)) ∙ before

-- symbols of a vector's class have code
middle-met : (a c : Bool) → (a || true || c) ≡ true
middle-met true c = refl
middle-met false c = refl

pub vector-routine : (class : ℕ) → (class == 2) ≡ true → (class == 0 || class == 2 || class == 4) ≡ true
vector-routine class is = ap (λ b. class == 0 || b || class == 4) is ∙ middle-met (class == 0) (class == 4)

-- one more export
pub seen-more : (xs : List Export) (k : ℕ) (e : ExportView) (old new : List ExportView) → slice_get xs k ≡ Some (export_seen e) → new ≡ old ++ e ∷ [] → map export_seen old ++ drop k xs ≡ xs → map export_seen new ++ drop (k + 1) xs ≡ xs
seen-more xs k e old new there added before =
    ap (λ es. map export_seen es ++ drop (k + 1) xs) added
    ∙ ap (λ z. z ++ drop (k + 1) xs) (map-append export_seen old (e ∷ []))
    ∙ append_assoc (map export_seen old) (export_seen e ∷ []) (drop (k + 1) xs)
    ∙ ap (λ z. map export_seen old ++ z) (sym (drop-here xs k (export_seen e) there))
    ∙ before
