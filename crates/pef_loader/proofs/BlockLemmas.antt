-- Cells of owners, painted library by library.
use Rattle.std.proofs.Common.{◌≡◌, ℕ, zero, suc, ◌+◌, ◌-◌, ◌^◌, ◌<◌, ◌≤◌, inl, inr, Bool, true, false, List, Option, None, Some, length, refl, ap, ◌∙◌, arith}
use Rattle.std.specs.Prelude.{◌&&◌, ◌==◌, min, nat_le, nat_lt, slice_index, if◌then◌else◌}
use Rattle.std.specs.Option.{option_or}
use Rattle.std.proofs.lemmas.Bool.{le-leb, ne_eqb}
use Rattle.std.proofs.lemmas.Bool.Decides.{eqb_tells, leb_tells}
use Rattle.pef_words.specs.Refusals.{first_among}
use Rattle.pef_loader.specs.Import.{owner_at}
use Rattle.pef_loader.specs.Library.{owns}
use Rattle.pef_loader.specs.Kept.Blocks.{AreOwnersBefore, IsPainted, cell_library}
use Rattle.pef_loader.specs.Kept.Ranges.{end_of, first_of}
use Rattle.pef_loader.proofs.RangeLemmas.{owned, owns_is, unowned}

-- a library's number is no empty cell
cell_is : (l : ℕ) → l < 2 ^ 32 - 1 → cell_library l ≡ Some l
cell_is l under = rw (ne_eqb l (2 ^ 32 - 1) (λ same. absurd (omega arith))) refl

-- two tests that say the same
le_same : (a b x y : ℕ) → (a ≤ b → x ≤ y) → (x ≤ y → a ≤ b) → nat_le a b ≡ nat_le x y
le_same a b x y there back =
    elim (leb_tells a b) [
      | inl within ↦ rw (within.0, le-leb x y (there within.1)) refl
      | inr past ↦ elim (leb_tells x y) [
        | inl within ↦ absurd (let low = back within.1 in let high = past.1 in omega arith)
        | inr behind ↦ rw (past.0, behind.0) refl
      ]
    ]

or-none : {F : Type 0} (a : Option F) → option_or a None ≡ a
or-none None = refl
or-none (Some x) = refl

or-assoc : {F : Type 0} (a b c : Option F) → option_or a (option_or b c) ≡ option_or (option_or a b) c
or-assoc None b c = refl
or-assoc (Some x) b c = refl

-- one more place counts only if no place before it answers
among-more : {F : Type 0} (answer : ℕ → Option F) (from n : ℕ) → first_among answer from (suc n) ≡ option_or (first_among answer from n) (answer (from + n))
among-more answer from zero =
    let e : from + 0 ≡ from = omega arith in
    rw (e, or-none) refl
among-more answer from (suc n) =
    let e : from + suc n ≡ from + 1 + n = omega arith in
    let later = among-more answer (from + 1) n in
    rw (e, ← or-assoc (answer from) (first_among answer (from + 1) n) (answer (from + 1 + n))) (ap (option_or (answer from)) later)

-- a cell that is painted stays, and another one says whether this library has the import
cell-last : (has : Bool) (answer : ℕ → Option ℕ) (l old new : ℕ) → l < 2 ^ 32 - 1 → new ≡ (if has && (old == 2 ^ 32 - 1) then l else old) → (has ≡ true → answer l ≡ Some l) → (has ≡ false → answer l ≡ None)
    → cell_library new ≡ option_or (cell_library old) (answer (0 + l))
cell-last false answer l old new few is some none =
    let from : 0 + l ≡ l = omega arith in
    rw (is, from, none refl, or-none) refl
cell-last true answer l old new few is some none =
    let from : 0 + l ≡ l = omega arith in
    elim (eqb_tells old (2 ^ 32 - 1)) [
      | inl empty ↦ (let new_is : new ≡ l = rw empty.0 at is in rw (from, empty.0, new_is, cell_is l few, some refl) refl)
      | inr painted ↦ (let new_is : new ≡ old = rw painted.0 at is in rw (new_is, painted.0) refl)
    ]

-- a cell after one more library, which has the import or hasn't
cell-more : (has : Bool) (answer : ℕ → Option ℕ) (l old new : ℕ) → l < 2 ^ 32 - 1 → new ≡ (if has && (old == 2 ^ 32 - 1) then l else old) → (has ≡ true → answer l ≡ Some l) → (has ≡ false → answer l ≡ None)
    → cell_library old ≡ first_among answer 0 l → cell_library new ≡ first_among answer 0 (l + 1)
cell-more has answer l old new few is some none before =
    let e : l + 1 ≡ suc l = omega arith in
    rw (e, among-more answer 0 l, ← before) (cell-last has answer l old new few is some none)

-- a range cut to the cells has those of its imports
pub in_cells : (first end from size k : ℕ) → k < size → (nat_le (min (first - from) size) k && nat_lt k (min (end - from) size)) ≡ (nat_le first (from + k) && nat_lt (from + k) end)
in_cells first end from size k under =
    rw (le_same (min (first - from) size) k first (from + k) (λ low. omega arith) (λ low. omega arith), le_same (suc k) (min (end - from) size) (suc (from + k)) end (λ low. omega arith) (λ low. omega arith)) refl

-- the cells after one more library
pub more : (bytes : List ℕ) (l from start end cell : ℕ) (old new : List ℕ) → l < 2 ^ 32 - 1 → AreOwnersBefore bytes l from old
    → start ≡ min (first_of bytes l - from) (length old) → end ≡ min (end_of bytes l - from) (length old) → cell ≡ l → IsPainted old new start end cell → AreOwnersBefore bytes (l + 1) from new
more bytes l from start end cell old new few before starts ends same painted = λ k inside.
    let many = painted.as_many in
    let under : k < length old = omega arith in
    let paint : IsPainted old new (min (first_of bytes l - from) (length old)) (min (end_of bytes l - from) (length old)) l = rw (← starts, ← ends, ← same) painted in
    let has : (nat_le (min (first_of bytes l - from) (length old)) k && nat_lt k (min (end_of bytes l - from) (length old))) ≡ owns bytes (from + k) l =
    in_cells (first_of bytes l) (end_of bytes l) from (length old) k under ∙ owns_is bytes (from + k) l in
    cell-more (owns bytes (from + k) l) (owner_at bytes (from + k)) l (slice_index old k) (slice_index new k) few (rw (← has) (paint.each k under)) (owned bytes (from + k) l) (unowned bytes (from + k) l) (before k under)
