-- The parts of an image, from its front.
use Rattle.std.proofs.Common.{◌≡◌, ◌≢◌, ◌⊎◌, ℕ, zero, suc, ◌+◌, ◌-◌, ◌<◌, ◌≤◌, List, [], ◌∷◌, ◌++◌, cond, ltb, length, get_or, take, drop, replicate, refl, sym, ap, subst, ◌∙◌, inl, inr, arith, append_assoc}
use Rattle.std.proofs.Math.Seq.{take-add}
use Rattle.std.proofs.lemmas.Bool.Decides.{eqb_tells, leb_tells}
use Rattle.std.proofs.lemmas.List.{drop_all, drop_more, drop-drop, get_or-drop, length-drop, length-take-le, nil_from_length}
use Rattle.pef_pidata.specs.Packing.{Part, block, bytes_before, packed_of, part_bytes, parts_of, runs, spelling, without_short, zero_before, zeros}
use Rattle.pef_pidata.specs.Kept.Runs.{IsCopiedTo, copied_before, zeros_first}

-- bytes that join a block, and more before them
bytes_before-twice : (xs ys : List ℕ) (parts : List Part) → bytes_before (xs ++ ys) parts ≡ bytes_before xs (bytes_before ys parts)
bytes_before-twice xs ys [] = refl
bytes_before-twice xs ys (zeros count ∷ parts) = refl
bytes_before-twice xs ys (block more ∷ parts) = ap (λ bytes. block bytes ∷ parts) (append_assoc xs ys more)

without_short-bytes : (xs : List ℕ) (parts : List Part) → without_short (bytes_before xs parts) ≡ bytes_before xs (without_short parts)
without_short-bytes xs [] = refl
without_short-bytes xs (zeros count ∷ parts) = refl
without_short-bytes xs (block more ∷ parts) = bytes_before-twice xs more (without_short parts)

zero_before-bytes : (xs : List ℕ) (parts : List Part) → zero_before (bytes_before xs parts) ≡ zeros 1 ∷ bytes_before xs parts
zero_before-bytes xs [] = refl
zero_before-bytes xs (zeros count ∷ parts) = refl
zero_before-bytes xs (block more ∷ parts) = refl

-- the zeros that some bytes begin with
zeros_first-other : (b : ℕ) (rest : List ℕ) → b ≢ 0 → zeros_first (b ∷ rest) ≡ 0
zeros_first-other b rest other = elim (eqb_tells b 0) [
  | inl is ↦ absurd (other is.1)
  | inr not ↦ rw not.0 refl
]

zeros_first-zero : (b : ℕ) (rest : List ℕ) → b ≡ 0 → zeros_first (b ∷ rest) ≡ zeros_first rest + 1
zeros_first-zero b rest none = elim (eqb_tells b 0) [
  | inl is ↦ rw is.0 refl
  | inr not ↦ absurd (not.1 none)
]

zeros_first-most : (b : ℕ) (rest : List ℕ) → zeros_first (b ∷ rest) ≤ zeros_first rest + 1
zeros_first-most b rest = elim (eqb_tells b 0) [
  | inl is ↦ omega (arith, zeros_first-zero b rest is.1)
  | inr not ↦ omega (arith, zeros_first-other b rest not.1)
]

pub zeros_first-within : (xs : List ℕ) → zeros_first xs ≤ length xs
zeros_first-within [] = omega arith
zeros_first-within (b ∷ rest) = omega (arith, zeros_first-most b rest, zeros_first-within rest)

-- no run begins at a byte that isn't 0
pub zeros_first-here : (xs : List ℕ) (i : ℕ) → i < length xs → get_or xs i 0 ≢ 0 → zeros_first (drop i xs) ≡ 0
zeros_first-here xs i under other = ap zeros_first (drop_more xs i 0 under) ∙ zeros_first-other (get_or xs i 0) (drop (i + 1) xs) other

-- the longest run that some bytes begin with
runs-alone : (xs : List ℕ) → zeros_first xs ≡ 0 → zero_before (runs xs) ≡ zeros 1 ∷ runs xs
runs-alone [] none = refl
runs-alone (b ∷ rest) none = elim (eqb_tells b 0) [
  | inl is ↦ absurd (omega (arith, none, zeros_first-zero b rest is.1))
  | inr not ↦ rw not.0 (zero_before-bytes (b ∷ []) (runs rest))
]

runs-zero : (b : ℕ) (rest : List ℕ) → b ≡ 0 → runs (b ∷ rest) ≡ zero_before (runs rest)
runs-zero b rest none = elim (eqb_tells b 0) [
  | inl is ↦ rw is.0 refl
  | inr not ↦ absurd (not.1 none)
]

runs-next : (rest : List ℕ) (n : ℕ) → ((m : ℕ) → zeros_first rest ≡ suc m → runs rest ≡ zeros (suc m) ∷ runs (drop (suc m) rest)) → zeros_first rest ≡ n → zero_before (runs rest) ≡ zeros (suc n) ∷ runs (drop n rest)
runs-next rest zero longer none = runs-alone rest none
runs-next rest (suc n) longer some =
    let next : suc n + 1 ≡ suc (suc n) = omega arith in
    ap zero_before (longer n some) ∙ ap (λ count. zeros count ∷ runs (drop (suc n) rest)) next

runs-zeros : (xs : List ℕ) (k : ℕ) → zeros_first xs ≡ suc k → runs xs ≡ zeros (suc k) ∷ runs (drop (suc k) xs)
runs-zeros [] k is = absurd (omega (arith, is))
runs-zeros (b ∷ rest) k is = elim (eqb_tells b 0) [
  | inl none ↦ runs-zero b rest none.1 ∙ runs-next rest k (runs-zeros rest) (omega (arith, is, zeros_first-zero b rest none.1))
  | inr other ↦ absurd (omega (arith, is, zeros_first-other b rest other.1))
]

parts-zeros : (xs : List ℕ) (k : ℕ) → zeros_first xs ≡ suc k
    → parts_of xs ≡ cond (ltb (suc k) 3) (bytes_before (replicate (suc k) 0) (parts_of (drop (suc k) xs))) (zeros (suc k) ∷ parts_of (drop (suc k) xs))
unfolding parts_of
parts-zeros xs k is = ap without_short (runs-zeros xs k is)

-- a run of three zeros or more is a part
pub parts-run : (xs : List ℕ) → 3 ≤ zeros_first xs → parts_of xs ≡ zeros (zeros_first xs) ∷ parts_of (drop (zeros_first xs) xs)
parts-run xs long = go (zeros_first xs) refl
  where
    go : (k : ℕ) → zeros_first xs ≡ k → parts_of xs ≡ zeros k ∷ parts_of (drop k xs)
    go zero is = absurd (omega (arith, is, long))
    go (suc k) is = elim (leb_tells (suc (suc k)) 3) [
      | inl short ↦ absurd (omega (arith, is, long, short.1))
      | inr not ↦ parts-zeros xs k is ∙ rw not.0 refl
    ]

-- a byte that doesn't begin such a run is copied
parts-zero : (rest : List ℕ) (b k : ℕ) → b ≡ 0 → zeros_first rest ≡ k → k < 2 → parts_of (b ∷ rest) ≡ bytes_before (0 ∷ []) (parts_of rest)
parts-zero rest b zero none is few = parts-zeros (b ∷ rest) 0 (omega (arith, is, zeros_first-zero b rest none))
parts-zero rest b (suc zero) none is few =
    parts-zeros (b ∷ rest) 1 (omega (arith, is, zeros_first-zero b rest none))
    ∙ bytes_before-twice (0 ∷ []) (0 ∷ []) (parts_of (drop 1 rest)) ∙ ap (bytes_before (0 ∷ [])) (sym (parts-zeros rest 0 is))
parts-zero rest b (suc (suc k)) none is few = absurd (omega arith)

parts-other : (b : ℕ) (rest : List ℕ) → b ≢ 0 → parts_of (b ∷ rest) ≡ bytes_before (b ∷ []) (parts_of rest)
unfolding parts_of
parts-other b rest other = elim (eqb_tells b 0) [
  | inl is ↦ absurd (other is.1)
  | inr not ↦ rw not.0 (without_short-bytes (b ∷ []) (runs rest))
]

parts-copied : (b : ℕ) (rest : List ℕ) → zeros_first (b ∷ rest) < 3 → parts_of (b ∷ rest) ≡ bytes_before (b ∷ []) (parts_of rest)
parts-copied b rest few = elim (eqb_tells b 0) [
  | inl none ↦ parts-zero rest b (zeros_first rest) none.1 refl (omega (arith, few, zeros_first-zero b rest none.1))
      ∙ ap (λ x. bytes_before (x ∷ []) (parts_of rest)) (sym none.1)
  | inr other ↦ parts-other b rest other.1
]

-- a step over one byte, and over three of which the last isn't zero
one_copied : (xs : List ℕ) → 0 < length xs → zeros_first xs < 3 → parts_of xs ≡ copied_before (take 1 xs) (parts_of (drop 1 xs))
one_copied [] some few = absurd (omega arith)
one_copied (b ∷ rest) some few = parts-copied b rest few

three_copied : (xs : List ℕ) → 2 < length xs → get_or xs 2 0 ≢ 0 → parts_of xs ≡ copied_before (take 3 xs) (parts_of (drop 3 xs))
three_copied [] some other = absurd (omega arith)
three_copied (a ∷ []) some other = absurd (omega arith)
three_copied (a ∷ (b ∷ [])) some other = absurd (omega arith)
three_copied (a ∷ (b ∷ (c ∷ rest))) some other =
    let third = zeros_first-other c rest other in
    let second = zeros_first-most b (c ∷ rest) in
    let first = zeros_first-most a (b ∷ (c ∷ rest)) in
    parts-copied a (b ∷ (c ∷ rest)) (omega (arith, first, second, third))
    ∙ ap (bytes_before (a ∷ [])) (parts-copied b (c ∷ rest) (omega (arith, second, third)) ∙ ap (bytes_before (b ∷ [])) (parts-copied c rest (omega (arith, third))))

copied_before-append : (xs ys : List ℕ) (parts : List Part) → copied_before (xs ++ ys) parts ≡ copied_before xs (copied_before ys parts)
copied_before-append [] ys parts = refl
copied_before-append (x ∷ xs) ys parts = ap (bytes_before (x ∷ [])) (copied_before-append xs ys parts)

copied_on : (xs : List ℕ) (at k : ℕ) → IsCopiedTo xs at → parts_of (drop at xs) ≡ copied_before (take k (drop at xs)) (parts_of (drop k (drop at xs))) → IsCopiedTo xs (at + k)
copied_on xs at k before step =
    rw (take-add at k xs, ← drop-drop k at xs) (before ∙ ap (copied_before (take at xs)) step ∙ sym (copied_before-append (take at xs) (take k (drop at xs)) (parts_of (drop k (drop at xs)))))

pub copied_by_one : (xs : List ℕ) (at : ℕ) → at < length xs → zeros_first (drop at xs) < 3 → IsCopiedTo xs at → IsCopiedTo xs (at + 1)
copied_by_one xs at under few before =
    copied_on xs at 1 before (one_copied (drop at xs) (omega (arith, length-drop at xs)) few)

pub copied_by_three : (xs : List ℕ) (at : ℕ) → at + 2 < length xs → get_or xs (at + 2) 0 ≢ 0 → IsCopiedTo xs at → IsCopiedTo xs (at + 3)
copied_by_three xs at under other before =
    copied_on xs at 3 before (three_copied (drop at xs) (omega (arith, length-drop at xs)) (λ none. other (sym (get_or-drop at xs 2 0) ∙ none)))

-- the last two bytes are copied
copied_left : (xs : List ℕ) (n i : ℕ) → length xs ≡ i + n → n ≤ 2 → IsCopiedTo xs i → IsCopiedTo xs (length xs)
copied_left xs zero i is few here =
    let end : i ≡ length xs = omega (arith, is) in
    let P : ℕ → Type 0 = λ at. IsCopiedTo xs at in
    subst P end here
copied_left xs (suc n) i is few here =
    copied_left xs n (i + 1) (omega (arith, is)) (omega arith) (copied_by_one xs i (omega (arith, is)) (omega (arith, is, zeros_first-within (drop i xs), length-drop i xs)) here)

pub copied_to_end : (xs : List ℕ) (at : ℕ) → at ≤ length xs → length xs ≤ at + 2 → IsCopiedTo xs at → IsCopiedTo xs (length xs)
copied_to_end xs at within most here = copied_left xs (length xs - at) at (omega arith) (omega arith) here

pub short_here : (xs : List ℕ) (at : ℕ) → at < length xs → get_or xs at 0 ≢ 0 → zeros_first (drop at xs) < 3
short_here xs at under other = omega (arith, zeros_first-here xs at under other)

pub short_next : (xs : List ℕ) (at : ℕ) → at + 1 < length xs → get_or xs (at + 1) 0 ≢ 0 → zeros_first (drop at xs) < 3
short_next xs at under other =
    let most = zeros_first-most (get_or xs at 0) (drop (at + 1) xs) in
    let here = ap zeros_first (drop_more xs at 0 (omega arith)) in
    omega (arith, most, here, zeros_first-here xs (at + 1) under other)

-- a block ends where the image does, or where a run begins
block_last : (bytes : List ℕ) → 0 < length bytes → copied_before bytes [] ≡ block bytes ∷ []
block_last [] some = absurd (omega arith)
block_last (b ∷ rest) some = go b rest
  where
    go : (c : ℕ) (more : List ℕ) → copied_before (c ∷ more) [] ≡ block (c ∷ more) ∷ []
    go c [] = refl
    go c (d ∷ more) = ap (bytes_before (c ∷ [])) (go d more)

block_run : (bytes : List ℕ) (count : ℕ) (parts : List Part) → 0 < length bytes → copied_before bytes (zeros count ∷ parts) ≡ block bytes ∷ (zeros count ∷ parts)
block_run [] count parts some = absurd (omega arith)
block_run (b ∷ rest) count parts some = go b rest
  where
    go : (c : ℕ) (more : List ℕ) → copied_before (c ∷ more) (zeros count ∷ parts) ≡ block (c ∷ more) ∷ (zeros count ∷ parts)
    go c [] = refl
    go c (d ∷ more) = ap (bytes_before (c ∷ [])) (go d more)

pub parts-none : parts_of [] ≡ []
unfolding parts_of
parts-none = refl

pub parts-block : (xs : List ℕ) (n : ℕ) → n ≤ length xs → 0 < n → IsCopiedTo xs n → (n ≡ length xs) ⊎ (3 ≤ zeros_first (drop n xs)) → parts_of xs ≡ block (take n xs) ∷ parts_of (drop n xs)
parts-block xs n within some copied end =
    let bytes : 0 < length (take n xs) = omega (arith, length-take-le n xs within) in
    elim end [
      | inl last ↦
          (let none : parts_of (drop n xs) ≡ [] = ap parts_of (drop_all n xs (omega arith)) ∙ parts-none in
          copied ∙ rw none (block_last (take n xs) bytes))
      | inr run ↦
          (let next = parts-run (drop n xs) run in
          copied ∙ rw next (block_run (take n xs) _ _ bytes))
    ]

-- the packed bytes of an image from its front
pub packed_on : (packed more rest behind all : List ℕ) (part : Part) → parts_of rest ≡ part ∷ parts_of behind → more ≡ packed ++ part_bytes part → packed ++ packed_of rest ≡ all → more ++ packed_of behind ≡ all
unfolding packed_of
packed_on packed more rest behind all part parts more_is before =
    rw more_is (append_assoc packed (part_bytes part) (spelling (parts_of behind)) ∙ ap (λ left. packed ++ spelling left) (sym parts) ∙ before)

packed-nothing : packed_of [] ≡ []
unfolding packed_of
packed-nothing = ap spelling parts-none

pub packed_none : (rest : List ℕ) → length rest ≡ 0 → packed_of rest ≡ []
packed_none rest none = ap packed_of (nil_from_length rest none) ∙ packed-nothing
