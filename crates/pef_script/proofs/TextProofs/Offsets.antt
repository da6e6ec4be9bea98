-- The fixups as a map has them, by their offsets.
use Rattle.std.proofs.Common.{◌≡◌, ℕ, suc, ◌+◌, ◌*◌, ◌<◌, false, not, ◌||◌, List, [], ◌∷◌, ◌++◌, refl, ap, subst, ◌∙◌, inl, inr, arith}
use Rattle.std.specs.Prelude.{nat_lt}
use Rattle.std.specs.List.{AllByRecursion}
use Rattle.std.specs.List.Sorted.{IsStrictlySortedBy}
use Rattle.std.specs.BTreeMap.{insert_entry}
use Rattle.std.specs.BTreeMap.Range.{entries_between}
use Rattle.std.specs.Map.{keys_of}
use Rattle.std.specs.Ordering.{is_le, nat_cmp}
use Rattle.std.specs.declared.cmp.Ordering.TheVariants.{Less}
use Rattle.std.specs.declared.ops.Bound.TheVariants.{Excluded, Unbounded}
use Rattle.std.proofs.lemmas.Bool.Decides.{leb_tells, nat_tests}
use Rattle.std.proofs.lemmas.Map.Keys.{sorted_head, sorted_tail}
use Rattle.pef_words.proofs.Laws.Numbers.{cmp_greater}
use Rattle.pef_reloc.specs.declared.fixup.Base.{Base}
use Rattle.pef_script.specs.Text.Contents.{fixup_of, meets, overlaps, placed}
use Rattle.pef_script.specs.Text.Kept.Sections.{fixup_at, fixups_in}
use Rattle.pef_script.proofs.TextProofs.Placing.{both_unmet, clear_of}

comes_before : (a b : ℕ) → a < b → nat_cmp a b ≡ Less
comes_before a b less = grind (arith, nat_tests)

less_than : (a b : ℕ) → nat_cmp a b ≡ Less → a < b
less_than a b is = grind (arith, nat_tests)

-- with a new entry
pub inserted_is : (entries : List (ℕ × Base)) (offset : ℕ) (b : Base) → overlaps (fixups_in entries) offset 1 ≡ false → fixups_in (insert_entry nat_cmp entries offset b) ≡ placed (fixups_in entries) (fixup_of offset b)
inserted_is [] offset b free = refl
inserted_is (e ∷ entries) offset b free =
    let unmet = both_unmet (meets offset 1 (fixup_at e)) (overlaps (fixups_in entries) offset 1) free in
    elim (leb_tells (suc offset) e.0) [
      | inl before ↦ rw (comes_before offset e.0 (omega (arith, before.1)), before.0) refl
      | inr after ↦
          (let behind : e.0 < offset = elim (clear_of offset 1 (fixup_at e) unmet.0) as (λ _. e.0 < offset) [ inl h ↦ omega (arith, h) | inr h ↦ absurd (omega (arith, h, after.1)) ] in
          rw (cmp_greater offset e.0 behind, after.0) (ap (λ fixups. fixup_at e ∷ fixups) (inserted_is entries offset b unmet.1)))
    ]

-- the entries below an offset
abbrev pub entries_to : ℕ → List (ℕ × Base) → List (ℕ × Base)
entries_to end entries = entries_between nat_cmp Unbounded (Excluded end) entries

to_is : (a b : ℕ) → not (is_le (nat_cmp a b)) ≡ nat_lt b a
to_is a b = grind (arith, nat_tests)

-- if none is below the end of some words, none overlaps them
pub none_to : (entries : List (ℕ × Base)) (offset count : ℕ) → entries_to (offset + 4 * count) entries ≡ [] → overlaps (fixups_in entries) offset count ≡ false
none_to [] offset count none = refl
none_to (e ∷ entries) offset count none =
    elim (leb_tells (suc e.0) (offset + 4 * count)) [
      | inl below ↦ absurd (let some = rw (to_is (offset + 4 * count) e.0, below.0) at none in cc)
      | inr above ↦
          (let unmet : meets offset count (fixup_at e) ≡ false = grind (arith, nat_tests) in
          rw unmet (none_to entries offset count (rw (to_is (offset + 4 * count) e.0, above.0) at none)))
    ]

-- what is true of each key is true of those below an offset
all-to : (P : ℕ → Type 0) (entries : List (ℕ × Base)) (end : ℕ) → AllByRecursion P (keys_of entries) → AllByRecursion P (keys_of (entries_to end entries))
all-to P [] end all = tt
all-to P (e ∷ entries) end all =
    elim (leb_tells (suc e.0) end) [
      | inl below ↦ rw (to_is end e.0, below.0) (all.0, all-to P entries end all.1)
      | inr above ↦ rw (to_is end e.0, above.0) (all-to P entries end all.1)
    ]

-- and of the last
all-last : (P : ℕ → Type 0) (before : List (ℕ × Base)) (e : ℕ × Base) → AllByRecursion P (keys_of (before ++ e ∷ [])) → P e.0
all-last P [] e all = all.0
all-last P (b ∷ before) e all = all-last P before e all.1

-- the first entry of some, and the others
abbrev first_or : ℕ × Base → List (ℕ × Base) → ℕ × Base
first_or e [] = e
first_or e (x ∷ xs) = x

abbrev others_of : List (ℕ × Base) → List (ℕ × Base)
others_of [] = []
others_of (x ∷ xs) = xs

-- a fixup overlaps some words if the last one below their end does
pub last_to : (entries before : List (ℕ × Base)) (e : ℕ × Base) (offset count : ℕ) → IsStrictlySortedBy nat_cmp (keys_of entries) → entries_to (offset + 4 * count) entries ≡ before ++ e ∷ [] → overlaps (fixups_in entries) offset count ≡ nat_lt offset (e.0 + 4)
last_to [] [] e offset count sorted is = absurd (cc)
last_to [] (b ∷ before) e offset count sorted is = absurd (cc)
last_to (x ∷ entries) [] e offset count sorted is =
    elim (leb_tells (suc x.0) (offset + 4 * count)) [
      | inl below ↦
          (let there : x ∷ entries_to (offset + 4 * count) entries ≡ e ∷ [] = rw (to_is (offset + 4 * count) x.0, below.0) at is in
          let same : x ≡ e = ap (first_or e) there in
          let none = none_to entries offset count (ap others_of there) in
          let here : (meets offset count (fixup_at x) || false) ≡ nat_lt offset (x.0 + 4) = grind (arith, nat_tests) in
          rw none (here ∙ ap (λ (y : ℕ × Base). nat_lt offset (y.0 + 4)) same))
      | inr above ↦
          (let unmet : meets offset count (fixup_at x) ≡ false = grind (arith, nat_tests) in
          rw unmet (last_to entries [] e offset count (sorted_tail nat_cmp x.0 (keys_of entries) sorted) (rw (to_is (offset + 4 * count) x.0, above.0) at is)))
    ]
last_to (x ∷ entries) (b ∷ before) e offset count sorted is =
    elim (leb_tells (suc x.0) (offset + 4 * count)) [
      | inl below ↦
          (let there = ap others_of (rw (to_is (offset + 4 * count) x.0, below.0) at is) in
          let others = last_to entries before e offset count (sorted_tail nat_cmp x.0 (keys_of entries) sorted) there in
          let less = less_than x.0 e.0 (all-last (λ k. nat_cmp x.0 k ≡ Less) before e (subst (λ es. AllByRecursion (λ k. nat_cmp x.0 k ≡ Less) (keys_of es)) there (all-to (λ k. nat_cmp x.0 k ≡ Less) entries (offset + 4 * count) (sorted_head nat_cmp x.0 (keys_of entries) sorted)))) in
          rw others (grind (arith, nat_tests, less)))
      | inr above ↦
          (let unmet : meets offset count (fixup_at x) ≡ false = grind (arith, nat_tests) in
          rw unmet (last_to entries (b ∷ before) e offset count (sorted_tail nat_cmp x.0 (keys_of entries) sorted) (rw (to_is (offset + 4 * count) x.0, above.0) at is)))
    ]
