-- How the values at places change.
use Rattle.std.proofs.Common.{◌≡◌, ◌≢◌, ℕ, zero, suc, ◌+◌, ◌-◌, ◌<◌, ◌≤◌, cond, count_by, List, [], ◌∷◌, ◌++◌, length, replicate, None, Some, refl, sym, ap, ◌∙◌, subst, get_or, set, inl, inr, arith}
use Rattle.std.specs.Prelude.{slice_get, IsSome}
use Rattle.std.proofs.lemmas.Bool.{cases_lt}
use Rattle.std.proofs.Math.ListN.{get_or-map}
use Rattle.std.proofs.lemmas.Bool.Decides.{eqb_tells}
use Rattle.std.proofs.lemmas.List.{ext_get_or, get_or-replicate, get_or-set_other, get_or-set_same, get_or_past, length-map, length-replicate, length-set, length_push}
use Rattle.std.proofs.lemmas.List.Sums.{count_by-le-length, sum_by-set}
use Rattle.std.proofs.lemmas.Option.{slice_get-get_or}
use Rattle.cfm_store.specs.Kept.Numbers.{IsSound, is_number, value_of, values_at}

abbrev one_if_number : ℕ → ℕ
one_if_number n = cond (is_number n) 1 0

-- the value at a place is that of its number
pub value-at : {T : Type 0} (numbers : List ℕ) (values : List T) (p : ℕ) → get_or (values_at numbers values) p None ≡ value_of values (get_or numbers p 0)
value-at numbers values p = get_or-map (value_of values) numbers p 0

pub places : {T : Type 0} (numbers : List ℕ) (values : List T) → length (values_at numbers values) ≡ length numbers
places numbers values = simp length-map

-- places without values
pub values-none : {T : Type 0} (n : ℕ) → values_at {T = T} (replicate n 0) [] ≡ replicate n None
values-none {T} n = ext_get_or None (values_at {T = T} (replicate n 0) []) (replicate n None)
    (places {T = T} (replicate n 0) [] ∙ length-replicate n 0 ∙ sym (length-replicate n None))
    (λ i under.
    let inside : i < n = subst (λ m. i < m) (places {T = T} (replicate n 0) [] ∙ length-replicate n 0) under in
    value-at {T = T} (replicate n 0) [] i ∙ ap (value_of {T = T} []) (get_or-replicate n i 0 0 inside) ∙ sym (get_or-replicate n i None None inside))

-- the values before one that is added after all
before-push : {T : Type 0} (values : List T) (v : T) (n : ℕ) → n < length values → slice_get (values ++ v ∷ []) n ≡ slice_get values n
before-push [] v n under = absurd (omega arith)
before-push (x ∷ values) v zero under = refl
before-push (x ∷ values) v (suc n) under = before-push values v n (omega arith)

last-push : {T : Type 0} (values : List T) (v : T) → slice_get (values ++ v ∷ []) (length values) ≡ Some v
last-push [] v = refl
last-push (x ∷ values) v = last-push values v

-- a place with a value has a number
pub has_number : {T : Type 0} (numbers : List ℕ) (values : List T) (p : ℕ) → IsSome (get_or (values_at numbers values) p None) → (p < length numbers) × (get_or numbers p 0 ≡ suc (get_or numbers p 0 - 1))
has_number numbers values p some = by (get_or numbers p 0) refl
  where
    by : (n : ℕ) → get_or numbers p 0 ≡ n → (p < length numbers) × (n ≡ suc (n - 1))
    by zero is = absurd (let none = subst IsSome (value-at numbers values p ∙ ap (value_of values) is) some in cc)
    by (suc n) is = (
      elim (cases_lt p (length numbers)) [
        | inl inside ↦ inside
        | inr past ↦ absurd (let e = get_or_past numbers p 0 past in omega arith)
      ],
      omega arith,
    )

-- which is that of a value
pub number_within : {T : Type 0} (numbers : List ℕ) (values : List T) (p n : ℕ) → IsSound numbers values → get_or numbers p 0 ≡ suc n → n < length values
number_within numbers values p n sound is = let within = sound.within p in omega arith

module _ {T : Type 0} (numbers : List ℕ) (values : List T) (sound : IsSound numbers values) (p : ℕ) (v : T) where
  module _ (n : ℕ) (is : get_or numbers p 0 ≡ suc n) where
    within_here : n < length values
    within_here = number_within numbers values p n sound is

    other_value : (m : ℕ) → m ≤ length values → m ≢ suc n → value_of (set values n v) m ≡ value_of values m
    other_value zero within other = refl
    other_value (suc m) within other =
        let differs : m ≢ n = λ e. other (ap suc e) in
        slice_get-get_or (set values n v) m v (let e = length-set values n v in omega arith)
        ∙ ap Some (get_or-set_other values n m v v differs)
        ∙ sym (slice_get-get_or values m v (omega arith))

    -- another value in the place of one
    pub values-replaced : values_at numbers (set values n v) ≡ set (values_at numbers values) p (Some v)
    values-replaced = ext_get_or None (values_at numbers (set values n v)) (set (values_at numbers values) p (Some v))
        (places numbers (set values n v) ∙ sym (length-set (values_at numbers values) p (Some v) ∙ places numbers values))
        (λ q under. value-at numbers (set values n v) q ∙ at q (let e = places numbers (set values n v) in omega arith))
      where
        here : value_of (set values n v) (suc n) ≡ Some v
        here = slice_get-get_or (set values n v) n v (let e = length-set values n v in let w = within_here in omega arith) ∙ ap Some (get_or-set_same values n v v within_here)

        at : (q : ℕ) → q < length numbers → value_of (set values n v) (get_or numbers q 0) ≡ get_or (set (values_at numbers values) p (Some v)) q None
        at q under = elim (eqb_tells q p) [
          | inl same ↦ (
              let P : ℕ → Type 0 = λ q. value_of (set values n v) (get_or numbers q 0) ≡ get_or (set (values_at numbers values) p (Some v)) q None in
              let inside : p < length (values_at numbers values) = let e = places numbers values in let s = same.1 in omega arith in
              subst P (sym same.1) (ap (value_of (set values n v)) is ∙ here ∙ sym (get_or-set_same (values_at numbers values) p (Some v) None inside)))
          | inr other ↦
              other_value (get_or numbers q 0) (sound.within q) (λ e. other.1 (sym (sound.apart p q n is e)))
              ∙ sym (value-at numbers values q)
              ∙ sym (get_or-set_other (values_at numbers values) p q (Some v) None other.1)
        ]

  module _ (inside : p < length numbers) (none : get_or numbers p 0 ≡ 0) where
    counted : (n : ℕ) → count_by is_number (set numbers p (suc n)) ≡ count_by is_number numbers + 1
    counted n =
        let all : count_by is_number (set numbers p (suc n)) + one_if_number (get_or numbers p 0) ≡ count_by is_number numbers + 1 = sum_by-set one_if_number numbers p (suc n) 0 inside in
        let one : one_if_number (get_or numbers p 0) ≡ 0 = ap one_if_number none in
        omega arith

    -- a number is left for a place without value
    pub room : length values < length numbers
    room =
        let all = length-set numbers p 1 in
        let most = count_by-le-length is_number (set numbers p 1) in
        let one = counted 0 in
        let was = sound.count in
        omega arith

    within-pushed : (m : ℕ) → m ≤ length values → value_of (values ++ v ∷ []) m ≡ value_of values m
    within-pushed zero within = refl
    within-pushed (suc m) within = before-push values v m (omega arith)

    -- a value at a place that had none
    pub values-added : values_at (set numbers p (suc (length values))) (values ++ v ∷ []) ≡ set (values_at numbers values) p (Some v)
    values-added = ext_get_or None (values_at more (values ++ v ∷ [])) (set (values_at numbers values) p (Some v))
        (places more (values ++ v ∷ []) ∙ length-set numbers p (suc (length values)) ∙ sym (length-set (values_at numbers values) p (Some v) ∙ places numbers values))
        (λ q under. value-at more (values ++ v ∷ []) q ∙ at q)
      where
        more : List ℕ
        more = set numbers p (suc (length values))

        at : (q : ℕ) → value_of (values ++ v ∷ []) (get_or (set numbers p (suc (length values))) q 0) ≡ get_or (set (values_at numbers values) p (Some v)) q None
        at q = elim (eqb_tells q p) [
          | inl same ↦ (
              let P : ℕ → Type 0 = λ q. value_of (values ++ v ∷ []) (get_or (set numbers p (suc (length values))) q 0) ≡ get_or (set (values_at numbers values) p (Some v)) q None in
              let under : p < length (values_at numbers values) = let e = places numbers values in omega arith in
              subst P (sym same.1) (ap (value_of (values ++ v ∷ [])) (get_or-set_same numbers p (suc (length values)) 0 inside) ∙ last-push values v ∙ sym (get_or-set_same (values_at numbers values) p (Some v) None under)))
          | inr other ↦
              ap (value_of (values ++ v ∷ [])) (get_or-set_other numbers p q (suc (length values)) 0 other.1)
              ∙ within-pushed (get_or numbers q 0) (sound.within q)
              ∙ sym (value-at numbers values q)
              ∙ sym (get_or-set_other (values_at numbers values) p q (Some v) None other.1)
        ]

    same_place : (q : ℕ) → get_or (set numbers p (suc (length values))) q 0 ≡ suc (length values) → p ≡ q
    same_place q is = elim (eqb_tells q p) [
      | inl same ↦ sym same.1
      | inr other ↦ absurd (
          let was = sym (get_or-set_other numbers p q (suc (length values)) 0 other.1) ∙ is in
          let within = sound.within q in
          omega arith)
    ]

    -- such a table is sound
    pub sound-added : IsSound (set numbers p (suc (length values))) (values ++ v ∷ [])
    sound-added = record {
      few = let e = length-set numbers p (suc (length values)) in let few = sound.few in omega arith;
      count = counted (length values) ∙ ap (λ n. n + 1) sound.count ∙ sym (length_push values v);
      within = λ q. elim (eqb_tells q p) [
        | inl same ↦ (
            let here = ap (λ q. get_or (set numbers p (suc (length values))) q 0) same.1 ∙ get_or-set_same numbers p (suc (length values)) 0 inside in
            let long = length_push values v in
            omega arith)
        | inr other ↦ (
            let was = get_or-set_other numbers p q (suc (length values)) 0 other.1 in
            let within = sound.within q in
            let long = length_push values v in
            omega arith)
      ];
      apart = λ q r n is is'. elim (eqb_tells n (length values)) [
        | inl last ↦ sym (same_place q (is ∙ ap suc last.1)) ∙ same_place r (is' ∙ ap suc last.1)
        | inr before ↦ sound.apart q r n (earlier q n before.1 is) (earlier r n before.1 is')
      ];
    }
      where
        earlier : (q n : ℕ) → n ≢ length values → get_or (set numbers p (suc (length values))) q 0 ≡ suc n → get_or numbers q 0 ≡ suc n
        earlier q n before is = elim (eqb_tells q p) [
          | inl same ↦ absurd (
              let here : get_or (set numbers p (suc (length values))) q 0 ≡ suc (length values) = ap (λ q. get_or (set numbers p (suc (length values))) q 0) same.1 ∙ get_or-set_same numbers p (suc (length values)) 0 inside in
              before (omega (arith, here, is)))
          | inr other ↦ sym (get_or-set_other numbers p q (suc (length values)) 0 other.1) ∙ is
        ]
