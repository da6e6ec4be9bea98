-- Fragments that are in memory, each section at an address of its own, when some are added and
-- released.
use Rattle.std.proofs.Common.{◌≡◌, ◌≢◌, ℕ, suc, ◌+◌, ◌-◌, ◌<◌, List, [], ◌∷◌, ◌++◌, Option, None, Some, length, refl, sym, ap, subst, ◌∙◌, inl, inr, IsTrue, arith}
use Rattle.std.proofs.lemmas.Bool.{cases_lt}
use Rattle.std.proofs.lemmas.Bool.Decides.{eqb_tells}
use Rattle.std.proofs.lemmas.List.{get_or_append_left, length-append}
use Rattle.std.proofs.Math.Seq.{get_or-append_right}
use Rattle.cfm_memory.specs.Extents.{AreApart, AreHeld, Rule, given_back, place_at}
use Rattle.cfm_memory.specs.Instances.{Layout, bytes_at, has_length}
use Rattle.cfm_memory.specs.declared.place.Place.{Place}
use Rattle.cfm_memory.proofs.Laws.{given_back_elsewhere}
use Rattle.cfm_store.specs.Stores.{Pair}
use Rattle.cfm_prepare.specs.Fragments.{Present, all_given_back, places_of, present_at}
use Rattle.cfm_prepare.specs.Placing.{AllPlacedBy}
use Rattle.cfm_prepare.specs.Kept.Ready.{AllApart, AllHeld, AreReady}
use Rattle.cfm_prepare.proofs.GroupLemmas.{ArePairApart, all-elsewhere, held_same, no_fragment, nowhere, turned}
use Rattle.cfm_prepare.proofs.PlacedLemmas.{placed-apart, placed-held, placed-new, placed-own, placed-stays}

-- a fact of some fragments and of others is one of all
pub each-of : (P : Present → Type 0) (xs ys : List Present) → ((i : ℕ) → i < length xs → P (present_at xs i)) → ((i : ℕ) → i < length ys → P (present_at ys i))
    → (i : ℕ) → i < length (xs ++ ys) → P (present_at (xs ++ ys) i)
each-of P xs ys left right i under = elim (cases_lt i (length xs)) [
  | inl less ↦ subst P (sym (get_or_append_left xs ys no_fragment i less)) (left i less)
  | inr le ↦ subst P (sym (get_or-append_right xs ys i no_fragment le)) (right (i - length xs) (omega (arith, le, under, length-append xs ys)))
]

left-of : (P : Present → Type 0) (xs ys : List Present) → ((i : ℕ) → i < length (xs ++ ys) → P (present_at (xs ++ ys) i)) → (i : ℕ) → i < length xs → P (present_at xs i)
left-of P xs ys all i under = subst P (get_or_append_left xs ys no_fragment i under) (all i (omega (arith, under, length-append xs ys)))

index_back : (n j : ℕ) → n + j - n ≡ j
index_back n j = omega arith

at-right : (xs ys : List Present) (j : ℕ) → present_at (xs ++ ys) (length xs + j) ≡ present_at ys j
at-right xs ys j = get_or-append_right xs ys (length xs + j) no_fragment (omega arith) ∙ ap (present_at ys) (index_back (length xs) j)

right-of : (P : Present → Type 0) (xs ys : List Present) → ((i : ℕ) → i < length (xs ++ ys) → P (present_at (xs ++ ys) i)) → (i : ℕ) → i < length ys → P (present_at ys i)
right-of P xs ys all i under = subst P (at-right xs ys i) (all (length xs + i) (omega (arith, under, length-append xs ys)))

pair-of : (f g f' g' : Present) → f ≡ f' → g ≡ g' → ArePairApart f' g' → ArePairApart f g
pair-of f g f' g' p q apart = rw (p, q) apart

abbrev AreCross : List Present → List Present → Type 0
AreCross xs ys = (i j : ℕ) → i < length xs → j < length ys → ArePairApart (present_at xs i) (present_at ys j)

append-pair : (xs ys : List Present) (i j : ℕ) → AllApart xs → AllApart ys → AreCross xs ys → i < length (xs ++ ys) → j < length (xs ++ ys) → i ≢ j
    → ArePairApart (present_at (xs ++ ys) i) (present_at (xs ++ ys) j)
append-pair xs ys i j left right cross under high other =
    let size = length-append xs ys in
    elim (cases_lt i (length xs)) [
      | inl il ↦ elim (cases_lt j (length xs)) [
        | inl jl ↦ pair-of (present_at (xs ++ ys) i) (present_at (xs ++ ys) j) (present_at xs i) (present_at xs j) (get_or_append_left xs ys no_fragment i il) (get_or_append_left xs ys no_fragment j jl) (λ a b. left i j a b il jl other)
        | inr jr ↦ pair-of (present_at (xs ++ ys) i) (present_at (xs ++ ys) j) (present_at xs i) (present_at ys (j - length xs)) (get_or_append_left xs ys no_fragment i il) (get_or-append_right xs ys j no_fragment jr)
            (cross i (j - length xs) il (omega (arith, jr, high, size)))
      ]
      | inr ir ↦ elim (cases_lt j (length xs)) [
        | inl jl ↦ pair-of (present_at (xs ++ ys) i) (present_at (xs ++ ys) j) (present_at ys (i - length xs)) (present_at xs j) (get_or-append_right xs ys i no_fragment ir) (get_or_append_left xs ys no_fragment j jl)
            (turned (present_at xs j) (present_at ys (i - length xs)) (cross j (i - length xs) jl (omega (arith, ir, under, size))))
        | inr jr ↦ pair-of (present_at (xs ++ ys) i) (present_at (xs ++ ys) j) (present_at ys (i - length xs)) (present_at ys (j - length xs)) (get_or-append_right xs ys i no_fragment ir) (get_or-append_right xs ys j no_fragment jr)
            (λ a b. right (i - length xs) (j - length xs) a b (omega (arith, ir, under, size)) (omega (arith, jr, high, size)) (λ e. other (omega (arith, e, ir, jr))))
      ]
    ]

append-apart : (xs ys : List Present) → AllApart xs → AllApart ys → AreCross xs ys → AllApart (xs ++ ys)
append-apart xs ys left right cross i j a b under high other low less = append-pair xs ys i j left right cross under high other a b low less

cross-of : (xs ys : List Present) → AllApart (xs ++ ys) → AreCross xs ys
cross-of xs ys all i j under high =
    pair-of (present_at xs i) (present_at ys j) (present_at (xs ++ ys) i) (present_at (xs ++ ys) (length xs + j)) (sym (get_or_append_left xs ys no_fragment i under)) (sym (at-right xs ys j))
    (λ a b. all i (length xs + j) a b (omega (arith, under, length-append xs ys)) (omega (arith, high, length-append xs ys)) (λ e. absurd (omega (arith, e, under))))

left-apart : (xs ys : List Present) → AllApart (xs ++ ys) → AllApart xs
left-apart xs ys all i j a b under high other =
    pair-of (present_at xs i) (present_at xs j) (present_at (xs ++ ys) i) (present_at (xs ++ ys) j) (sym (get_or_append_left xs ys no_fragment i under)) (sym (get_or_append_left xs ys no_fragment j high))
    (λ a b. all i j a b (omega (arith, under, length-append xs ys)) (omega (arith, high, length-append xs ys)) other) a b

pub right-apart : (xs ys : List Present) → AllApart (xs ++ ys) → AllApart ys
right-apart xs ys all i j a b under high other =
    pair-of (present_at ys i) (present_at ys j) (present_at (xs ++ ys) (length xs + i)) (present_at (xs ++ ys) (length xs + j)) (sym (at-right xs ys i)) (sym (at-right xs ys j))
    (λ a b. all (length xs + i) (length xs + j) a b (omega (arith, under, length-append xs ys)) (omega (arith, high, length-append xs ys)) (λ e. other (omega (arith, e)))) a b

-- an instance that is held has bytes
held-some : (o : Option (List ℕ)) (size : ℕ) → IsTrue (has_length o size) → (bytes : List ℕ) × (o ≡ Some bytes)
held-some None size held = absurd (cc)
held-some (Some bytes) size held = (bytes, refl)

bytes-there : (m : Layout) (qs : List Place) (k : ℕ) → AreHeld m qs → k < length qs → (bytes : List ℕ) × (bytes_at m.instances (place_at qs k).address ≡ Some bytes)
bytes-there m qs k held under = held-some (bytes_at m.instances (place_at qs k).address) (place_at qs k).size (held k nowhere under)

-- new fragments after those that exist
pub ready-after : (rule : Rule) (pairs : List Pair) (m : Layout) (there fresh : List Present) (after : Layout) → AreReady m there → AllPlacedBy rule pairs m fresh after → AreReady after (there ++ fresh)
ready-after rule pairs m there fresh after ready placed = record {
  held = each-of (λ f. AreHeld after f.places) there fresh
      (λ i under. held_same m after (present_at there i).places (λ k low.
      let s = bytes-there m (present_at there i).places k (ready.held i under) low in
      placed-stays rule pairs m fresh after (place_at (present_at there i).places k).address s.0 placed s.1 ∙ sym s.1) (ready.held i under))
      (placed-held rule pairs m fresh after placed);
  own = each-of (λ f. AreApart f.places) there fresh ready.own (placed-own rule pairs m fresh after placed);
  apart = append-apart there fresh ready.apart (placed-apart rule pairs m fresh after placed) (λ i j under high a b low less.
      let s = bytes-there m (present_at there i).places a (ready.held i under) low in
      placed-new rule pairs m fresh after j b (place_at (present_at there i).places a).address s.0 placed high less s.1);
}

-- new fragments changed, and nothing else did
pub held-rejoined : (m after : Layout) (there fresh : List Present) → AreReady m (there ++ fresh) → AllHeld after fresh → all_given_back after fresh ≡ all_given_back m fresh → AreReady after (there ++ fresh)
held-rejoined m after there fresh ready held same = record {
  held = each-of (λ f. AreHeld after f.places) there fresh
      (λ i under. held_same m after (present_at there i).places (λ k low.
      let apart = λ (j b : ℕ) (high : j < length fresh) (less : b < length (present_at fresh j).places). turned (present_at there i) (present_at fresh j) (cross-of there fresh ready.apart i j under high) b k less low in
      let address = (place_at (present_at there i).places k).address in
      sym (all-elsewhere after fresh address apart) ∙ ap (λ (l : Layout). bytes_at l.instances address) same ∙ all-elsewhere m fresh address apart)
      (left-of (λ f. AreHeld m f.places) there fresh ready.held i under))
      held;
  own = ready.own;
  apart = ready.apart;
}

-- one fragment is released
pub ready-without : (m : Layout) (xs : List Present) (f : Present) (ys : List Present) → AreReady m (xs ++ f ∷ ys) → AreReady (given_back m f.places) (xs ++ ys)
ready-without m xs f ys ready = record {
  held = each-of (λ g. AreHeld (given_back m f.places) g.places) xs ys
      (λ i under. stays (present_at xs i) (turned (present_at xs i) f (cross-of xs (f ∷ ys) ready.apart i 0 under (omega arith))) (left-of (λ g. AreHeld m g.places) xs (f ∷ ys) ready.held i under))
      (λ j high. stays (present_at ys j) (λ a b. right-apart xs (f ∷ ys) ready.apart 0 (suc j) a b (omega arith) (omega (arith, high)) (λ e. absurd (omega (arith, e)))) (right-of (λ g. AreHeld m g.places) xs (f ∷ ys) ready.held (suc j) (omega (arith, high))));
  own = each-of (λ g. AreApart g.places) xs ys (left-of (λ g. AreApart g.places) xs (f ∷ ys) ready.own) (λ j high. right-of (λ g. AreApart g.places) xs (f ∷ ys) ready.own (suc j) (omega (arith, high)));
  apart = append-apart xs ys (left-apart xs (f ∷ ys) ready.apart)
      (λ i j a b under high other. right-apart xs (f ∷ ys) ready.apart (suc i) (suc j) a b (omega (arith, under)) (omega (arith, high)) (λ e. other (omega (arith, e))))
      (λ i j under high. cross-of xs (f ∷ ys) ready.apart i (suc j) under (omega (arith, high)));
}
  where
    stays : (g : Present) → ArePairApart f g → AreHeld m g.places → AreHeld (given_back m f.places) g.places
    stays g apart held = held_same m (given_back m f.places) g.places (λ k low. given_back_elsewhere m f.places (place_at g.places k).address (λ a less. apart a k less low)) held

-- and is held before
pub held-there : (m : Layout) (xs : List Present) (f : Present) (ys : List Present) → AreReady m (xs ++ f ∷ ys) → AreHeld m f.places
held-there m xs f ys ready = right-of (λ g. AreHeld m g.places) xs (f ∷ ys) ready.held 0 (omega arith)

pub own-there : (m : Layout) (xs : List Present) (f : Present) (ys : List Present) → AreReady m (xs ++ f ∷ ys) → AreApart f.places
own-there m xs f ys ready = right-of (λ g. AreApart g.places) xs (f ∷ ys) ready.own 0 (omega arith)

-- the places of a fragment that is present are held
pub places-held : (m : Layout) (fs : List Present) (p : ℕ) → AllHeld m fs → AreHeld m (places_of fs p)
places-held m [] p held k d under = absurd (omega arith)
places-held m (f ∷ fs) p held k d under = elim (eqb_tells f.position p) [
  | inl same ↦ (let low : k < length f.places = rw same.0 at under in rw same.0 (held 0 (omega arith) k d low))
  | inr other ↦ (let low : k < length (places_of fs p) = rw other.0 at under in rw other.0 (places-held m fs p (λ i high. held (suc i) (omega arith)) k d low))
]
