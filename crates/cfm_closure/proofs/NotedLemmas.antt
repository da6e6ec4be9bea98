-- A missing library is noted by the place of its name.
use Rattle.std.proofs.Common.{◌≡◌, ℕ, suc, ◌+◌, ◌-◌, ◌<◌, Bool, true, false, not, ◌&&◌, cond, List, [], ◌∷◌, ◌++◌, map, length, None, Some, refl, sym, ap, ◌∙◌, subst, get_or, set, arith}
use Rattle.std.specs.Str.{bytes_eq}
use Rattle.std.proofs.Math.Seq.{map-set_same}
use Rattle.std.proofs.lemmas.List.{get_or-map, length-map, map-set, map_push, set-get_or}
use Rattle.pef_names.specs.declared.name_key.NameKey.{NameKey}
use Rattle.cfm_closure.specs.declared.missing.MissingLibrary.{MissingLibrary}
use Rattle.cfm_closure.specs.Kept.Notes.{AreNamed, name_pair}
use Rattle.cfm_store.specs.Places.{ArePlaces}
use Rattle.cfm_closure.specs.Missing.{Missing, noted, stricter}
use Rattle.cfm_store.specs.Stores.{Pair, no_pair, place_from, place_of, shown}
use Rattle.cfm_closure.specs.Views.{missing_seen}
use Rattle.cfm_store.proofs.Laws.{place_from-inside, place_of-below, place_of-named}

-- a new name goes last
noted_from-new : (at : ℕ) (ms : List Missing) (m : Missing) → place_from at (map name_pair ms) m.name ≡ None → noted ms m ≡ ms ++ m ∷ []
unfolding noted
noted_from-new at [] m none = refl
noted_from-new at (x ∷ ms) m none = by (bytes_eq m.name x.name) none (noted_from-new (at + 1) ms m)
  where
    by : (here : Bool) → cond here (Some at) (place_from (at + 1) (map name_pair ms) m.name) ≡ None → (place_from (at + 1) (map name_pair ms) m.name ≡ None → noted ms m ≡ ms ++ m ∷ []) → cond here (stricter x m ∷ ms) (x ∷ noted ms m) ≡ x ∷ ms ++ m ∷ []
    by true none later = absurd (cc)
    by false none later = ap (λ ys. x ∷ ys) (later none)

-- one that is there keeps its place
noted_from-known : (at : ℕ) (ms : List Missing) (m : Missing) (p : ℕ) → place_from at (map name_pair ms) m.name ≡ Some p → noted ms m ≡ set ms (p - at) (stricter (get_or ms (p - at) m) m)
unfolding noted
noted_from-known at [] m p is = absurd (cc)
noted_from-known at (x ∷ ms) m p is = by (bytes_eq m.name x.name) is (noted_from-known (at + 1) ms m p)
  where
    by : (here : Bool) → cond here (Some at) (place_from (at + 1) (map name_pair ms) m.name) ≡ Some p → (place_from (at + 1) (map name_pair ms) m.name ≡ Some p → noted ms m ≡ set ms (p - (at + 1)) (stricter (get_or ms (p - (at + 1)) m) m)) → cond here (stricter x m ∷ ms) (x ∷ noted ms m) ≡ set (x ∷ ms) (p - at) (stricter (get_or (x ∷ ms) (p - at) m) m)
    by true is later =
        let same : at ≡ p = cc in
        let none : p - at ≡ 0 = omega arith in
        rw none refl
    by false is later =
        let low = (place_from-inside (at + 1) (map name_pair ms) m.name p is).0 in
        let more : p - at ≡ suc (p - (at + 1)) = omega arith in
        rw more (ap (λ ys. x ∷ ys) (later is))

module _ (items : List MissingLibrary) (m : MissingLibrary) where
  abbrev before : List Missing
  before = map missing_seen items

  abbrev names : List Pair
  names = map name_pair (map missing_seen items)

  pub noted-new : place_of (map name_pair (map missing_seen items)) m.name.now ≡ None → map missing_seen (items ++ m ∷ []) ≡ noted (map missing_seen items) (missing_seen m)
  unfolding place_of
  noted-new none = map_push missing_seen items m ∙ sym (noted_from-new 0 before (missing_seen m) none)

  module _ (at : ℕ) (d : MissingLibrary) (is : place_of (map name_pair (map missing_seen items)) m.name.now ≡ Some at) where
    pub known-inside : at < length items
    known-inside =
        let under = place_of-below names m.name.now at is in
        let long = length-map before name_pair in
        let long' = length-map items missing_seen in
        omega (arith, under, long, long')

    known-is : get_or before at (missing_seen m) ≡ missing_seen (get_or items at d)
    known-is = get_or-map missing_seen items at d (missing_seen m) known-inside

    known-noted : noted before (missing_seen m) ≡ set before at (stricter (missing_seen (get_or items at d)) (missing_seen m))
    unfolding place_of
    known-noted =
        let from : at - 0 ≡ at = omega arith in
        let P : ℕ → Type 0 = λ n. noted before (missing_seen m) ≡ set before n (stricter (get_or before n (missing_seen m)) (missing_seen m)) in
        subst P from (noted_from-known 0 before (missing_seen m) at is)
        ∙ ap (λ x. set before at (stricter x (missing_seen m))) known-is

    -- a stricter entry takes its place
    pub noted-stricter : ((get_or items at d).weak && not m.weak) ≡ true → map missing_seen (set items at m) ≡ noted (map missing_seen items) (missing_seen m)
    noted-stricter is_stricter =
        map-set missing_seen items at m
        ∙ sym (known-noted ∙ ap (λ t. set before at (cond t (missing_seen m) (missing_seen (get_or items at d)))) is_stricter)

    -- any other stays
    pub noted-same : ((get_or items at d).weak && not m.weak) ≡ false → map missing_seen items ≡ noted (map missing_seen items) (missing_seen m)
    noted-same stays =
        sym (known-noted
        ∙ ap (λ t. set before at (cond t (missing_seen m) (missing_seen (get_or items at d)))) stays
        ∙ ap (λ x. set before at x) (sym known-is)
        ∙ set-get_or before at (missing_seen m))

    -- the names stay in their places
    pub named-set : (entries : List (NameKey × ℕ)) → AreNamed (map missing_seen items) entries → AreNamed (map missing_seen (set items at m)) entries
    named-set entries are =
        let d : Missing = missing_seen m in
        let inside : at < length before = let long = length-map items missing_seen in let under = known-inside in omega (arith, long, under) in
        let name : m.name.now ≡ (get_or before at d).name = sym (place_of-named names m.name.now at is) ∙ ap (λ (p : Pair). (shown p).name) (get_or-map name_pair before at d no_pair inside) in
        let same : name_pair d ≡ name_pair (get_or before at d) = ap (λ n. name_pair (record d { name = n })) name in
        let all : map name_pair (map missing_seen (set items at m)) ≡ names = ap (map name_pair) (map-set missing_seen items at m) ∙ map-set_same name_pair before at d d same in
        subst (λ (ps : List Pair). ArePlaces ps entries) (sym all) are
