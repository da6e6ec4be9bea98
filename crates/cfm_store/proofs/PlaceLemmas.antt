-- The place of the first pair with a name, before and after a pair is added.
use Rattle.std.proofs.Common.{◌≡◌, ℕ, zero, suc, ◌+◌, ◌-◌, ◌<◌, ◌≤◌, Bool, true, false, cond, List, [], ◌∷◌, ◌++◌, length, Option, None, Some, refl, sym, ap, ap₂, ◌∙◌, subst, arith, get_or, set, true≢false}
use Rattle.std.specs.Option.{option_or}
use Rattle.std.specs.Str.{bytes_eq}
use Rattle.std.specs.Prelude.{IfSome, IsSome, is_some}
use Rattle.std.proofs.lemmas.Slice.Eq.{bytes_eq-Decides}
use Rattle.pef_names.specs.declared.name_key.NameKey.{NameKey}
use Rattle.cfm_store.specs.Stores.{Pair, free_place, is_named, no_pair, pair_of, place_from, place_of, shown}
use Rattle.cfm_store.specs.Additions.{free_for, free_from, without_pair}
use Rattle.cfm_store.specs.Places.{ArePlaces, NotesPlace, place_in}
use Rattle.cfm_store.specs.Kept.Places.{SetsPlace}

-- a value, if a test holds
abbrev pub if_met : Bool → ℕ → Option ℕ
if_met true x = Some x
if_met false x = None

-- a pair with a name shows it
pub named-name : (x : Pair) (name : List ℕ) → is_named x name ≡ true → name ≡ x.name
named-name x name is = by x.free is
  where
    by : (free : Bool) → cond free false (bytes_eq name x.name) ≡ true → name ≡ x.name
    by true is = absurd (cc)
    by false is = (bytes_eq-Decides name x.name).0 is

named-shown : (x : Pair) (name : List ℕ) → is_named x name ≡ true → (shown x).name ≡ name
named-shown x name is = by x.free is
  where
    by : (free : Bool) → cond free false (bytes_eq name x.name) ≡ true → (cond free no_pair x).name ≡ name
    by true is = absurd (cc)
    by false is = sym ((bytes_eq-Decides name x.name).0 is)

-- a free place has no name, and no pair
pub free-unnamed : (x : Pair) (name : List ℕ) → x.free ≡ true → is_named x name ≡ false
free-unnamed x name free = ap (λ free. cond free false (bytes_eq name x.name)) free

pub free-shown : (x : Pair) → x.free ≡ true → shown x ≡ no_pair
free-shown x free = ap (λ free. cond free no_pair x) free

-- the first pair with a name is at or after the number from which they are counted, and among the
-- pairs
pub place_from-inside : (at : ℕ) (pairs : List Pair) (name : List ℕ) (p : ℕ) → place_from at pairs name ≡ Some p → (at ≤ p) × (p < at + length pairs)
place_from-inside at [] name p is = absurd (cc)
place_from-inside at (x ∷ pairs) name p is = by (is_named x name) is (place_from-inside (at + 1) pairs name p)
  where
    by : (here : Bool) → cond here (Some at) (place_from (at + 1) pairs name) ≡ Some p → (place_from (at + 1) pairs name ≡ Some p → (at + 1 ≤ p) × (p < at + 1 + length pairs)) → (at ≤ p) × (p < at + length (x ∷ pairs))
    by true is later = let same : at ≡ p = cc in (omega arith, omega arith)
    by false is later = let r = later is in (omega arith, omega arith)

pub place_of-below : (pairs : List Pair) (name : List ℕ) (p : ℕ) → place_of pairs name ≡ Some p → p < length pairs
unfolding place_of
place_of-below pairs name p is = let r = place_from-inside 0 pairs name p is in omega (arith, r.1)

-- the pair in that place has the name
place_from-met : (at : ℕ) (pairs : List Pair) (name : List ℕ) (p : ℕ) → place_from at pairs name ≡ Some p → is_named (get_or pairs (p - at) no_pair) name ≡ true
place_from-met at [] name p is = absurd (cc)
place_from-met at (x ∷ pairs) name p is = by (is_named x name) refl is (place_from-met (at + 1) pairs name p)
  where
    by : (here : Bool) → is_named x name ≡ here → cond here (Some at) (place_from (at + 1) pairs name) ≡ Some p → (place_from (at + 1) pairs name ≡ Some p → is_named (get_or pairs (p - (at + 1)) no_pair) name ≡ true)
        → is_named (get_or (x ∷ pairs) (p - at) no_pair) name ≡ true
    by true met is later =
        let same : at ≡ p = cc in
        let none : p - at ≡ 0 = omega arith in
        rw none met
    by false met is later =
        let low = (place_from-inside (at + 1) pairs name p is).0 in
        let more : p - at ≡ suc (p - (at + 1)) = omega arith in
        rw more (later is)

pub place_of-met : (pairs : List Pair) (name : List ℕ) (p : ℕ) → place_of pairs name ≡ Some p → is_named (get_or pairs p no_pair) name ≡ true
unfolding place_of
place_of-met pairs name p is =
    let from : p - 0 ≡ p = omega arith in
    let P : ℕ → Type 0 = λ n. is_named (get_or pairs n no_pair) name ≡ true in
    subst P from (place_from-met 0 pairs name p is)

pub place_of-named : (pairs : List Pair) (name : List ℕ) (p : ℕ) → place_of pairs name ≡ Some p → (pair_of pairs p).name ≡ name
place_of-named pairs name p is = named-shown (get_or pairs p no_pair) name (place_of-met pairs name p is)

-- .. so it isn't free
pub place_of-taken : (pairs : List Pair) (name : List ℕ) (p : ℕ) → place_of pairs name ≡ Some p → (get_or pairs p no_pair).free ≡ true → ⊥
place_of-taken pairs name p is free = let e : false ≡ true = sym (free-unnamed (get_or pairs p no_pair) name free) ∙ place_of-met pairs name p is in cc

-- .. and is the first with its own
pub place_of-first : (pairs : List Pair) (name : List ℕ) (p : ℕ) → place_of pairs name ≡ Some p → place_of pairs (pair_of pairs p).name ≡ Some p
place_of-first pairs name p is = ap (place_of pairs) (place_of-named pairs name p is) ∙ is

pub place_below : (pairs : List Pair) (name : List ℕ) (o : Option ℕ) → place_of pairs name ≡ o → IfSome o (λ p. p < length pairs)
place_below pairs name None is = tt
place_below pairs name (Some p) is = place_of-below pairs name p is

-- with one more pair, a name has the place that it had, or the last one
pub place_from-push : (at : ℕ) (pairs : List Pair) (x : Pair) (name : List ℕ) → place_from at (pairs ++ x ∷ []) name ≡ option_or (place_from at pairs name) (if_met (is_named x name) (at + length pairs))
place_from-push at [] x name = by (is_named x name)
  where
    by : (here : Bool) → cond here (Some at) None ≡ if_met here (at + 0)
    by true = ap Some (omega arith)
    by false = refl
place_from-push at (y ∷ pairs) x name = by (is_named y name) (place_from-push (at + 1) pairs x name)
  where
    by : (here : Bool) → place_from (at + 1) (pairs ++ x ∷ []) name ≡ option_or (place_from (at + 1) pairs name) (if_met (is_named x name) (at + 1 + length pairs)) → cond here (Some at) (place_from (at + 1) (pairs ++ x ∷ []) name) ≡ option_or (cond here (Some at) (place_from (at + 1) pairs name)) (if_met (is_named x name) (at + length (y ∷ pairs)))
    by true later = refl
    by false later =
        let same : at + 1 + length pairs ≡ at + length (y ∷ pairs) = omega arith in
        later ∙ ap (λ n. option_or (place_from (at + 1) pairs name) (if_met (is_named x name) n)) same

-- .. so it has the place that it had, unless it is that of the new pair and had none
pub place_of-with : (pairs : List Pair) (x : Pair) (name : List ℕ) → (name ≡ x.name → IsSome (place_of pairs name)) → place_of (pairs ++ x ∷ []) name ≡ place_of pairs name
unfolding place_of
place_of-with pairs x name known = place_from-push 0 pairs x name ∙ by (is_named x name) refl
  where
    found : (o : Option ℕ) → is_some o ≡ true → option_or o (Some (0 + length pairs)) ≡ o
    found None some = absurd (cc)
    found (Some p) some = refl

    none : (o : Option ℕ) → option_or o None ≡ o
    none None = refl
    none (Some p) = refl

    by : (here : Bool) → is_named x name ≡ here → option_or (place_of pairs name) (if_met here (0 + length pairs)) ≡ place_of pairs name
    by true met = found (place_of pairs name) (known (named-name x name met))
    by false met = none (place_of pairs name)

-- an option that isn't some is none
pub none_if : {A : Type 0} (o : Option A) → is_some o ≡ false → o ≡ None
none_if None none = refl
none_if (Some x) none = absurd (cc)

-- a pair in a place that isn't free has its name
pub taken-named : (x : Pair) (name : List ℕ) → x.free ≡ false → is_named x name ≡ bytes_eq name x.name
taken-named x name taken = ap (λ free. cond free false (bytes_eq name x.name)) taken

-- no names, no places
pub ArePlaces-nil : (pairs : List Pair) (entries : List (NameKey × ℕ)) → pairs ≡ [] → entries ≡ [] → ArePlaces pairs entries
unfolding place_of
ArePlaces-nil pairs entries none empty name = rw (none, empty) refl

-- a pair that isn't free has its own name
named-own : (x : Pair) → x.free ≡ false → is_named x x.name ≡ true
named-own x taken = taken-named x x.name taken ∙ (bytes_eq-Decides x.name x.name).1 refl

-- .. and no other
pub other-unnamed : (x : Pair) (name : List ℕ) → (name ≡ x.name → ⊥) → is_named x name ≡ false
other-unnamed x name other = by (is_named x name) refl
  where
    by : (b : Bool) → is_named x name ≡ b → b ≡ false
    by true met = absurd (other (named-name x name met))
    by false met = refl

-- where one name gets its new place, and the others keep theirs, the table has the places of the new pairs
ArePlaces-sets : (old new : List Pair) (m n : List (NameKey × ℕ)) (name : List ℕ) (place : Option ℕ) → ArePlaces old m → SetsPlace m name place n → place ≡ place_of new name
    → ((other : List ℕ) → (other ≡ name → ⊥) → place_of new other ≡ place_of old other) → ArePlaces new n
ArePlaces-sets old new m n name place are sets own others other = by (bytes_eq name other) refl
  where
    by : (b : Bool) → bytes_eq name other ≡ b → place_in n other ≡ place_of new other
    by true met = let P : List ℕ → Type 0 = λ other. place_in n other ≡ place_of new other in subst P ((bytes_eq-Decides name other).0 met) (sets.own ∙ own)
    by false apart = sets.others other apart ∙ are other ∙ sym (others other (λ same. true≢false (sym ((bytes_eq-Decides name other).1 (sym same)) ∙ apart)))

module _ (entries : List (NameKey × ℕ)) (name : List ℕ) (place : ℕ) where
  -- a new name gets the place of the last pair
  pub NotesPlace-new : (new : List (NameKey × ℕ)) → place_in entries name ≡ None → SetsPlace entries name (Some place) new → NotesPlace entries name place new
  unfolding place_of
  NotesPlace-new new absent sets pairs x are same taken last =
      ArePlaces-sets pairs (pairs ++ x ∷ []) entries new name (Some place) are sets
      (sym (place_from-push 0 pairs x name
      ∙ ap₂ (λ o b. option_or o (if_met b (0 + length pairs))) (sym (are name) ∙ absent) (ap (is_named x) (sym same) ∙ named-own x taken)
      ∙ ap Some (omega (arith, last))))
      (λ other apart. place_of-with pairs x other (λ is. absurd (apart (is ∙ same))))

  -- .. and one that already exists keeps its place
  pub NotesPlace-known : (new : List (NameKey × ℕ)) → is_some (place_in entries name) ≡ true → new ≡ entries → NotesPlace entries name place new
  NotesPlace-known new there is pairs x are same taken last sought =
      ap (λ (es : List (NameKey × ℕ)). place_in es sought) is
      ∙ are sought
      ∙ sym (place_of-with pairs x sought (λ e. ap (λ n. is_some (place_of pairs n)) (e ∙ same) ∙ ap is_some (sym (are name)) ∙ there))

-- a name that neither the old nor the new pair of a place has keeps its place
place_from-set : (at : ℕ) (pairs : List Pair) (p : ℕ) (x : Pair) (name : List ℕ) → is_named (get_or pairs p no_pair) name ≡ false → is_named x name ≡ false → place_from at (set pairs p x) name ≡ place_from at pairs name
place_from-set at [] p x name old new = refl
place_from-set at (y ∷ pairs) zero x name old new = rw (old, new) refl
place_from-set at (y ∷ pairs) (suc p) x name old new = by (is_named y name) (place_from-set (at + 1) pairs p x name old new)
  where
    by : (here : Bool) → place_from (at + 1) (set pairs p x) name ≡ place_from (at + 1) pairs name → cond here (Some at) (place_from (at + 1) (set pairs p x) name) ≡ cond here (Some at) (place_from (at + 1) pairs name)
    by true later = refl
    by false later = later

pub place_of-set : (pairs : List Pair) (p : ℕ) (x : Pair) (name : List ℕ) → is_named (get_or pairs p no_pair) name ≡ false → is_named x name ≡ false → place_of (set pairs p x) name ≡ place_of pairs name
unfolding place_of
place_of-set pairs p x name old new = place_from-set 0 pairs p x name old new

-- a name that no pair has gets the place of the pair that is put there
place_from-there : (at : ℕ) (pairs : List Pair) (p : ℕ) (x : Pair) (name : List ℕ) → place_from at pairs name ≡ None → p < length pairs → is_named x name ≡ true → place_from at (set pairs p x) name ≡ Some (at + p)
place_from-there at [] p x name none inside met = absurd (omega (arith, inside))
place_from-there at (y ∷ pairs) zero x name none inside met = rw met (ap Some (omega arith))
place_from-there at (y ∷ pairs) (suc p) x name none inside met = by (is_named y name) none (λ none. place_from-there (at + 1) pairs p x name none (omega (arith, inside)) met)
  where
    by : (here : Bool) → cond here (Some at) (place_from (at + 1) pairs name) ≡ None → (place_from (at + 1) pairs name ≡ None → place_from (at + 1) (set pairs p x) name ≡ Some (at + 1 + p))
        → cond here (Some at) (place_from (at + 1) (set pairs p x) name) ≡ Some (at + suc p)
    by true none later = absurd (cc)
    by false none later = later none ∙ ap Some (omega arith)

pub place_of-there : (pairs : List Pair) (p : ℕ) (x : Pair) (name : List ℕ) → place_of pairs name ≡ None → p < length pairs → is_named x name ≡ true → place_of (set pairs p x) name ≡ Some p
unfolding place_of
place_of-there pairs p x name none inside met = place_from-there 0 pairs p x name none inside met ∙ ap Some (omega arith)

-- the first free place is one of the store's, and is free
pub record IsFreeAt (at : ℕ) (pairs : List Pair) (p : ℕ) : Type 0 where
  pub low : at ≤ p
  pub high : p < at + length pairs
  pub free : (get_or pairs (p - at) no_pair).free ≡ true

free_from-is : (at : ℕ) (pairs : List Pair) (p : ℕ) → free_from at pairs ≡ Some p → IsFreeAt at pairs p
free_from-is at [] p is = absurd (cc)
free_from-is at (x ∷ pairs) p is = by x.free refl is (free_from-is (at + 1) pairs p)
  where
    by : (free : Bool) → x.free ≡ free → cond free (Some at) (free_from (at + 1) pairs) ≡ Some p → (free_from (at + 1) pairs ≡ Some p → IsFreeAt (at + 1) pairs p) → IsFreeAt at (x ∷ pairs) p
    by true met is later =
        let same : at ≡ p = cc in
        let none : p - at ≡ 0 = omega arith in
        record { low = omega arith; high = omega arith; free = rw none met }
    by false met is later =
        let r = later is in
        let low = r.low in
        let high = r.high in
        let more : p - at ≡ suc (p - (at + 1)) = omega arith in
        record { low = omega arith; high = omega arith; free = rw more r.free }

-- the free place for a new pair: no pair has its name
pub record IsFreeFor (pairs : List Pair) (name : List ℕ) (p : ℕ) : Type 0 where
  pub inside : p < length pairs
  pub free : (get_or pairs p no_pair).free ≡ true
  pub none : place_of pairs name ≡ None

pub free_for-is : (pairs : List Pair) (name : List ℕ) (p : ℕ) → free_for pairs name ≡ Some p → IsFreeFor pairs name p
unfolding free_for
free_for-is pairs name p is = by (place_of pairs name) refl is
  where
    by : (o : Option ℕ) → place_of pairs name ≡ o → cond (is_some o) None (free_from 0 pairs) ≡ Some p → IsFreeFor pairs name p
    by (Some q) has is = absurd (cc)
    by None has is =
        let r = free_from-is 0 pairs p is in
        let high = r.high in
        let from : p - 0 ≡ p = omega arith in
        let P : ℕ → Type 0 = λ n. (get_or pairs n no_pair).free ≡ true in
        record { inside = omega arith; free = subst P from r.free; none = has }

-- the table has the places after a pair is put into a free place
pub ArePlaces-filled : (pairs : List Pair) (p : ℕ) (x : Pair) (m n : List (NameKey × ℕ)) → ArePlaces pairs m → IsFreeFor pairs x.name p → x.free ≡ false → SetsPlace m x.name (Some p) n → ArePlaces (set pairs p x) n
ArePlaces-filled pairs p x m n are free taken sets =
    ArePlaces-sets pairs (set pairs p x) m n x.name (Some p) are sets
    (sym (place_of-there pairs p x x.name free.none free.inside (named-own x taken)))
    (λ other apart. place_of-set pairs p x other (free-unnamed (get_or pairs p no_pair) other free.free) (other-unnamed x other apart))

-- a name that the pair in a place doesn't have keeps its place without it
pub place_of-removed : (pairs : List Pair) (p : ℕ) (name : List ℕ) → (name ≡ (get_or pairs p no_pair).name → ⊥) → place_of (without_pair pairs p) name ≡ place_of pairs name
place_of-removed pairs p name apart = place_of-set pairs p free_place name (other-unnamed (get_or pairs p no_pair) name apart) refl

-- .. and after the pair in a place is removed
pub ArePlaces-removed : (pairs : List Pair) (p : ℕ) (name : List ℕ) (m n : List (NameKey × ℕ)) → ArePlaces pairs m → (get_or pairs p no_pair).name ≡ name → SetsPlace m name (place_of (without_pair pairs p) name) n → ArePlaces (without_pair pairs p) n
ArePlaces-removed pairs p name m n are is sets =
    ArePlaces-sets pairs (without_pair pairs p) m n name (place_of (without_pair pairs p) name) are sets refl
    (λ other apart. place_of-removed pairs p other (λ same. apart (same ∙ is)))
