-- The candidates that their names mean.
use Rattle.std.proofs.Common.{◌≡◌, ◌∙◌, ◌⊎◌, ℕ, zero, suc, ◌+◌, ◌<◌, ◌≤◌, Bool, true, false, List, [], ◌∷◌, Option, None, Some, length, map, inl, inr, refl, ap, ap₂, subst, sym, arith}
use Rattle.std.specs.Prelude.{◌&&◌, ◌==◌, cond, nat_lt, not, option_map}
use Rattle.std.specs.List.{slice_get}
use Rattle.std.specs.Option.{option_and_then, option_map_or}
use Rattle.std.specs.Str.{bytes_eq}
use Rattle.std.proofs.lemmas.Bool.{and_from, and_parts, eqb-true, eq-eqb, false≢true, ltb-false, ltb-true, not-true}
use Rattle.std.proofs.lemmas.Option.{slice_get-map}
use Rattle.std.proofs.lemmas.Slice.Eq.{bytes_eq-Decides}
use Rattle.mac_fragments.specs.Candidates.{CandidateIs}
use Rattle.mac_fragments.specs.Choices.{IsServed, Place, Ranked, best, better, chosen, chosen_at, fragment_of, is_at, is_meant, meant_from, name_at, own_place, ranked, ranked_among}

-- the better of two places is one of them, and isn't worse than either
abbrev AtLeast : Option Place → ℕ → Type 0
AtLeast found least = (q : Place) × (found ≡ Some q) × (least ≤ q.rank)

first-kept : (a b : Place) → AtLeast (better (Some a) (Some b)) a.rank
first-kept a b = by (nat_lt a.rank b.rank) refl
  where
    by : (t : Bool) → nat_lt a.rank b.rank ≡ t → AtLeast (Some (cond t b a)) a.rank
    by true less = (b, refl, (let l = ltb-true a.rank b.rank less in omega (arith, l)))
    by false less = (a, refl, omega arith)

second-kept : (a b : Place) → AtLeast (better (Some a) (Some b)) b.rank
second-kept a b = by (nat_lt a.rank b.rank) refl
  where
    by : (t : Bool) → nat_lt a.rank b.rank ≡ t → AtLeast (Some (cond t b a)) b.rank
    by true less = (b, refl, omega arith)
    by false less = (a, refl, ltb-false a.rank b.rank less)

better-first : (a : Place) (b : Option Place) → AtLeast (better (Some a) b) a.rank
better-first a None = (a, refl, omega arith)
better-first a (Some b) = first-kept a b

better-second : (a : Option Place) (b : Place) → AtLeast (better a (Some b)) b.rank
better-second None b = (b, refl, omega arith)
better-second (Some a) b = second-kept a b

pick : (t : Bool) (a b q : Place) → Some (cond t b a) ≡ Some q → (a ≡ q) ⊎ (b ≡ q)
pick true a b q is = inr (cc)
pick false a b q is = inl (cc)

better-is : (a b : Option Place) (q : Place) → better a b ≡ Some q → (a ≡ Some q) ⊎ (b ≡ Some q)
better-is None b q is = inr is
better-is (Some a) None q is = inl is
better-is (Some a) (Some b) q is = elim (pick (nat_lt a.rank b.rank) a b q is) [
  | inl first ↦ inl (ap Some first)
  | inr second ↦ inr (ap Some second)
]

-- a library with a name is no better than the best
same-name : (a b : List ℕ) → a ≡ b → bytes_eq a b ≡ true
same-name a b same = (bytes_eq-Decides a b).1 same

own-place : (name : List ℕ) (at : ℕ) (r : Ranked) → r.usage ≡ 0 → r.name ≡ name → own_place name at r ≡ Some (record { place = at; rank = r.rank })
own-place name at r library same =
    ap (λ t. cond t (Some (record { place = at; rank = r.rank })) None) (and_from (r.usage == 0) (bytes_eq r.name name) (eq-eqb r.usage 0 library) (same-name r.name name same))

best-there : (name : List ℕ) (at : ℕ) (rs : List Ranked) (k : ℕ) (r : Ranked) → slice_get rs k ≡ Some r → r.usage ≡ 0 → r.name ≡ name → AtLeast (best name at rs) r.rank
best-there name at [] k r here library same = absurd (cc)
best-there name at (x ∷ rs) zero r here library same =
    let e : x ≡ r = cc in
    let own = own-place name at x (ap (λ (r : Ranked). r.usage) e ∙ library) (ap (λ (r : Ranked). r.name) e ∙ same) in
    let found = better-first (record { place = at; rank = x.rank }) (best name (at + 1) rs) in
    (found.0, ap (λ o. better o (best name (at + 1) rs)) own ∙ found.1, subst (λ (r : Ranked). r.rank ≤ found.0.rank) e found.2)
best-there name at (x ∷ rs) (suc k) r here library same =
    let later = best-there name (at + 1) rs k r here library same in
    let found = better-second (own_place name at x) later.0 in
    (found.0, ap (better (own_place name at x)) later.1 ∙ found.1, (let a = later.2 in let b = found.2 in omega (arith, a, b)))

-- the best is a library with the name
record IsFrom (name : List ℕ) (at : ℕ) (rs : List Ranked) (q : Place) : Type 0 where
  index : ℕ
  ranked : Ranked
  here : slice_get rs index ≡ Some ranked
  place : q.place ≡ at + index
  rank : q.rank ≡ ranked.rank
  usage : ranked.usage ≡ 0
  name_is : ranked.name ≡ name

own-from : (name : List ℕ) (at : ℕ) (r : Ranked) (rs : List Ranked) (q : Place) → own_place name at r ≡ Some q → IsFrom name at (r ∷ rs) q
own-from name at r rs q is = by (r.usage == 0 && bytes_eq r.name name) refl is
  where
    by : (t : Bool) → (r.usage == 0 && bytes_eq r.name name) ≡ t → cond t (Some (record { place = at; rank = r.rank })) None ≡ Some q → IsFrom name at (r ∷ rs) q
    by true both is =
        let parts = and_parts (r.usage == 0) (bytes_eq r.name name) both in
        let p : at ≡ q.place = cc in
        let k : r.rank ≡ q.rank = cc in
        record {
          index = 0;
          ranked = r;
          here = refl;
          place = omega (arith, p);
          rank = sym k;
          usage = eqb-true r.usage 0 parts.0;
          name_is = (bytes_eq-Decides r.name name).0 parts.1;
        }
    by false both is = absurd (cc)

best-is : (name : List ℕ) (at : ℕ) (rs : List Ranked) (q : Place) → best name at rs ≡ Some q → IsFrom name at rs q
best-is name at [] q is = absurd (cc)
best-is name at (r ∷ rs) q is = elim (better-is (own_place name at r) (best name (at + 1) rs) q is) [
  | inl own ↦ own-from name at r rs q own
  | inr later ↦ next (best-is name (at + 1) rs q later)
]
  where
    next : IsFrom name (at + 1) rs q → IsFrom name at (r ∷ rs) q
    next f = record {
      index = suc f.index;
      ranked = f.ranked;
      here = f.here;
      place = (let p = f.place in omega (arith, p));
      rank = f.rank;
      usage = f.usage;
      name_is = f.name_is;
    }

-- a place among those that are meant
record IsMeant (all : List Ranked) (root : List ℕ) (at : ℕ) (rs : List Ranked) (p : ℕ) : Type 0 where
  index : ℕ
  ranked : Ranked
  here : slice_get rs index ≡ Some ranked
  place : p ≡ at + index
  meant : is_meant all root p ranked ≡ true

meant-next : (all : List Ranked) (root : List ℕ) (at : ℕ) (r : Ranked) (rs : List Ranked) (p : ℕ) → IsMeant all root (at + 1) rs p → IsMeant all root at (r ∷ rs) p
meant-next all root at r rs p m = record { index = suc m.index; ranked = m.ranked; here = m.here; place = (let e = m.place in omega (arith, e)); meant = m.meant }

meant-step : (all : List Ranked) (root : List ℕ) (at : ℕ) (r : Ranked) (rs : List Ranked) (p : ℕ) (t : Bool) (j : ℕ) → is_meant all root at r ≡ t
    → ((j : ℕ) → slice_get (meant_from all root (at + 1) rs) j ≡ Some p → IsMeant all root (at + 1) rs p)
    → slice_get (cond t (at ∷ meant_from all root (at + 1) rs) (meant_from all root (at + 1) rs)) j ≡ Some p → IsMeant all root at (r ∷ rs) p
meant-step all root at r rs p true zero meant again here =
    let e : at ≡ p = cc in
    record { index = 0; ranked = r; here = refl; place = omega (arith, e); meant = subst (λ p. is_meant all root p r ≡ true) e meant }
meant-step all root at r rs p true (suc j) meant again here = meant-next all root at r rs p (again j here)
meant-step all root at r rs p false j meant again here = meant-next all root at r rs p (again j here)

meant-is : (all : List Ranked) (root : List ℕ) (at : ℕ) (rs : List Ranked) (j p : ℕ) → slice_get (meant_from all root at rs) j ≡ Some p → IsMeant all root at rs p
meant-is all root at [] j p here = absurd (cc)
meant-is all root at (r ∷ rs) j p here = meant-step all root at r rs p (is_meant all root at r) j refl (λ j here. meant-is all root (at + 1) rs j p here) here

meant-there : (all : List Ranked) (root : List ℕ) (at : ℕ) (rs : List Ranked) (k : ℕ) (r : Ranked) → slice_get rs k ≡ Some r → is_meant all root (at + k) r ≡ true
    → (j : ℕ) × (slice_get (meant_from all root at rs) j ≡ Some (at + k))
meant-there all root at [] k r here meant = absurd (cc)
meant-there all root at (x ∷ rs) zero r here meant =
    let e : at + 0 ≡ at = omega arith in
    let same : r ≡ x = cc in
    let m : is_meant all root at x ≡ true = ap₂ (λ p r. is_meant all root p r) (sym e) (sym same) ∙ meant in
    (0, ap (λ t. slice_get (cond t (at ∷ meant_from all root (at + 1) rs) (meant_from all root (at + 1) rs)) 0) m ∙ ap Some (sym e))
meant-there all root at (x ∷ rs) (suc k) r here meant =
    let e : at + 1 + k ≡ at + suc k = omega arith in
    let later = meant-there all root (at + 1) rs k r here (ap (λ p. is_meant all root p r) e ∙ meant) in
    by (is_meant all root at x) later.0 (later.1 ∙ ap Some e)
  where
    by : (t : Bool) (j : ℕ) → slice_get (meant_from all root (at + 1) rs) j ≡ Some (at + suc k) → (j : ℕ) × (slice_get (cond t (at ∷ meant_from all root (at + 1) rs) (meant_from all root (at + 1) rs)) j ≡ Some (at + suc k))
    by true j here = (suc j, here)
    by false j here = (j, here)

meant-above : (all : List Ranked) (root : List ℕ) (at : ℕ) (rs : List Ranked) (j p : ℕ) → at ≡ p → slice_get (meant_from all root (at + 1) rs) j ≡ Some p → ⊥
meant-above all root at rs j p same here = (let m = meant-is all root (at + 1) rs j p here in let place = m.place in omega (arith, same, place))

once-step : (all : List Ranked) (root : List ℕ) (at : ℕ) (rs : List Ranked) (p : ℕ) (t : Bool) (i j : ℕ)
    → ((i j : ℕ) → slice_get (meant_from all root (at + 1) rs) i ≡ Some p → slice_get (meant_from all root (at + 1) rs) j ≡ Some p → i ≡ j)
    → slice_get (cond t (at ∷ meant_from all root (at + 1) rs) (meant_from all root (at + 1) rs)) i ≡ Some p
    → slice_get (cond t (at ∷ meant_from all root (at + 1) rs) (meant_from all root (at + 1) rs)) j ≡ Some p → i ≡ j
once-step all root at rs p true zero zero again first second = refl
once-step all root at rs p true zero (suc j) again first second = (let e : at ≡ p = cc in absurd (meant-above all root at rs j p e second))
once-step all root at rs p true (suc i) zero again first second = (let e : at ≡ p = cc in absurd (meant-above all root at rs i p e first))
once-step all root at rs p true (suc i) (suc j) again first second = ap suc (again i j first second)
once-step all root at rs p false i j again first second = again i j first second

meant-once : (all : List Ranked) (root : List ℕ) (at : ℕ) (rs : List Ranked) (i j p : ℕ) → slice_get (meant_from all root at rs) i ≡ Some p → slice_get (meant_from all root at rs) j ≡ Some p → i ≡ j
meant-once all root at [] i j p first second = absurd (cc)
meant-once all root at (r ∷ rs) i j p first second = once-step all root at rs p (is_meant all root at r) i j (λ i j first second. meant-once all root (at + 1) rs i j p first second) first second

-- a candidate and its rank
abbrev ranks : List CandidateIs → CandidateIs → Ranked
ranks candidates = ranked_among (map fragment_of candidates)

ranked-at : (candidates : List CandidateIs) (k : ℕ) (c : CandidateIs) → slice_get candidates k ≡ Some c → slice_get (ranked candidates) k ≡ Some (ranks candidates c)
unfolding ranked
ranked-at candidates k c here = slice_get-map (ranks candidates) candidates k ∙ ap (option_map (ranks candidates)) here

candidate-at : (candidates : List CandidateIs) (k : ℕ) (r : Ranked) → slice_get (ranked candidates) k ≡ Some r → (c : CandidateIs) × (slice_get candidates k ≡ Some c) × (ranks candidates c ≡ r)
unfolding ranked
candidate-at candidates k r here = by (slice_get candidates k) refl (sym (slice_get-map (ranks candidates) candidates k) ∙ here)
  where
    by : (o : Option CandidateIs) → slice_get candidates k ≡ o → option_map (ranks candidates) o ≡ Some r → (c : CandidateIs) × (slice_get candidates k ≡ Some c) × (ranks candidates c ≡ r)
    by None there is = absurd (cc)
    by (Some c) there is = (let e : ranks candidates c ≡ r = cc in (c, there, e))

-- the name of the root
root-name : (candidates : List CandidateIs) (root : ℕ) (a : CandidateIs) → slice_get candidates root ≡ Some a → name_at (ranked candidates) root ≡ a.name
root-name candidates root a here = ap (λ o. option_map_or (λ r. r.name) o []) (ranked-at candidates root a here)

-- the facts of a candidate that is meant
record MeantFacts (all : List Ranked) (root : List ℕ) (p : ℕ) (r : Ranked) : Type 0 where
  apart : bytes_eq r.name root ≡ false
  best_place : Place
  best_is : best r.name 0 all ≡ Some best_place
  place_is : best_place.place ≡ p

place-known : (o : Option Place) (p : ℕ) → is_at p o ≡ true → (q : Place) × (o ≡ Some q) × (q.place ≡ p)
place-known None p is = absurd (cc)
place-known (Some q) p is = (q, refl, eqb-true q.place p is)

meant-facts : (all : List Ranked) (root : List ℕ) (p : ℕ) (r : Ranked) → is_meant all root p r ≡ true → MeantFacts all root p r
meant-facts all root p r is =
    let outer = and_parts (r.usage == 0 && not (bytes_eq r.name root)) (is_at p (best r.name 0 all)) is in
    let inner = and_parts (r.usage == 0) (not (bytes_eq r.name root)) outer.0 in
    let known = place-known (best r.name 0 all) p outer.1 in
    record { apart = not-true (bytes_eq r.name root) inner.1; best_place = known.0; best_is = known.1; place_is = known.2 }

some-same : {A : Type 0} {x y : A} → Some x ≡ Some y → x ≡ y
some-same same = cc

slice_get_inside : {A : Type 0} (xs : List A) (k : ℕ) → k < length xs → (x : A) × (slice_get xs k ≡ Some x)
slice_get_inside [] k inside = absurd (omega arith)
slice_get_inside (x ∷ xs) zero inside = (x, refl)
slice_get_inside (x ∷ xs) (suc k) inside = slice_get_inside xs k (omega arith)

-- the root comes first
pub root-first : (candidates : List CandidateIs) (root : ℕ) → slice_get (chosen candidates root) 0 ≡ Some root
unfolding chosen
root-first candidates root = refl

-- no two chosen candidates have the same name
record MeantAt (candidates : List CandidateIs) (root p : ℕ) (c : CandidateIs) : Type 0 where
  there : slice_get candidates p ≡ Some c
  facts : MeantFacts (ranked candidates) (name_at (ranked candidates) root) p (ranks candidates c)

meant-candidate : (candidates : List CandidateIs) (root j p : ℕ) → slice_get (meant_from (ranked candidates) (name_at (ranked candidates) root) 0 (ranked candidates)) j ≡ Some p → (c : CandidateIs) × MeantAt candidates root p c
meant-candidate candidates root j p here =
    let all = ranked candidates in
    let m = meant-is all (name_at all root) 0 all j p here in
    let p_is : m.index ≡ p = (let e = m.place in omega (arith, e)) in
    let c = candidate-at candidates m.index m.ranked m.here in
    let facts = meant-facts all (name_at all root) p m.ranked m.meant in
    (c.0, record { there = subst (λ p. slice_get candidates p ≡ Some c.0) p_is c.1; facts = subst (MeantFacts all (name_at all root) p) (sym c.2) facts })

same-place : (candidates : List CandidateIs) (root p q : ℕ) (a b : CandidateIs) → MeantAt candidates root p a → MeantAt candidates root q b → a.name ≡ b.name → p ≡ q
same-place candidates root p q a b first second same =
    let e : Some first.facts.best_place ≡ Some second.facts.best_place = sym first.facts.best_is ∙ ap (λ name. best name 0 (ranked candidates)) same ∙ second.facts.best_is in
    let place : first.facts.best_place ≡ second.facts.best_place = cc in
    sym first.facts.place_is ∙ ap (λ (b : Place). b.place) place ∙ second.facts.place_is

root-apart : (candidates : List CandidateIs) (root q : ℕ) (a b : CandidateIs) → slice_get candidates root ≡ Some a → MeantAt candidates root q b → a.name ≡ b.name → ⊥
root-apart candidates root q a b here meant same =
    let e : b.name ≡ name_at (ranked candidates) root = sym same ∙ sym (root-name candidates root a here) in
    false≢true (sym meant.facts.apart ∙ same-name b.name (name_at (ranked candidates) root) e)

some-place : (candidates : List CandidateIs) (o : Option ℕ) (a : CandidateIs) → option_and_then (slice_get candidates) o ≡ Some a → (p : ℕ) × (o ≡ Some p) × (slice_get candidates p ≡ Some a)
some-place candidates None a is = absurd (cc)
some-place candidates (Some p) a is = (p, refl, is)

pub chosen-apart : (candidates : List CandidateIs) (root j k : ℕ) (a b : CandidateIs) → root < length candidates → chosen_at candidates root j ≡ Some a → chosen_at candidates root k ≡ Some b → a.name ≡ b.name → j ≡ k
unfolding chosen
chosen-apart candidates root zero zero a b inside first second same = refl
chosen-apart candidates root zero (suc k) a b inside first second same = absurd (by (some-place candidates (slice_get (meant_from (ranked candidates) (name_at (ranked candidates) root) 0 (ranked candidates)) k) b second))
  where
    by : (p : ℕ) × (slice_get (meant_from (ranked candidates) (name_at (ranked candidates) root) 0 (ranked candidates)) k ≡ Some p) × (slice_get candidates p ≡ Some b) → ⊥
    by p =
        let m = meant-candidate candidates root k p.0 p.1 in
        let e : m.0 ≡ b = some-same (sym m.1.there ∙ p.2) in
        root-apart candidates root p.0 a m.0 first m.1 (same ∙ ap (λ (c : CandidateIs). c.name) (sym e))
chosen-apart candidates root (suc j) zero a b inside first second same = absurd (by (some-place candidates (slice_get (meant_from (ranked candidates) (name_at (ranked candidates) root) 0 (ranked candidates)) j) a first))
  where
    by : (p : ℕ) × (slice_get (meant_from (ranked candidates) (name_at (ranked candidates) root) 0 (ranked candidates)) j ≡ Some p) × (slice_get candidates p ≡ Some a) → ⊥
    by p =
        let m = meant-candidate candidates root j p.0 p.1 in
        let e : m.0 ≡ a = some-same (sym m.1.there ∙ p.2) in
        root-apart candidates root p.0 b m.0 second m.1 (sym same ∙ ap (λ (c : CandidateIs). c.name) (sym e))
chosen-apart candidates root (suc j) (suc k) a b inside first second same =
    let all = ranked candidates in
    let name = name_at all root in
    let p = some-place candidates (slice_get (meant_from all name 0 all) j) a first in
    let q = some-place candidates (slice_get (meant_from all name 0 all) k) b second in
    let m = meant-candidate candidates root j p.0 p.1 in
    let n = meant-candidate candidates root k q.0 q.1 in
    let e : m.0 ≡ a = some-same (sym m.1.there ∙ p.2) in
    let f : n.0 ≡ b = some-same (sym n.1.there ∙ q.2) in
    let place = same-place candidates root p.0 q.0 m.0 n.0 m.1 n.1 (ap (λ (c : CandidateIs). c.name) e ∙ same ∙ ap (λ (c : CandidateIs). c.name) (sym f)) in
    ap suc (meant-once all name 0 all j k q.0 (p.1 ∙ ap Some place) q.1)

-- each library's name is served
served-by-best : (candidates : List CandidateIs) (root k : ℕ) (c : CandidateIs) → slice_get candidates k ≡ Some c → c.usage ≡ 0 → bytes_eq c.name (name_at (ranked candidates) root) ≡ false → IsServed candidates root c
unfolding chosen
served-by-best candidates root k c here library apart =
    let all = ranked candidates in
    let name = name_at all root in
    let q = best-there c.name 0 all k (ranks candidates c) (ranked-at candidates k c here) library refl in
    let f = best-is c.name 0 all q.0 q.1 in
    let d = candidate-at candidates f.index f.ranked f.here in
    let best_of : best f.ranked.name 0 all ≡ Some q.0 = ap (λ n. best n 0 all) f.name_is ∙ q.1 in
    let other : not (bytes_eq f.ranked.name name) ≡ true = ap (λ n. not (bytes_eq n name)) f.name_is ∙ ap not apart in
    let placed : is_at (0 + f.index) (best f.ranked.name 0 all) ≡ true = ap (is_at (0 + f.index)) best_of ∙ eq-eqb q.0.place (0 + f.index) f.place in
    let meant : is_meant all name (0 + f.index) f.ranked ≡ true = and_from (f.ranked.usage == 0 && not (bytes_eq f.ranked.name name)) (is_at (0 + f.index) (best f.ranked.name 0 all)) (and_from (f.ranked.usage == 0) (not (bytes_eq f.ranked.name name)) (eq-eqb f.ranked.usage 0 f.usage) other) placed in
    let j = meant-there all name 0 all f.index f.ranked f.here meant in
    let e : 0 + f.index ≡ f.index = omega arith in
    record {
      index = suc j.0;
      place = f.index;
      candidate = d.0;
      meant = j.1 ∙ ap Some e;
      there = d.1;
      name = ap (λ (r : Ranked). r.name) d.2 ∙ f.name_is;
      best = inr (ap (λ (r : Ranked). r.usage) d.2 ∙ f.usage, (let low = q.2 in let top = f.rank in let same : (ranks candidates d.0).rank ≡ f.ranked.rank = ap (λ (r : Ranked). r.rank) d.2 in omega (arith, low, top, same)));
    }

served-by-root : (candidates : List CandidateIs) (root : ℕ) (a c : CandidateIs) → slice_get candidates root ≡ Some a → bytes_eq c.name (name_at (ranked candidates) root) ≡ true → IsServed candidates root c
unfolding chosen
served-by-root candidates root a c here same = record {
  index = 0;
  place = root;
  candidate = a;
  meant = refl;
  there = here;
  name = sym (root-name candidates root a here) ∙ sym ((bytes_eq-Decides c.name (name_at (ranked candidates) root)).0 same);
  best = inl refl;
}

pub chosen-served : (candidates : List CandidateIs) (root k : ℕ) (c : CandidateIs) → root < length candidates → slice_get candidates k ≡ Some c → c.usage ≡ 0 → IsServed candidates root c
chosen-served candidates root k c inside here library = by (bytes_eq c.name (name_at (ranked candidates) root)) refl
  where
    by : (t : Bool) → bytes_eq c.name (name_at (ranked candidates) root) ≡ t → IsServed candidates root c
    by true same = (let a = slice_get_inside candidates root inside in served-by-root candidates root a.0 c a.1 same)
    by false apart = served-by-best candidates root k c here library apart
