-- The walk never reaches its bound: with as many steps as fragments are left it follows its rule as if
-- there were no bound.
use Rattle.std.proofs.Common.{◌≡◌, ℕ, zero, suc, ◌+◌, ◌<◌, ◌≤◌, Bool, true, false, cond, not, List, [], ◌∷◌, length, Option, None, Some, Ok, Err, refl, ap, subst, get_or, arith}
use Rattle.std.specs.Prelude.{Result}
use Rattle.std.proofs.lemmas.List.Sums.{sum_by-set}
use Rattle.cfm_store.specs.Stores.{Pair}
use Rattle.pef_words.specs.Results.{◌>>=◌}
use Rattle.cfm_closure.specs.Faults.{BindRefusal}
use Rattle.cfm_closure.specs.Fragments.{Fragment, fragment_of}
use Rattle.cfm_closure.specs.Libraries.{bound_to}
use Rattle.cfm_closure.specs.Walk.{Walked, is_marked, joining, left, marking, walk, walk_at, walk_to, walks_from}

-- a result that isn't refused comes from one that isn't refused
pub record Came {A B : Type 0} (r : Result A BindRefusal) (f : A → Result B BindRefusal) (y : B) : Type 0 where
  pub value : A
  pub is : r ≡ Ok value
  pub leads : f value ≡ Ok y

pub came : {A B : Type 0} (r : Result A BindRefusal) (f : A → Result B BindRefusal) (y : B) → (r >>= f) ≡ Ok y → Came r f y
came (Ok x) f y is = record { value = x; is = refl; leads = is }
came (Err e) f y is = absurd (cc)

-- two values of one result are equal
pub same_ok : {A : Type 0} (r : Result A BindRefusal) (x y : A) → r ≡ Ok x → r ≡ Ok y → x ≡ y
same_ok r x y is is' = cc

-- past the marks every fragment is marked
inside_if_unmarked : (marks : List Bool) (p : ℕ) → get_or marks p true ≡ false → p < length marks
inside_if_unmarked [] p none = absurd (cc)
inside_if_unmarked (m ∷ marks) zero none = omega arith
inside_if_unmarked (m ∷ marks) (suc p) none = let r = inside_if_unmarked marks p none in omega arith

pub unmarked_inside : (s : Walked) (p : ℕ) → is_marked s p ≡ false → p < length s.marked
unmarked_inside s p none = inside_if_unmarked s.marked p none

abbrev one_if_not : Bool → ℕ
one_if_not m = cond (not m) 1 0

-- a mark leaves one fragment less
pub left-marking : (s : Walked) (p : ℕ) → is_marked s p ≡ false → left (marking p s) + 1 ≡ left s
left-marking s p none =
    let inside = unmarked_inside s p none in
    let all : left (marking p s) + one_if_not (get_or s.marked p true) ≡ left s + 0 = sum_by-set one_if_not s.marked p true true inside in
    let one : one_if_not (get_or s.marked p true) ≡ 1 = ap one_if_not none in
    omega arith

-- so if none is left, all are marked
pub none_left : (s : Walked) (p : ℕ) → left s ≡ 0 → is_marked s p ≡ true
none_left s p none = by (is_marked s p) refl
  where
    by : (b : Bool) → is_marked s p ≡ b → b ≡ true
    by true is = refl
    by false is = absurd (let one = left-marking s p is in omega arith)

-- two walks with the same effect from states with at most k left, which leave no more
pub record SameWalks (k : ℕ) (v w : ℕ → Walked → Result Walked BindRefusal) : Type 0 where
  pub same : (p : ℕ) (s : Walked) → left s ≤ k → v p s ≡ w p s
  pub fewer : (p : ℕ) (s t : Walked) → v p s ≡ Ok t → left t ≤ left s

module _ (k : ℕ) (v w : ℕ → Walked → Result Walked BindRefusal) (both : SameWalks k v w) (pairs : List Pair) (p : ℕ) where
  walks_from-same : (l n : ℕ) (s : Walked) → left s ≤ k → walks_from v pairs p l n s ≡ walks_from w pairs p l n s
  walks_from-same l zero s few = refl
  walks_from-same l (suc n) s few = by (λ t low. walks_from-same (l + 1) n t low) (bound_to pairs p l)
    where
      go : ((t : Walked) → left t ≤ k → walks_from v pairs p (l + 1) n t ≡ walks_from w pairs p (l + 1) n t) → (r : Result Walked BindRefusal) → ((t : Walked) → r ≡ Ok t → left t ≤ left s) → (r >>= walks_from v pairs p (l + 1) n) ≡ (r >>= walks_from w pairs p (l + 1) n)
      go rest (Ok t) fewer = let h = fewer t refl in rest t (omega arith)
      go rest (Err e) fewer = refl

      by : ((t : Walked) → left t ≤ k → walks_from v pairs p (l + 1) n t ≡ walks_from w pairs p (l + 1) n t) → (r : Result (Option ℕ) BindRefusal) → (r >>= (λ q. walk_to v q s >>= walks_from v pairs p (l + 1) n)) ≡ (r >>= (λ q. walk_to w q s >>= walks_from w pairs p (l + 1) n))
      by rest (Ok None) = go rest (Ok s) (λ t is. (let same : s ≡ t = cc in subst (λ t. left t ≤ left s) same (omega arith)))
      by rest (Ok (Some q)) = rw (← both.same q s few) (go rest (v q s) (λ t is. both.fewer q s t is))
      by rest (Err e) = refl

-- a walk leaves no more than there were
module _ (v : ℕ → Walked → Result Walked BindRefusal) (fewer : (p : ℕ) (s t : Walked) → v p s ≡ Ok t → left t ≤ left s) (pairs : List Pair) (p : ℕ) where
  pub walk_to-fewer : (q : Option ℕ) (s t : Walked) → walk_to v q s ≡ Ok t → left t ≤ left s
  walk_to-fewer None s t is = let same : s ≡ t = cc in subst (λ t. left t ≤ left s) same (omega arith)
  walk_to-fewer (Some q) s t is = fewer q s t is

  pub walks_from-fewer : (l n : ℕ) (s t : Walked) → walks_from v pairs p l n s ≡ Ok t → left t ≤ left s
  walks_from-fewer l zero s t is = let same : s ≡ t = cc in subst (λ t. left t ≤ left s) same (omega arith)
  walks_from-fewer l (suc n) s t is =
      let a = came (bound_to pairs p l) (λ q. walk_to v q s >>= walks_from v pairs p (l + 1) n) t is in
      let b = came (walk_to v a.value s) (walks_from v pairs p (l + 1) n) t a.leads in
      let first = walk_to-fewer a.value s b.value b.is in
      let rest = walks_from-fewer (l + 1) n b.value t b.leads in
      omega arith

pub walk-fewer : (n : ℕ) (pairs : List Pair) (p : ℕ) (s t : Walked) → walk n pairs p s ≡ Ok t → left t ≤ left s
unfolding walk
walk-fewer zero pairs p s t is = let same : s ≡ t = cc in subst (λ t. left t ≤ left s) same (omega arith)
walk-fewer (suc n) pairs p s t is = by (is_marked s p) refl is (walk-fewer n pairs)
  where
    by : (b : Bool) → is_marked s p ≡ b → walk_at (walk n pairs) pairs p s b ≡ Ok t → ((p : ℕ) (s t : Walked) → walk n pairs p s ≡ Ok t → left t ≤ left s) → left t ≤ left s
    by true met is deeper = let same : s ≡ t = cc in subst (λ t. left t ≤ left s) same (omega arith)
    by false met is deeper =
        let a = came (fragment_of pairs p) (λ f. walks_from (walk n pairs) pairs p 0 f.loader.header.library_count (marking p s) >>= (λ s. Ok (joining p s))) t is in
        let b = came (walks_from (walk n pairs) pairs p 0 a.value.loader.header.library_count (marking p s)) (λ s. Ok (joining p s)) t a.leads in
        let inner = walks_from-fewer (walk n pairs) deeper pairs p 0 a.value.loader.header.library_count (marking p s) b.value b.is in
        let one = left-marking s p met in
        let same : joining p b.value ≡ t = cc in
        let outer : left (joining p b.value) ≤ left s = omega arith in
        subst (λ t. left t ≤ left s) same outer

-- the bound doesn't matter if it is at least the number of fragments that are left
pub walk-any : (m n : ℕ) (pairs : List Pair) (p : ℕ) (s : Walked) → left s ≤ m → left s ≤ n → walk m pairs p s ≡ walk n pairs p s
unfolding walk
walk-any zero zero pairs p s few few' = refl
walk-any zero (suc n) pairs p s few few' = let all = none_left s p (omega arith) in rw all refl
walk-any (suc m) zero pairs p s few few' = let all = none_left s p (omega arith) in rw all refl
walk-any (suc m) (suc n) pairs p s few few' = by (is_marked s p) refl (λ k q t low low'. walk-any m n pairs q t (omega arith) (omega arith))
  where
    by : (b : Bool) → is_marked s p ≡ b → ((k q : ℕ) (t : Walked) → left t ≤ m → left t ≤ n → walk m pairs q t ≡ walk n pairs q t) → walk_at (walk m pairs) pairs p s b ≡ walk_at (walk n pairs) pairs p s b
    by true met deeper = refl
    by false met deeper =
        let one = left-marking s p met in
        let both : SameWalks (left (marking p s)) (walk m pairs) (walk n pairs) = record {
          same = λ q t low. deeper 0 q t (omega arith) (omega arith);
          fewer = λ q t u is. walk-fewer m pairs q t u is;
        } in
        read (fragment_of pairs p) (λ f. walks_from-same (left (marking p s)) (walk m pairs) (walk n pairs) both pairs p 0 f.loader.header.library_count (marking p s) (omega arith))
      where
        read : (r : Result Fragment BindRefusal) → ((f : Fragment) → walks_from (walk m pairs) pairs p 0 f.loader.header.library_count (marking p s) ≡ walks_from (walk n pairs) pairs p 0 f.loader.header.library_count (marking p s))
            → (r >>= (λ f. walks_from (walk m pairs) pairs p 0 f.loader.header.library_count (marking p s) >>= (λ s. Ok (joining p s)))) ≡ (r >>= (λ f. walks_from (walk n pairs) pairs p 0 f.loader.header.library_count (marking p s) >>= (λ s. Ok (joining p s))))
        read (Ok f) same = ap (λ r. r >>= (λ s. Ok (joining p s))) (same f)
        read (Err e) same = refl

-- .. so with that bound the walk follows its rule as if there were none
pub walk-rule : (n : ℕ) (pairs : List Pair) (p : ℕ) (s : Walked) → left s ≤ n → walk n pairs p s ≡ walk_at (walk n pairs) pairs p s (is_marked s p)
unfolding walk
walk-rule n pairs p s few = walk-any n (suc n) pairs p s few (omega arith)
