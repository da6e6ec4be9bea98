-- Facts of a closure order.
use Rattle.std.proofs.Common.{◌≡◌, ℕ, ◌<◌, ◌≤◌, true, false, not, List, [], length, Option, None, Some, Ok, sym, ap, ◌∙◌, subst, inl, inr, true≢false, arith, Contains}
use Rattle.std.specs.Prelude.{IfSome, replicate}
use Rattle.std.specs.List.{AllByRecursion}
use Rattle.std.proofs.lemmas.List.{get_or-replicate, length-replicate}
use Rattle.std.proofs.lemmas.List.Sums.{count_by-le-length}
use Rattle.pef_words.proofs.Laws.Lists.{all-at}
use Rattle.cfm_store.specs.Stores.{Pair}
use Rattle.pef_words.specs.Results.{◌>>=◌}
use Rattle.cfm_closure.specs.Fragments.{Fragment, fragment_of}
use Rattle.cfm_closure.specs.Libraries.{bound_to}
use Rattle.cfm_store.specs.Limits.{most_pairs}
use Rattle.cfm_closure.specs.Orders.{EndsWith, HasLibrary, IsComplete, IsMember}
use Rattle.cfm_closure.specs.Walk.{Walked, is_marked, joining, left, marking, order_of, unwalked, walk, walk_at, walks_from}
use Rattle.cfm_closure.specs.Kept.Walks.{IsBound, IsTidy, Reaches}
use Rattle.cfm_closure.proofs.BoundLemmas.{stands_for}
use Rattle.cfm_closure.proofs.WalkFacts.{Walks, walk-does}
use Rattle.cfm_closure.proofs.WalkRules.{came, same_ok, unmarked_inside, walk-rule}

module _ (pairs : List Pair) where
  -- at the start no fragment is marked
  pub unmarked_start : (q : ℕ) → q < length pairs → is_marked (unwalked pairs) q ≡ false
  unmarked_start q inside = get_or-replicate (length pairs) q false true inside

  pub few_left : left (unwalked pairs) ≤ length pairs
  few_left =
      let few : left (unwalked pairs) ≤ length (replicate (length pairs) false) = count_by-le-length not (replicate (length pairs) false) in
      let size : length (replicate (length pairs) false) ≡ length pairs = length-replicate (length pairs) false in
      omega arith

  nowhere : (q : ℕ) → Contains [] q → ⊥
  nowhere q there = let h = there.1 in omega arith

  module _ (s : Walked) (reaches : Reaches pairs (unwalked pairs) s) where
    -- fragments of the store that were visited joined the order
    joined : (q : ℕ) → q < length pairs → is_marked s q ≡ true → Contains s.order q
    joined q inside met = elim (reaches.joins q met) [
      | inl before ↦ absurd (true≢false (sym before ∙ unmarked_start q inside))
      | inr there ↦ there
    ]

    place_of_member : (p : ℕ) → Contains s.order p → p < length pairs
    place_of_member p there = elim (reaches.fresh p there) [
      | inl before ↦ absurd (nowhere p before)
      | inr unmet ↦ (let inside = unmarked_inside (unwalked pairs) p unmet in let size : length (replicate (length pairs) false) ≡ length pairs = length-replicate (length pairs) false in omega arith)
    ]

    has_library : (p l : ℕ) → IsBound pairs s.marked p l → HasLibrary pairs s.order p l
    has_library p l is = record {
      bound = is.bound;
      is = is.is;
      inside = λ q some. joined q (stands_for pairs p l q (is.is ∙ ap Ok some)).inside (is.met q some);
    }

    member : (p : ℕ) → Contains s.order p → IsMember pairs s.order p
    member p there = elim (reaches.done p there) [
      | inl before ↦ absurd (nowhere p before)
      | inr done ↦ record {
        place = place_of_member p there;
        fragment = done.fragment;
        read = done.read;
        libraries = λ l under. has_library p l (done.libraries l under);
      }
    ]

  -- the effect of the walk from a root
  record FromRoot (root : ℕ) (order : List ℕ) : Type 0 where
    pub to : Walked
    pub same : to.order ≡ order
    pub walks : Walks pairs root (unwalked pairs) to

  from_root : (root : ℕ) (order : List ℕ) → order_of pairs root ≡ Ok order → FromRoot root order
  unfolding order_of
  from_root root order is =
      let a = came (walk (length pairs) pairs root (unwalked pairs)) (λ s. Ok s.order) order is in
      record { to = a.value; same = cc; walks = walk-does (length pairs) pairs root (unwalked pairs) a.value few_left a.is }

  -- a closure order is complete
  pub order-complete : (root : ℕ) (order : List ℕ) → order_of pairs root ≡ Ok order → IsComplete pairs order
  order-complete root order is =
      let r = from_root root order is in
      let reaches = r.walks.reaches in
      let tidy : IsTidy (unwalked pairs) = record { met = λ q there. absurd (nowhere q there); once = λ i j d less below. absurd (omega arith) } in
      subst (IsComplete pairs) r.same (record {
        members = member r.to reaches;
        once = (reaches.tidy tidy).once;
        count = let c = reaches.count in let f = few_left in omega arith;
      })

  -- and its root is the last
  pub order-last : (root : ℕ) (order : List ℕ) → order_of pairs root ≡ Ok order → root < length pairs → EndsWith order root
  unfolding order_of
  order-last root order is inside =
      let a = came (walk (length pairs) pairs root (unwalked pairs)) (λ s. Ok s.order) order is in
      let rule = walk-rule (length pairs) pairs root (unwalked pairs) few_left ∙ ap (walk_at (walk (length pairs) pairs) pairs root (unwalked pairs)) (unmarked_start root inside) in
      let f = came (fragment_of pairs root) (λ f. walks_from (walk (length pairs) pairs) pairs root 0 f.loader.header.library_count (marking root (unwalked pairs)) >>= (λ s. Ok (joining root s))) a.value (sym rule ∙ a.is) in
      let w = came (walks_from (walk (length pairs) pairs) pairs root 0 f.value.loader.header.library_count (marking root (unwalked pairs))) (λ s. Ok (joining root s)) a.value f.leads in
      let same : joining root w.value ≡ a.value = cc in
      let whole : a.value.order ≡ order = cc in
      (w.value.order, sym whole ∙ sym (ap (λ (s : Walked). s.order) same))

-- the fragment that a library entry of a member means is a member
pub bound-inside : (pairs : List Pair) (order : List ℕ) (p l : ℕ) (b : Option ℕ) → IsComplete pairs order → Contains order p → bound_to pairs p l ≡ Ok b → IfSome b (λ q. Contains order q)
bound-inside pairs order p l None complete there is = tt
bound-inside pairs order p l (Some q) complete there is =
    let s = stands_for pairs p l q is in
    let m = complete.members p there in
    let same = same_ok (fragment_of pairs p) s.fragment m.fragment s.read m.read in
    let below = subst (λ (f : Fragment). l < f.loader.header.library_count) same s.below in
    let h = m.libraries l below in
    let here = same_ok (bound_to pairs p l) h.bound (Some q) h.is is in
    h.inside q here

-- .. and so has one of the first places
pub bound-below : (pairs : List Pair) (order : List ℕ) (b : Option ℕ) → IsComplete pairs order → length pairs ≤ most_pairs → IfSome b (λ q. Contains order q) → IfSome b (λ q. q < most_pairs)
bound-below pairs order None complete few inside = tt
bound-below pairs order (Some q) complete few inside = let place = (complete.members q inside).place in omega arith

-- a fact of each element of a list is one of each that it contains
pub all-contains : {A : Type 0} (P : A → Type 0) (xs : List A) (x : A) → AllByRecursion P xs → Contains xs x → P x
all-contains P xs x all there = subst P there.2 (all-at P xs there.0 x all there.1)
