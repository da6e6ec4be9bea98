-- What is kept of a store stays right.
use Rattle.std.proofs.Common.{◌≡◌, ℕ, ◌+◌, ◌<◌, ◌≤◌, ◌-◌, List, [], ◌++◌, length, replicate, Option, None, Some, refl, sym, ap, subst, ◌∙◌, get_or, set, inl, inr, arith, Contains}
use Rattle.std.specs.Prelude.{option_map, ◌⊎◌, IfSome, IsSome, is_some, Result, Ok, Err, OnOk, OnErr}
use Rattle.std.specs.Option.{option_and_then, option_map_or}
use Rattle.std.specs.Result.{result_ok}
use Rattle.std.proofs.lemmas.Bool.{cases_lt}
use Rattle.std.proofs.lemmas.Bool.Decides.{eqb_tells}
use Rattle.std.proofs.lemmas.List.{get_or-append_right, get_or-set_other, get_or-set_same, get_or_append_left, get_or_default, get_or_past, length-append, length-replicate, length-set}
use Rattle.std.proofs.lemmas.List.Elements.{Contains-get_or}
use Rattle.pef_loader.specs.Loader.{Loaded, library_of}
use Rattle.cfm_store.specs.Additions.{placed_at}
use Rattle.cfm_closure.specs.Additions.{MayBeAdded, NamesLibrary}
use Rattle.cfm_store.specs.Stores.{Pair, pair_of, place_of}
use Rattle.cfm_closure.specs.declared.fragment.FragmentView.{FragmentView}
use Rattle.cfm_closure.specs.Fragments.{Fragment, fragment_of}
use Rattle.cfm_closure.specs.Kept.Caches.{AreCached, AreKeptRows, AreOfKept, IsKeptRow, IsOfKept, IsOrderOfClosure, KeepsFirst, MayTake, NoneNames}
use Rattle.cfm_closure.specs.Kept.Targets.{AreAllKnown, Row}
use Rattle.cfm_closure.specs.Kept.Views.{AreRead}
use Rattle.cfm_closure.specs.Orders.{IsComplete}
use Rattle.cfm_closure.proofs.ClosedLemmas.{closed-complete}
use Rattle.cfm_closure.proofs.SameLemmas.{AreSame, fragment_of-same}
use Rattle.cfm_closure.proofs.SameTargetLemmas.{target_of-same}
use Rattle.cfm_store.proofs.Laws.{IsFreeFor, placed-longer}
use Rattle.cfm_closure.proofs.StoreLemmas.{may_take, placed-read, placed-same}
use Rattle.cfm_closure.proofs.LeadLemmas.{led-target, target-led}
use Rattle.cfm_closure.proofs.RowLemmas.{none-at}

-- a table without places has no values
none-in : {T : Type 0} (table : List (Option T)) (p : ℕ) → table ≡ [] → get_or table p None ≡ None
none-in table p none = let long : length table ≡ 0 = ap length none in get_or_past table p None (omega arith)

pub rows-none : (pairs : List Pair) (rows : List (Option Row)) → rows ≡ [] → AreKeptRows pairs rows
rows-none pairs rows none p row here = absurd (let e : None ≡ Some row = sym (none-in rows p none) ∙ here in cc)

pub kept-none : (pairs : List Pair) (rows : List (Option Row)) → rows ≡ [] → AreOfKept pairs rows
kept-none pairs rows none p some = absurd (let e = ap is_some (none-in rows p none) in cc)

-- an order is complete in a store that is the same at its fragments
complete-same : (pairs pairs' : List Pair) → length pairs ≤ length pairs' → (order : List ℕ) → IsComplete pairs order → AreSame pairs pairs' order → IsComplete pairs' order
complete-same pairs pairs' more order complete same = record {
  members = λ p there.
      let m = complete.members p there in
      record {
        place = let place = m.place in omega arith;
        fragment = m.fragment;
        read = fragment_of-same pairs pairs' p (same p there).pair ∙ m.read;
        libraries = λ l below.
            let h = m.libraries l below in
            record { bound = h.bound; is = (same p there).bound l ∙ h.is; inside = h.inside };
      };
  once = complete.once;
  count = let count = complete.count in omega arith;
}

-- kept targets are all known
pub rows_known : (pairs : List Pair) (rows : List (Option Row)) → AreKeptRows pairs rows → AreAllKnown rows
rows_known pairs rows are p row here = (are p row here).known

-- a fragment that a store has more, or that it had
some_is : {A : Type 0} (o : Option A) → IsSome o → (x : A) × (o ≡ Some x)
some_is None some = absurd (cc)
some_is (Some x) some = (x, refl)

module _ (pairs : List Pair) (views : List (Option FragmentView)) (rows : List (Option Row)) (is : AreCached pairs views rows) where
  -- the fragments that a walk read are some of the store
  pub cache_of : (views' : List (Option FragmentView)) (rows' : List (Option Row)) → length views' ≡ length pairs → AreRead pairs views' → rows' ≡ rows → AreCached pairs views' rows'
  cache_of views' rows' size read same = record {
    few = omega arith;
    read = read;
    few_rows = subst (λ (rows : List (Option Row)). length rows ≤ length pairs) (sym same) is.few_rows;
    right = subst (AreKeptRows pairs) (sym same) is.right;
    closures = subst (AreOfKept pairs) (sym same) is.closures;
  }

  -- another store has the fragments that were read
  module _ (pairs' : List Pair) (more : length pairs ≤ length pairs') (read-now : AreRead pairs' views) where
    -- without targets, what was read stays what it is
    pub cache_without : (rows' : List (Option Row)) → rows' ≡ [] → AreCached pairs' views rows'
    cache_without rows' none = record {
      few = let few = is.few in omega arith;
      read = read-now;
      few_rows = let e = ap length none in omega arith;
      right = rows-none pairs' rows' none;
      closures = kept-none pairs' rows' none;
    }

    -- the targets do too, if it has the same fragments and bindings in the closures that are kept
    module _ (same : (p : ℕ) (o : IsOfKept pairs rows p) → AreSame pairs pairs' o.order) where
      kept-now : AreOfKept pairs' rows
      kept-now p some =
          let o = is.closures p some in
          record {
            order = o.order;
            complete = complete-same pairs pairs' more o.order o.complete (same p o);
            member = o.member;
            all = o.all;
          }

      right-now : AreKeptRows pairs' rows
      right-now p row here =
          let o = is.closures p (ap is_some here) in
          let k = is.right p row here in
          record {
            count = k.count ∙ sym (ap (λ r. option_map_or (λ (l : Loaded). l.header.import_count) (option_map (λ (f : Fragment). f.loader) (result_ok r)) 0) (fragment_of-same pairs pairs' p (same p o p o.member).pair));
            known = k.known;
            right = λ j t known.
                led-target pairs' p j t
                (target_of-same pairs pairs' o.order o.complete (same p o) (complete-same pairs pairs' more o.order o.complete (same p o)) p j o.member ∙ target-led pairs p j (Ok t) (k.right j t known));
          }

      pub cache_now : AreCached pairs' views rows
      cache_now = record {
        few = let few = is.few in omega arith;
        read = read-now;
        few_rows = let few = is.few_rows in omega arith;
        right = right-now;
        closures = kept-now;
      }

  -- so it stays with a pair more
  module _ (n : Pair) (o : Option ℕ) (take : MayTake pairs n.name o) where
    free : IfSome o (IsFreeFor pairs n.name)
    free = may_take pairs n o take

    read-with : AreRead (placed_at pairs n o) views
    read-with p f here = fragment_of-same pairs (placed_at pairs n o) p (placed-read pairs n o free p f (is.read p f here)) ∙ is.read p f here

    pub cache_with : (rows' : List (Option Row)) → rows' ≡ [] → AreCached (placed_at pairs n o) views rows'
    cache_with = cache_without (placed_at pairs n o) (placed-longer pairs n o) read-with

    -- the targets do too, if the store has the name, or no fragment that is kept has a library entry with it
    module _ (may : IsSome (place_of pairs n.name) ⊎ NoneNames pairs rows n.name) where
      may-be : (p : ℕ) (o : IsOfKept pairs rows p) → MayBeAdded pairs o.order n.name
      may-be p o = elim may [
        | inl has ↦ inl has
        | inr none ↦ inr (λ (names : NamesLibrary pairs o.order n.name). none names.fragment (o.all names.fragment names.member) names.index names.library (ap (option_and_then (λ x. library_of x names.index)) names.read ∙ names.entry) names.named)
      ]

      pub cache_stays : AreCached (placed_at pairs n o) views rows
      cache_stays = cache_now (placed_at pairs n o) (placed-longer pairs n o) read-with (λ p kept. placed-same pairs n o free kept.order kept.complete (may-be p kept))

-- with the pair, and if it wasn't added
pub cache_added : {E : Type 0} (pairs pairs' : List Pair) (views : List (Option FragmentView)) (rows : List (Option Row)) (r : Result (Unit {0}) E) (new : List Pair) → OnOk r (new ≡ pairs') → OnErr r (new ≡ pairs) → AreCached pairs' views rows → AreCached pairs views rows
    → AreCached new views rows
cache_added pairs pairs' views rows (Ok done) new ok err with without = subst (λ (pairs : List Pair). AreCached pairs views rows) (sym ok) with
cache_added pairs pairs' views rows (Err e) new ok err with without = subst (λ (pairs : List Pair). AreCached pairs views rows) (sym err) without

-- a table that grew has as many places as the store
rows_size : (rows : List (Option Row)) (n places : ℕ) → length rows ≤ n → places ≡ n → length (rows ++ replicate (places - length rows) None) ≡ n
rows_size rows n places few is =
    let both = length-append rows (replicate (places - length rows) None) in
    let more : length (replicate {A = Option Row} (places - length rows) None) ≡ places - length rows = length-replicate (places - length rows) None in
    omega arith

-- and the same values
grown-at : (rows : List (Option Row)) (k p : ℕ) → get_or (rows ++ replicate k None) p None ≡ get_or rows p None
grown-at rows k p = elim (cases_lt p (length rows)) [
  | inl under ↦ get_or_append_left rows (replicate k None) None p under
  | inr past ↦ get_or-append_right rows (replicate k None) (length rows) p None refl past ∙ none-at {T = Row} k (p - length rows) ∙ sym (get_or_past rows p None past)
]

-- a fragment of an order has a place in it
pub order_below : (pairs : List Pair) (order ps : List ℕ) (i places : ℕ) → IsComplete pairs order → ps ≡ order → i < length ps → places ≡ length pairs → get_or ps i 0 < places
order_below pairs order ps i places complete same under is =
    let there = subst (λ order. Contains order (get_or ps i 0)) same (Contains-get_or ps i 0 under) in
    let place = (complete.members (get_or ps i 0) there).place in
    omega arith

-- if all rows of a closure are kept, each fragment that is kept is one of a complete order whose fragments are all kept
pub kept_more : (pairs : List Pair) (order : List ℕ) (n : ℕ) (old new : List (Option Row)) → IsOrderOfClosure pairs order → n ≡ length order → KeepsFirst pairs order n old new → AreOfKept pairs old → AreOfKept pairs new
kept_more pairs order n old new found whole keeps are p some = elim (keeps.only p some) [
  | inl before ↦ (let o = are p before in record { order = o.order; complete = o.complete; member = o.member; all = λ q there. keeps.still q (o.all q there) })
  | inr there ↦ record {
    order = order;
    complete = subst (IsComplete pairs) found.same (closed-complete pairs found.root found.closure found.is);
    member = there;
    all = λ q inside. subst (λ q. IsSome (get_or new q None)) (get_or_default order inside.0 0 q inside.1 ∙ inside.2) (keeps.all inside.0 (let under = inside.1 in omega arith));
  }
]

module _ (pairs : List Pair) (order : List ℕ) where
  -- at first no row of the order is kept
  pub keeps_start : (rows : List (Option Row)) (places : ℕ) → length rows ≤ length pairs → places ≡ length pairs → AreKeptRows pairs rows → KeepsFirst pairs order 0 rows (rows ++ replicate (places - length rows) None)
  keeps_start rows places few is are = record {
    size = rows_size rows (length pairs) places few is;
    right = λ p row here. are p row (sym (grown-at rows (places - length rows) p) ∙ here);
    still = λ q some. ap is_some (grown-at rows (places - length rows) q) ∙ some;
    all = λ k under. absurd (omega arith);
    only = λ q some. inl (sym (ap is_some (grown-at rows (places - length rows) q)) ∙ some);
  }

  -- then one row more
  module _ (n : ℕ) (old rows : List (Option Row)) (keeps : KeepsFirst pairs order n old rows) (p : ℕ) (row : Row) (under : n < length order) (at : get_or order n 0 ≡ p) (inside : p < length rows) (is : IsKeptRow pairs p row) where
    here-now : get_or (set rows p (Some row)) p None ≡ Some row
    here-now = get_or-set_same rows p (Some row) None inside

    some-now : (q : ℕ) → IsSome (get_or rows q None) → IsSome (get_or (set rows p (Some row)) q None)
    some-now q some = elim (eqb_tells q p) [
      | inl same ↦ subst (λ q. IsSome (get_or (set rows p (Some row)) q None)) (sym same.1) (ap is_some here-now)
      | inr other ↦ ap is_some (get_or-set_other rows p q (Some row) None other.1) ∙ some
    ]

    pub keeps_more_rows : KeepsFirst pairs order (n + 1) old (set rows p (Some row))
    keeps_more_rows = record {
      size = length-set rows p (Some row) ∙ keeps.size;
      right = λ q row' here. elim (eqb_tells q p) [
        | inl same ↦ (
            let P : ℕ → Type 0 = λ q. get_or (set rows p (Some row)) q None ≡ Some row' in
            let Q : ℕ → Type 0 = λ q. IsKeptRow pairs q row' in
            let e : Some row ≡ Some row' = sym here-now ∙ subst P same.1 here in
            let f : row ≡ row' = cc in
            subst Q (sym same.1) (subst (IsKeptRow pairs p) f is))
        | inr other ↦ keeps.right q row' (sym (get_or-set_other rows p q (Some row) None other.1) ∙ here)
      ];
      still = λ q some. some-now q (keeps.still q some);
      all = λ k below. elim (eqb_tells k n) [
        | inl same ↦ (
            let P : ℕ → Type 0 = λ k. IsSome (get_or (set rows p (Some row)) (get_or order k 0) None) in
            let Q : ℕ → Type 0 = λ p'. IsSome (get_or (set rows p (Some row)) p' None) in
            subst P (sym same.1) (subst Q (sym at) (ap is_some here-now)))
        | inr other ↦ (let apart = other.1 in some-now (get_or order k 0) (keeps.all k (omega arith)))
      ];
      only = λ q some. elim (eqb_tells q p) [
        | inl same ↦ inr (subst (Contains order) (at ∙ sym same.1) (Contains-get_or order n 0 under))
        | inr other ↦ keeps.only q (sym (ap is_some (get_or-set_other rows p q (Some row) None other.1)) ∙ some)
      ];
    }
