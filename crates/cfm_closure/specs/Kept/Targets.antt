-- The known targets of imports while they are searched.
use Rattle.std.specs.Prelude.{◌≡◌, ℕ, ◌<◌, List, [], length, slice_index_or, Option, None, Some, Result, Ok, Err, Contains, IsSome}
use Rattle.pef_words.specs.Refusals.{unless}
use Rattle.cfm_store.specs.Stores.{Pair}
use Rattle.cfm_closure.specs.declared.fault.BindFault.{BindFault}
use Rattle.cfm_closure.specs.Faults.{BindRefusal, FailsAs}
use Rattle.cfm_closure.specs.Fragments.{import_count}
use Rattle.cfm_closure.specs.declared.targets.Target.{Target}
use Rattle.cfm_closure.specs.Targets.{exports_in, follow}

-- a result is no refusal, or the refusal
abbrev pub Passes : {A : Type 0} → Result A BindFault → Option BindRefusal → Type 0
Passes (Ok x) refusal = refusal ≡ None
Passes (Err e) refusal = FailsAs {A = Unit {0}} e (unless refusal (Ok (tt {0})))

-- the known target of each import of a fragment, and this for each place of the store
abbrev pub Row : Type 0
Row = List (Option (Option Target))

abbrev pub Rows : Type 0
Rows = List Row

-- all of them are known
abbrev pub AllKnown : Row → Type 0
AllKnown row = (j : ℕ) → j < length row → IsSome (slice_index_or row j None)

-- and this of each row of a table
abbrev pub AreAllKnown : List (Option Row) → Type 0
AreAllKnown rows = (p : ℕ) (row : Row) → slice_index_or rows p None ≡ Some row → AllKnown row

abbrev pub known_at : Rows → ℕ → ℕ → Option (Option Target)
known_at rows p j = slice_index_or (slice_index_or rows p []) j None

abbrev pub IsKnown : Rows → ℕ → ℕ → Type 0
IsKnown rows p j = IsSome (known_at rows p j)

-- known targets stay known
abbrev pub KeepsKnown : Rows → Rows → Type 0
KeepsKnown old new = (p j : ℕ) → IsKnown old p j → IsKnown new p j

-- a store, and the fragments of a closure by their places, in closure order, with the known targets of their
-- imports
pub record Ordered : Type 0 where
  pub pairs : List Pair
  pub order : List ℕ
  pub rows : Rows

-- the same fragments, whose known targets stay known
pub record Keeps (old new : Ordered) : Type 0 where
  pub same : new ≡ record old { rows = new.rows }
  pub known : KeepsKnown old.rows new.rows

-- the targets of the first n imports of a way are known
abbrev pub AreKnown : Rows → List (ℕ × ℕ) → ℕ → Type 0
AreKnown rows way n = (i : ℕ) → i < n → IsKnown rows (slice_index_or way i (0, 0)).0 (slice_index_or way i (0, 0)).1

-- the target of an import, through all exports that pass it on
abbrev pub led_to : List Pair → ℕ × ℕ → Option (Result (Option Target) BindRefusal)
led_to pairs v = follow (exports_in pairs) pairs v.0 v.1

-- the known targets of a fragment's imports are right
abbrev pub AreRight : List Pair → ℕ → Row → Type 0
AreRight pairs p row = (j : ℕ) (target : Option Target) → slice_index_or row j None ≡ Some target → led_to pairs (p, j) ≡ Some (Ok target)

-- an import of the order, which leads to this
pub record IsOnWay (pairs : List Pair) (order : List ℕ) (end : Option (Result (Option Target) BindRefusal)) (v : ℕ × ℕ) : Type 0 where
  pub place : Contains order v.0
  pub import : v.1 < import_count pairs v.0
  pub leads : led_to pairs v ≡ end

-- all targets of a fragment's imports are known
abbrev pub IsResolved : List Pair → Rows → ℕ → Type 0
IsResolved pairs rows p = (j : ℕ) → j < import_count pairs p → IsKnown rows p j

-- all targets of an order's imports are known
abbrev pub AreResolved : Ordered → Type 0
AreResolved o = (p : ℕ) → Contains o.order p → IsResolved o.pairs o.rows p
