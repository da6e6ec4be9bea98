-- The instances as the map has them, by their addresses.
use Rattle.std.proofs.Common.{◌≡◌, ◌⊎◌, ◌&&◌, ◌+◌, ◌-◌, ◌≤◌, ◌<◌, ℕ, suc, not, true, false, List, [], ◌∷◌, ◌++◌, Option, Some, None, IsTrue, MutBor, leb, length, map, refl, sym, ap, subst, ◌∙◌, inl, inr, arith}
use Rattle.std.specs.Global.{Vec}
use Rattle.std.specs.Map.{lookup, remove_entry, set_value}
use Rattle.std.specs.BTreeMap.{insert_entry}
use Rattle.std.specs.BTreeMap.Range.{entries_between}
use Rattle.std.specs.declared.ops.Bound.TheVariants.{Unbounded, Included}
use Rattle.std.specs.Option.{option_copied_mut, option_map, option_or, IsSome}
use Rattle.std.specs.Ordering.{is_eq, is_le, is_lt, nat_cmp}
use Rattle.std.specs.declared.cmp.Ordering.TheVariants.{Less}
use Rattle.std.proofs.lemmas.Bool.Decides.{Decides-eqb, eqb_tells, leb_tells, nat_tests}
use Rattle.std.proofs.lemmas.Option.{same_Some}
use Rattle.pef_words.proofs.Laws.Numbers.{cmp_equal, cmp_greater}
use Rattle.cfm_memory.specs.declared.place.Place.{Place}
use Rattle.cfm_memory.specs.declared.place.Reserved.{Reserved}
use Rattle.cfm_memory.specs.Instances.{Instance, Layout, bytes_at, has_length, holds_place, fitted, with_bytes, with_instance, without, range_at, range_in}
use Rattle.cfm_memory.specs.Kept.Searches.{part_of}
use Rattle.cfm_memory.specs.Views.{instance_seen}
use Rattle.cfm_memory.specs.Placement.{end_of, IsFree, IsLaidOut}
use Rattle.cfm_memory.proofs.Changes.{laid_out_from}
use Rattle.cfm_memory.proofs.Placing.{free_before, within_taken}

-- the instances, as all clauses see them
abbrev pub instances : List (ℕ × Vec ℕ) → List Instance
instances es = map instance_seen es

-- what the map has at an address
abbrev pub found : List (ℕ × Vec ℕ) → ℕ → Option (Vec ℕ)
found es address = lookup (λ k. is_eq (nat_cmp address k)) es

comes_before : (a b : ℕ) → a < b → nat_cmp a b ≡ Less
comes_before a b less = grind (arith, nat_tests)

found_is : (es : List (ℕ × Vec ℕ)) (address : ℕ) → option_map (λ (v : Vec ℕ). v.items) (found es address) ≡ bytes_at (instances es) address
found_is [] address = refl
found_is (e ∷ es) address =
    elim (eqb_tells e.0 address) [
      | inl same ↦ rw (cmp_equal address e.0, same.0) refl
      | inr other ↦ rw (cmp_equal address e.0, other.0) (found_is es address)
    ]

-- the bytes that the map has at an address are those of the instance there
pub bytes_found : (es : List (ℕ × Vec ℕ)) (address : ℕ) (v : Vec ℕ) → Some v ≡ found es address → bytes_at (instances es) address ≡ Some v.items
bytes_found es address v is = sym (found_is es address) ∙ ap (option_map (λ (v : Vec ℕ). v.items)) (sym is)

pub none_found : (es : List (ℕ × Vec ℕ)) (address : ℕ) → None ≡ found es address → bytes_at (instances es) address ≡ None
none_found es address is = sym (found_is es address) ∙ ap (option_map (λ (v : Vec ℕ). v.items)) (sym is)

some_found : (o : Option (Vec ℕ)) (size : ℕ) → has_length (option_map (λ (v : Vec ℕ). v.items) o) size ≡ true → IsSome o
some_found None size held = absurd (cc)
some_found (Some v) size held = refl

-- the map has an entry at the address of an instance that is held
pub held_found : (g : ℕ) (es : List (ℕ × Vec ℕ)) (limit : ℕ) (rs : List Reserved) (place : Place) (m : Layout) → record { granule = g; limit = limit; instances = instances es; reserved = rs } ≡ m → IsTrue (holds_place m place) → IsSome (found es place.address)
held_found g es limit rs place m view_is held =
    let is : has_length (bytes_at (instances es) place.address) place.size ≡ true = rw (← view_is) at held in
    some_found (found es place.address) place.size (rw (← found_is es place.address) at is)

some_is : (o : Option (Vec ℕ)) → IsSome o → (v : Vec ℕ) × (Some v ≡ o)
some_is None some = absurd (cc)
some_is (Some v) some = (v, refl)

-- a borrow of the map exists if the map has the entry
pub lent_there : (o : Option (MutBor (Vec ℕ))) (there : Option (Vec ℕ)) → option_copied_mut o ≡ there → IsSome there → IsSome o
lent_there None there is some = (let none : false ≡ true = subst (λ (o : Option (Vec ℕ)). IsSome o) (sym is) some in absurd (cc))
lent_there (Some r) there is some = refl

some_length : (bytes : List ℕ) (size : ℕ) → has_length (Some bytes) size ≡ true → length bytes ≡ size
some_length bytes size held = (Decides-eqb (length bytes) size).0 held

-- and it has the size of the place
pub held_length : (g : ℕ) (es : List (ℕ × Vec ℕ)) (limit : ℕ) (rs : List Reserved) (place : Place) (m : Layout) (bytes : List ℕ) → record { granule = g; limit = limit; instances = instances es; reserved = rs } ≡ m → IsTrue (holds_place m place) → bytes_at (instances es) place.address ≡ Some bytes → length bytes ≡ place.size
held_length g es limit rs place m bytes view_is held is =
    let there : has_length (bytes_at (instances es) place.address) place.size ≡ true = rw (← view_is) at held in
    some_length bytes place.size (rw is at there)

-- without the entry of an address
pub removed_is : (es : List (ℕ × Vec ℕ)) (address : ℕ) → instances (remove_entry (λ k. is_eq (nat_cmp address k)) es) ≡ without (instances es) address
removed_is [] address = refl
removed_is (e ∷ es) address =
    elim (eqb_tells e.0 address) [
      | inl same ↦ rw (cmp_equal address e.0, same.0) refl
      | inr other ↦ rw (cmp_equal address e.0, other.0) (ap (λ ys. instance_seen e ∷ ys) (removed_is es address))
    ]

-- with a new entry
pub inserted_is : (es : List (ℕ × Vec ℕ)) (address : ℕ) (v : Vec ℕ) → bytes_at (instances es) address ≡ None → instances (insert_entry nat_cmp es address v) ≡ with_instance (instances es) (record { address = address; bytes = v.items })
inserted_is [] address v none = refl
inserted_is (e ∷ es) address v none =
    elim (eqb_tells e.0 address) [
      | inl same ↦ absurd (let some = rw same.0 at none in cc)
      | inr other ↦ elim (leb_tells (suc e.0) address) [
        | inl below ↦ rw (cmp_greater address e.0 (omega (arith, below.1)), below.0) (ap (λ ys. instance_seen e ∷ ys) (inserted_is es address v (rw other.0 at none)))
        | inr above ↦ rw (comes_before address e.0 (omega (arith, above.1, other.1)), above.0) refl
      ]
    ]

-- with other bytes in an entry
pub written_is : (es : List (ℕ × Vec ℕ)) (address : ℕ) (v changed : Vec ℕ) (w : List ℕ) → Some v ≡ found es address → changed.items ≡ fitted v.items w
    → instances (set_value (λ k. is_eq (nat_cmp address k)) es changed) ≡ with_bytes (instances es) address w
written_is [] address v changed w is changed_is = refl
written_is (e ∷ es) address v changed w is changed_is =
    elim (eqb_tells e.0 address) [
      | inl same ↦
          (let there : v ≡ e.1 = same_Some v e.1 (rw (cmp_equal address e.0, same.0) at is) in
          rw (cmp_equal address e.0, same.0) (ap (λ (ys : List ℕ). record { address = e.0; bytes = ys } ∷ instances es) (changed_is ∙ ap (λ (u : Vec ℕ). fitted u.items w) there)))
      | inr other ↦ rw (cmp_equal address e.0, other.0) (ap (λ ys. instance_seen e ∷ ys) (written_is es address v changed w (rw (cmp_equal address e.0, other.0) at is) changed_is))
    ]

-- the entries from an address on
abbrev pub entries_from : ℕ → List (ℕ × Vec ℕ) → List (ℕ × Vec ℕ)
entries_from front es = entries_between nat_cmp (Included front) Unbounded es

from_is : (a b : ℕ) → (is_le (nat_cmp a b) && true) ≡ leb a b
from_is a b = grind (arith, nat_tests)

-- they are laid out
pub laid_out_among : (g from limit front : ℕ) (es : List (ℕ × Vec ℕ)) → IsLaidOut g from limit (instances es) → IsLaidOut g from limit (instances (entries_from front es))
laid_out_among g from limit front [] laid = tt
laid_out_among g from limit front (e ∷ es) laid =
    elim (leb_tells front e.0) [
      | inl behind ↦ rw (from_is front e.0, behind.0) (laid.0, laid.1, laid_out_among g (end_of g (instance_seen e)) limit front es laid.2)
      | inr before ↦ rw (from_is front e.0, before.0) (laid_out_among g from limit front es (laid_out_from g (end_of g (instance_seen e)) from limit (instances es) (omega arith) laid.2))
    ]

-- a range that is free is free among them
pub free_among : (g address end front : ℕ) (es : List (ℕ × Vec ℕ)) → IsFree g address end (instances es) → IsFree g address end (instances (entries_from front es))
free_among g address end front [] free = tt
free_among g address end front (e ∷ es) free =
    elim (leb_tells front e.0) [
      | inl behind ↦ rw (from_is front e.0, behind.0) (free.0, free_among g address end front es free.1)
      | inr before ↦ rw (from_is front e.0, before.0) (free_among g address end front es free.1)
    ]

-- and the other way round after the address, if no instance lies across it
pub free_of_all : (g address end front : ℕ) (es : List (ℕ × Vec ℕ)) → front ≤ address → IsFree g front front (instances es) → IsFree g address end (instances (entries_from front es)) → IsFree g address end (instances es)
free_of_all g address end front [] low between free = tt
free_of_all g address end front (e ∷ es) low between free =
    elim (leb_tells front e.0) [
      | inl behind ↦ (let there = rw (from_is front e.0, behind.0) at free in (there.0, free_of_all g address end front es low between.1 there.1))
      | inr before ↦
          (let there = rw (from_is front e.0, before.0) at free in
          let ends : end_of g (instance_seen e) ≤ address = elim (between.0) as (λ _. end_of g (instance_seen e) ≤ address) [ inl h ↦ absurd (omega (arith, h, before.1)) | inr h ↦ omega (arith, h, low) ] in
          (inr ends, free_of_all g address end front es low between.1 there))
    ]

-- the entries up to an address
abbrev pub entries_to : ℕ → List (ℕ × Vec ℕ) → List (ℕ × Vec ℕ)
entries_to address es = entries_between nat_cmp Unbounded (Included address) es

to_is : (a b : ℕ) → not (is_lt (nat_cmp a b)) ≡ leb b a
to_is a b = grind (arith, nat_tests)

not_before : (x : Instance) (others : Option (List ℕ)) (address len : ℕ) → address < x.address → option_or (range_in x address len) others ≡ others
not_before x others address len less =
    elim (leb_tells x.address address) [
      | inl begins ↦ absurd (omega (arith, begins.1))
      | inr before ↦ rw before.0 refl
    ]

-- if no instance begins up to an address, no bytes are there
pub none_to : (es : List (ℕ × Vec ℕ)) (address len : ℕ) → entries_to address es ≡ [] → range_at (instances es) address len ≡ None
none_to [] address len none = refl
none_to (e ∷ es) address len none =
    elim (leb_tells e.0 address) [
      | inl begins ↦ absurd (let some = rw (to_is address e.0, begins.0) at none in cc)
      | inr before ↦ not_before (instance_seen e) _ address len before.1 ∙ none_to es address len (rw (to_is address e.0, before.0) at none)
    ]

-- an instance that ends before another has no more bytes of a range after that one's begin than
-- that one
last_has : (g : ℕ) (x y : Instance) (others : Option (List ℕ)) (address len : ℕ) → end_of g x ≤ y.address → y.address ≤ address → others ≡ range_in y address len → option_or (range_in x address len) others ≡ range_in y address len
last_has g x y others address len behind begins is =
    let inside = within_taken g (length x.bytes) in
    elim (leb_tells x.address address) [
      | inl from ↦ (elim (leb_tells (address + len) (x.address + length x.bytes)) [
        | inl ends ↦
            (let none : len ≡ 0 = omega (arith, ends.1, inside) in
            elim (leb_tells y.address address) [
              | inl there ↦ elim (leb_tells (address + len) (y.address + length y.bytes)) [
                | inl within ↦ rw (from.0, ends.0, there.0, within.0, none) refl
                | inr past ↦ absurd (omega (arith, past.1, none, ends.1, behind, begins, inside))
              ]
              | inr before ↦ absurd (omega (arith, before.1))
            ])
        | inr past ↦ rw (from.0, past.0) is
      ])
      | inr before ↦ rw before.0 is
    ]

or_none : (o : Option (List ℕ)) → option_or o None ≡ o
or_none None = refl
or_none (Some x) = refl

-- the first entry of some, and the others
abbrev first_or : ℕ × Vec ℕ → List (ℕ × Vec ℕ) → ℕ × Vec ℕ
first_or e [] = e
first_or e (x ∷ xs) = x

abbrev others_of : List (ℕ × Vec ℕ) → List (ℕ × Vec ℕ)
others_of [] = []
others_of (x ∷ xs) = xs

-- the last that begins up to an address
pub last_begins : (es before : List (ℕ × Vec ℕ)) (e : ℕ × Vec ℕ) (address : ℕ) → entries_to address es ≡ before ++ e ∷ [] → e.0 ≤ address
last_begins [] [] e address is = absurd (cc)
last_begins [] (b ∷ before) e address is = absurd (cc)
last_begins (x ∷ es) [] e address is =
    elim (leb_tells x.0 address) [
      | inl begins ↦ (let there : x ∷ entries_to address es ≡ e ∷ [] = rw (to_is address x.0, begins.0) at is in let same : x ≡ e = ap (first_or e) there in rw (← same) begins.1)
      | inr behind ↦ last_begins es [] e address (rw (to_is address x.0, behind.0) at is)
    ]
last_begins (x ∷ es) (b ∷ before) e address is =
    elim (leb_tells x.0 address) [
      | inl begins ↦ last_begins es before e address (ap others_of (rw (to_is address x.0, begins.0) at is))
      | inr behind ↦ last_begins es (b ∷ before) e address (rw (to_is address x.0, behind.0) at is)
    ]

-- and lies after the others' begins
last_after : (g from limit : ℕ) (es before : List (ℕ × Vec ℕ)) (e : ℕ × Vec ℕ) (address : ℕ) → IsLaidOut g from limit (instances es) → entries_to address es ≡ before ++ e ∷ [] → from ≤ e.0
last_after g from limit [] [] e address laid is = absurd (cc)
last_after g from limit [] (b ∷ before) e address laid is = absurd (cc)
last_after g from limit (x ∷ es) [] e address laid is =
    elim (leb_tells x.0 address) [
      | inl begins ↦ (let there : x ∷ entries_to address es ≡ e ∷ [] = rw (to_is address x.0, begins.0) at is in let same : x ≡ e = ap (first_or e) there in rw (← same) laid.0)
      | inr behind ↦ (let h = last_after g (end_of g (instance_seen x)) limit es [] e address laid.2 (rw (to_is address x.0, behind.0) at is) in omega (arith, h, laid.0))
    ]
last_after g from limit (x ∷ es) (b ∷ before) e address laid is =
    elim (leb_tells x.0 address) [
      | inl begins ↦ (let h = last_after g (end_of g (instance_seen x)) limit es before e address laid.2 (ap others_of (rw (to_is address x.0, begins.0) at is)) in omega (arith, h, laid.0))
      | inr behind ↦ (let h = last_after g (end_of g (instance_seen x)) limit es (b ∷ before) e address laid.2 (rw (to_is address x.0, behind.0) at is) in omega (arith, h, laid.0))
    ]

-- it ends below the limit
pub last_ends : (g from limit : ℕ) (es before : List (ℕ × Vec ℕ)) (e : ℕ × Vec ℕ) (address : ℕ) → IsLaidOut g from limit (instances es) → entries_to address es ≡ before ++ e ∷ [] → end_of g (instance_seen e) ≤ limit
last_ends g from limit [] [] e address laid is = absurd (cc)
last_ends g from limit [] (b ∷ before) e address laid is = absurd (cc)
last_ends g from limit (x ∷ es) [] e address laid is =
    elim (leb_tells x.0 address) [
      | inl begins ↦ (let there : x ∷ entries_to address es ≡ e ∷ [] = rw (to_is address x.0, begins.0) at is in let same : x ≡ e = ap (first_or e) there in rw (← same) laid.1)
      | inr behind ↦ last_ends g (end_of g (instance_seen x)) limit es [] e address laid.2 (rw (to_is address x.0, behind.0) at is)
    ]
last_ends g from limit (x ∷ es) (b ∷ before) e address laid is =
    elim (leb_tells x.0 address) [
      | inl begins ↦ last_ends g (end_of g (instance_seen x)) limit es before e address laid.2 (ap others_of (rw (to_is address x.0, begins.0) at is))
      | inr behind ↦ last_ends g (end_of g (instance_seen x)) limit es (b ∷ before) e address laid.2 (rw (to_is address x.0, behind.0) at is)
    ]

-- if no instance begins up to an address, what ends there meets none
pub free_of_none : (g : ℕ) (es : List (ℕ × Vec ℕ)) (start address : ℕ) → entries_to address es ≡ [] → IsFree g start (address + 1) (instances es)
free_of_none g [] start address none = tt
free_of_none g (e ∷ es) start address none =
    elim (leb_tells e.0 address) [
      | inl begins ↦ (let there : e ∷ entries_to address es ≡ [] = rw (to_is address e.0, begins.0) at none in absurd (cc))
      | inr behind ↦ (inl (omega (arith, behind.1)), free_of_none g es start address (rw (to_is address e.0, behind.0) at none))
    ]

-- what begins after the end of the last one, and ends at an address, meets none
pub free_of_last : (g from limit : ℕ) (es before : List (ℕ × Vec ℕ)) (e : ℕ × Vec ℕ) (start address : ℕ) → IsLaidOut g from limit (instances es) → entries_to address es ≡ before ++ e ∷ [] → end_of g (instance_seen e) ≤ start → IsFree g start (address + 1) (instances es)
free_of_last g from limit [] [] e start address laid is ends = absurd (cc)
free_of_last g from limit [] (b ∷ before) e start address laid is ends = absurd (cc)
free_of_last g from limit (x ∷ es) [] e start address laid is ends =
    elim (leb_tells x.0 address) [
      | inl begins ↦
          (let there : x ∷ entries_to address es ≡ e ∷ [] = rw (to_is address x.0, begins.0) at is in
          let same : x ≡ e = ap (first_or e) there in
          (inr (rw same ends), free_of_none g es start address (ap others_of there)))
      | inr behind ↦ (inl (omega (arith, behind.1)), free_of_last g (end_of g (instance_seen x)) limit es [] e start address laid.2 (rw (to_is address x.0, behind.0) at is) ends)
    ]
free_of_last g from limit (x ∷ es) (b ∷ before) e start address laid is ends =
    elim (leb_tells x.0 address) [
      | inl begins ↦
          (let there = ap others_of (rw (to_is address x.0, begins.0) at is) in
          let low = last_after g (end_of g (instance_seen x)) limit es before e address laid.2 there in
          (inr (omega (arith, low, ends)), free_of_last g (end_of g (instance_seen x)) limit es before e start address laid.2 there ends))
      | inr behind ↦ (inl (omega (arith, behind.1)), free_of_last g (end_of g (instance_seen x)) limit es (b ∷ before) e start address laid.2 (rw (to_is address x.0, behind.0) at is) ends)
    ]

-- no other lies across its end, if it ends after that address
pub last_between : (g from limit : ℕ) (es before : List (ℕ × Vec ℕ)) (e : ℕ × Vec ℕ) (address : ℕ) → IsLaidOut g from limit (instances es) → entries_to address es ≡ before ++ e ∷ [] → IsFree g (end_of g (instance_seen e)) (end_of g (instance_seen e)) (instances es)
last_between g from limit [] [] e address laid is = absurd (cc)
last_between g from limit [] (b ∷ before) e address laid is = absurd (cc)
last_between g from limit (x ∷ es) [] e address laid is =
    elim (leb_tells x.0 address) [
      | inl begins ↦
          (let there : x ∷ entries_to address es ≡ e ∷ [] = rw (to_is address x.0, begins.0) at is in
          let same : x ≡ e = ap (first_or e) there in
          subst (λ (y : ℕ × Vec ℕ). IsFree g (end_of g (instance_seen y)) (end_of g (instance_seen y)) (instances (x ∷ es))) same (inr (omega arith), free_before g (end_of g (instance_seen x)) (end_of g (instance_seen x)) (end_of g (instance_seen x)) limit (instances es) (omega arith) laid.2))
      | inr behind ↦
          (let there : entries_to address es ≡ e ∷ [] = rw (to_is address x.0, behind.0) at is in
          let low = last_begins es [] e address there in
          let high = last_after g (end_of g (instance_seen x)) limit es [] e address laid.2 there in
          absurd (omega (arith, low, high, behind.1)))
    ]
last_between g from limit (x ∷ es) (b ∷ before) e address laid is =
    elim (leb_tells x.0 address) [
      | inl begins ↦
          (let there = ap others_of (rw (to_is address x.0, begins.0) at is) in
          let low = last_after g (end_of g (instance_seen x)) limit es before e address laid.2 there in
          (inr (omega (arith, low)), last_between g (end_of g (instance_seen x)) limit es before e address laid.2 there))
      | inr behind ↦
          (let there : entries_to address es ≡ b ∷ before ++ e ∷ [] = rw (to_is address x.0, behind.0) at is in
          let low = last_begins es (b ∷ before) e address there in
          let high = last_after g (end_of g (instance_seen x)) limit es (b ∷ before) e address laid.2 there in
          absurd (omega (arith, low, high, behind.1)))
    ]

-- what meets none doesn't meet the last one
pub last_free : (g : ℕ) (es before : List (ℕ × Vec ℕ)) (e : ℕ × Vec ℕ) (start end address : ℕ) → entries_to address es ≡ before ++ e ∷ [] → IsFree g start end (instances es) → (end ≤ e.0) ⊎ (end_of g (instance_seen e) ≤ start)
last_free g [] [] e start end address is free = absurd (cc)
last_free g [] (b ∷ before) e start end address is free = absurd (cc)
last_free g (x ∷ es) [] e start end address is free =
    elim (leb_tells x.0 address) [
      | inl begins ↦ (let there : x ∷ entries_to address es ≡ e ∷ [] = rw (to_is address x.0, begins.0) at is in let same : x ≡ e = ap (first_or e) there in rw (← same) free.0)
      | inr behind ↦ last_free g es [] e start end address (rw (to_is address x.0, behind.0) at is) free.1
    ]
last_free g (x ∷ es) (b ∷ before) e start end address is free =
    elim (leb_tells x.0 address) [
      | inl begins ↦ last_free g es before e start end address (ap others_of (rw (to_is address x.0, begins.0) at is)) free.1
      | inr behind ↦ last_free g es (b ∷ before) e start end address (rw (to_is address x.0, behind.0) at is) free.1
    ]

-- a range is that of the last instance that begins up to its address
pub range_of_last : (g from limit : ℕ) (es before : List (ℕ × Vec ℕ)) (e : ℕ × Vec ℕ) (address len : ℕ) → IsLaidOut g from limit (instances es) → entries_to address es ≡ before ++ e ∷ [] → range_at (instances es) address len ≡ range_in (instance_seen e) address len
range_of_last g from limit [] [] e address len laid is = absurd (cc)
range_of_last g from limit [] (b ∷ before) e address len laid is = absurd (cc)
range_of_last g from limit (x ∷ es) [] e address len laid is =
    elim (leb_tells x.0 address) [
      | inl begins ↦
          (let there : x ∷ entries_to address es ≡ e ∷ [] = rw (to_is address x.0, begins.0) at is in
          let same : x ≡ e = ap (first_or e) there in
          let none = none_to es address len (ap others_of there) in
          ap (option_or (range_in (instance_seen x) address len)) none ∙ (or_none (range_in (instance_seen x) address len) ∙ ap (λ (y : ℕ × Vec ℕ). range_in (instance_seen y) address len) same))
      | inr behind ↦ not_before (instance_seen x) _ address len behind.1 ∙ range_of_last g (end_of g (instance_seen x)) limit es [] e address len laid.2 (rw (to_is address x.0, behind.0) at is)
    ]
range_of_last g from limit (x ∷ es) (b ∷ before) e address len laid is =
    elim (leb_tells x.0 address) [
      | inl begins ↦
          (let there = ap others_of (rw (to_is address x.0, begins.0) at is) in
          last_has g (instance_seen x) (instance_seen e) (range_at (instances es) address len) address len (last_after g (end_of g (instance_seen x)) limit es before e address laid.2 there) (last_begins es before e address there) (range_of_last g (end_of g (instance_seen x)) limit es before e address len laid.2 there))
      | inr behind ↦ not_before (instance_seen x) _ address len behind.1 ∙ range_of_last g (end_of g (instance_seen x)) limit es (b ∷ before) e address len laid.2 (rw (to_is address x.0, behind.0) at is)
    ]

-- a part of an instance's bytes is the range at its place
pub part_is : (x : Instance) (address len : ℕ) → x.address ≤ address → part_of x.bytes (address - x.address) len ≡ range_in x address len
part_is x address len begins =
    elim (leb_tells x.address address) [
      | inl from ↦ (elim (leb_tells (address + len) (x.address + length x.bytes)) [
        | inl ends ↦ (elim (leb_tells (address - x.address + len) (length x.bytes)) [
          | inl within ↦ rw (from.0, ends.0, within.0) refl
          | inr past ↦ absurd (omega (arith, past.1, ends.1, from.1))
        ])
        | inr past ↦ (elim (leb_tells (address - x.address + len) (length x.bytes)) [
          | inl within ↦ absurd (omega (arith, past.1, within.1, from.1))
          | inr beyond ↦ rw (from.0, past.0, beyond.0) refl
        ])
      ])
      | inr before ↦ absurd (omega (arith, before.1, begins))
    ]
