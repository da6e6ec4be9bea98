-- Hints hold after a change, and a search may begin at them.
use Rattle.std.proofs.Common.{◌≡◌, ◌⊎◌, ◌+◌, ◌-◌, ◌*◌, ◌/◌, ◌%◌, ◌^◌, ◌≤◌, ◌<◌, ℕ, zero, suc, max, min, get_or, List, [], ◌∷◌, ◌++◌, length, take, drop, replicate, leb, leb-true, true, ap, ◌∙◌, sym, subst, inl, inr, arith}
use Rattle.std.specs.List.{AllWithin}
use Rattle.std.specs.Global.{Vec}
use Rattle.std.proofs.Math.Nat.{div-add-mod, mul-mod_right, mul_assoc}
use Rattle.std.proofs.lemmas.Bool.{cases_lt}
use Rattle.cfm_memory.specs.Limits.{first_address}
use Rattle.cfm_memory.specs.Instances.{Instance}
use Rattle.cfm_memory.specs.Kept.Searches.{AllPassed, AreHints, AreLowered, IsBarren, IsFirstVacant, IsPast, IsStart, lowered, no_hint}
use Rattle.cfm_memory.specs.Placement.{AreClear, AreInTurn, IsClear, IsFree, IsLaidOut, end_of}
use Rattle.cfm_memory.specs.Views.{instance_seen}
use Rattle.cfm_memory.proofs.Entries.{entries_to, free_of_last, free_of_none, instances, last_begins, last_between, last_free}
use Rattle.cfm_memory.specs.declared.hints.Hint.{Hint}
use Rattle.cfm_memory.specs.declared.place.Reserved.{Reserved}

-- a multiple of a multiple
multiple_of_multiple : (a n m : ℕ) → a % n ≡ 0 → n % m ≡ 0 → a % m ≡ 0
multiple_of_multiple a n m a_is n_is =
    let ea : a ≡ n * (a / n) = omega (arith, div-add-mod a n, a_is) in
    let en : n ≡ m * (n / m) = omega (arith, div-add-mod n m, n_is) in
    let e : a ≡ m * (n / m * (a / n)) = ea ∙ ap (λ k. k * (a / n)) en ∙ mul_assoc m (n / m) (a / n) in
    subst (λ k. k % m ≡ 0) (sym e) (mul-mod_right m (n / m * (a / n)))

-- a part of a range is free and clear with it
free_part : (g address end to : ℕ) (xs : List Instance) → to ≤ end → IsFree g address end xs → IsFree g address to xs
free_part g address end to [] less free = tt
free_part g address end to (x ∷ xs) less free = (elim (free.0) as (λ _. (to ≤ x.address) ⊎ (end_of g x ≤ address)) [ inl h ↦ inl (omega (arith, h, less)) | inr h ↦ inr h ], free_part g address end to xs less free.1)

clear_part : (address end to : ℕ) (rs : List Reserved) → to ≤ end → IsClear address end rs → IsClear address to rs
clear_part address end to [] less clear = tt
clear_part address end to (r ∷ rs) less clear = (elim (clear.0) as (λ _. (to ≤ r.from) ⊎ (r.to ≤ address)) [ inl h ↦ inl (omega (arith, h, less)) | inr h ↦ inr h ], clear_part address end to rs less clear.1)

-- hints hold when no more is free
pub hints_stay : (g : ℕ) (xs ys : List Instance) (rs ts : List Reserved) (hints : List Hint) → ((address end : ℕ) → IsFree g address end ys → IsFree g address end xs) → ((address end : ℕ) → IsClear address end ts → IsClear address end rs) → AreHints g xs rs hints → AreHints g ys ts hints
hints_stay g xs ys rs ts hints free clear are = λ k d under. (λ other low aligned is_free is_clear. (are k d under).0 other low aligned (free other (other + (get_or hints k d).taken) is_free) (clear other (other + (get_or hints k d).taken) is_clear), (are k d under).1)

-- lowered hints hold when no more is free up to an address
pub hints_lowered : (g address : ℕ) (xs ys : List Instance) (rs ts : List Reserved) (hints lower : List Hint) → length lower ≡ length hints → AreLowered address hints lower
    → ((other end : ℕ) → end ≤ address → IsFree g other end ys → IsFree g other end xs) → ((other end : ℕ) → end ≤ address → IsClear other end ts → IsClear other end rs) → AreHints g xs rs hints → AreHints g ys ts lower
hints_lowered g address xs ys rs ts hints lower same are_lowered free clear are = λ k d under.
    let there : k < length hints = omega (arith, under, same) in
    subst (λ hint. IsBarren g ys ts hint × (hint.from ≤ 2 ^ 32)) (sym (are_lowered k d there)) (by (get_or hints k d) (are k d there))
  where
    by : (hint : Hint) → IsBarren g xs rs hint × (hint.from ≤ 2 ^ 32) → IsBarren g ys ts (lowered address hint) × ((lowered address hint).from ≤ 2 ^ 32)
    by hint is = (
      λ other low aligned is_free is_clear. elim (cases_lt address (other + hint.taken)) as (λ _. min hint.from (address - hint.taken) ≤ other) [
        | inl less ↦ omega (arith, less)
        | inr le ↦ (let h = is.0 other low aligned (free other (other + hint.taken) le is_free) (clear other (other + hint.taken) le is_clear) in omega (arith, h))
      ],
      omega (arith, is.1),
    )

-- hints that serve no search hold
pub none_hold : (g : ℕ) (xs : List Instance) (rs : List Reserved) (n : ℕ) → AreHints g xs rs (replicate n no_hint)
none_hold g xs rs zero = λ k d under. absurd (omega (arith, under))
none_hold g xs rs (suc n) = at (none_hold g xs rs n)
  where
    at : AreHints g xs rs (replicate n no_hint) → (k : ℕ) (d : Hint) → k < length (replicate (suc n) no_hint) → IsBarren g xs rs (get_or (replicate (suc n) no_hint) k d) × ((get_or (replicate (suc n) no_hint) k d).from ≤ 2 ^ 32)
    at rest zero d under = (λ other low aligned free clear. low, omega arith)
    at rest (suc k) d under = rest k d (omega (arith, under))

-- no address below the start of a search has room
pub start_barren : (g bytes step from : ℕ) (xs : List Instance) (rs : List Reserved) (hints : List Hint) → IsStart hints bytes step from → AreHints g xs rs hints → IsBarren g xs rs (record { from = from; taken = bytes; step = step })
start_barren g bytes step from xs rs hints start are = λ other low aligned free clear.
    start.1 other low (λ k d under serves. (are k d under).0 other low (multiple_of_multiple other step (get_or hints k d).step aligned serves.1)
    (free_part g other (other + bytes) (other + (get_or hints k d).taken) xs (omega (arith, serves.0)) free) (clear_part other (other + bytes) (other + (get_or hints k d).taken) rs (omega (arith, serves.0)) clear))

pub start_small : (g bytes step from : ℕ) (xs : List Instance) (rs : List Reserved) (hints : List Hint) → IsStart hints bytes step from → AreHints g xs rs hints → from ≤ 2 ^ 32
start_small g bytes step from xs rs hints start are = start.1 (2 ^ 32) (omega arith) (λ k d under serves. (are k d under).1)

-- nor below the first address from there on across which no instance lies
pub past_barren : (g bytes step from next : ℕ) (xs : List Instance) (rs : List Reserved) → 0 < bytes → IsPast g from xs next → IsBarren g xs rs (record { from = from; taken = bytes; step = step }) → IsBarren g xs rs (record { from = next; taken = bytes; step = step })
past_barren g bytes step from next xs rs some past barren = λ other low aligned free clear. past.full other (barren other low aligned free clear) (free_part g other (other + bytes) (other + 1) xs (omega (arith, some)) free)

-- ranges that end up to an address
pub passed_within : (address : ℕ) (rs : List Reserved) (k : ℕ) → AllWithin (λ (r : Reserved). leb r.to address ≡ true) rs 0 k → AllPassed address (take k rs)
passed_within address rs zero within = tt
passed_within address [] (suc k) within = tt
passed_within address (r ∷ rs) (suc k) within = (leb-true r.to address (within 0 r (omega arith) (omega arith)), passed_within address rs k (λ i d low high. within (suc i) d (omega arith) (omega (arith, high))))

-- the ranges that follow them are in turn, and clear of what all are clear of
clear_drop : (address end k : ℕ) (rs : List Reserved) → IsClear address end rs → IsClear address end (drop k rs)
clear_drop address end zero rs clear = clear
clear_drop address end (suc k) [] clear = tt
clear_drop address end (suc k) (r ∷ rs) clear = clear_drop address end k rs clear.1

pub are_clear_drop : (g : ℕ) (xs : List Instance) (k : ℕ) (rs : List Reserved) → AreClear g xs rs → AreClear g xs (drop k rs)
are_clear_drop g [] k rs clear = tt
are_clear_drop g (x ∷ xs) k rs clear = (clear_drop x.address (end_of g x) k rs clear.0, are_clear_drop g xs k rs clear.1)

pub in_turn_from : (from lower : ℕ) (rs : List Reserved) → lower ≤ from → AreInTurn from rs → AreInTurn lower rs
in_turn_from from lower [] less turn = omega (arith, less, turn)
in_turn_from from lower (r ∷ rs) less turn = (omega (arith, less, turn.0), turn.1, turn.2)

pub in_turn_drop : (from k : ℕ) (rs : List Reserved) → AreInTurn from rs → AreInTurn from (drop k rs)
in_turn_drop from zero rs turn = turn
in_turn_drop from (suc k) [] turn = turn
in_turn_drop from (suc k) (r ∷ rs) turn = in_turn_drop from k rs (in_turn_from r.to from rs (omega (arith, turn.0, turn.1)) turn.2)

clear_join : (from address end k : ℕ) (rs : List Reserved) → from ≤ address → AllPassed from (take k rs) → IsClear address end (drop k rs) → IsClear address end rs
clear_join from address end zero rs low passed clear = clear
clear_join from address end (suc k) [] low passed clear = tt
clear_join from address end (suc k) (r ∷ rs) low passed clear = (inr (omega (arith, low, passed.0)), clear_join from address end k rs low passed.1 clear)

-- what is vacant among the ranges that aren't passed is vacant among all
pub vacant_join : (g bytes step from address k : ℕ) (xs : List Instance) (rs : List Reserved) → first_address ≤ from → AllPassed from (take k rs) → IsBarren g xs rs (record { from = from; taken = bytes; step = step })
    → IsFirstVacant g bytes step from xs (drop k rs) address → IsFirstVacant g bytes step first_address xs rs address
vacant_join g bytes step from address k xs rs low passed barren is = record {
  low = omega (arith, low, is.low);
  aligned = is.aligned;
  free = is.free;
  clear = clear_join from address (address + bytes) k rs is.low passed is.clear;
  first = λ other above aligned free clear. is.first other (barren other above aligned free clear) aligned free (clear_drop other (other + bytes) k rs clear);
}

-- the end of the last instance that begins up to an address, or the address: none lies across it
pub past_last : (g from next limit : ℕ) (es before : List (ℕ × Vec ℕ)) (e : ℕ × Vec ℕ) → next ≡ max from (end_of g (instance_seen e)) → IsLaidOut g first_address limit (instances es) → entries_to from es ≡ before ++ e ∷ [] → IsPast g from (instances es) next
past_last g from next limit es before e next_is laid is = record {
  low = omega (arith, next_is);
  between = elim (cases_lt from (end_of g (instance_seen e))) as (λ _. IsFree g next next (instances es)) [
    | inl less ↦ (let same : end_of g (instance_seen e) ≡ next = omega (arith, next_is, less) in subst (λ n. IsFree g n n (instances es)) same (last_between g first_address limit es before e from laid is))
    | inr le ↦ (let same : from ≡ next = omega (arith, next_is, le) in subst (λ n. IsFree g n n (instances es)) same (free_part g from (from + 1) from (instances es) (omega arith) (free_of_last g first_address limit es before e from from laid is le)))
  ];
  full = λ other low free.
      let begins = last_begins es before e from is in
      elim (last_free g es before e other (other + 1) from is free) as (λ _. next ≤ other) [ inl h ↦ absurd (omega (arith, h, begins, low)) | inr h ↦ omega (arith, h, low, next_is) ];
}

pub past_none : (g from : ℕ) (es : List (ℕ × Vec ℕ)) → entries_to from es ≡ [] → IsPast g from (instances es) from
past_none g from es none = record {
  low = omega arith;
  between = free_part g from (from + 1) from (instances es) (omega arith) (free_of_none g es from from none);
  full = λ other low free. low;
}
