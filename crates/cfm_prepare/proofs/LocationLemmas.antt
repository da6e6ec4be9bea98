-- Which connection has a fragment, connection by connection.
use Rattle.std.proofs.Common.{◌≡◌, ◌<◌, ◌+◌, ◌==◌, ℕ, Bool, true, false, List, [], ◌∷◌, Option, None, Some, cond, drop, length, refl, ◌∙◌, arith}
use Rattle.std.specs.Option.{option_or}
use Rattle.std.proofs.lemmas.List.{at_drop_more}
use Rattle.cfm_prepare.specs.Contexts.{Open}
use Rattle.cfm_prepare.specs.Fragments.{Present, is_present, places_of}
use Rattle.cfm_prepare.specs.Kept.Connections.{having_in, open_and, open_in, slot_of}
use Rattle.cfm_prepare.specs.Kept.Contexts.{IsKept}
use Rattle.cfm_prepare.specs.Kept.Users.{users_of}
use Rattle.cfm_prepare.specs.Lists.{has}
use Rattle.cfm_prepare.specs.Locations.{IsIn, first_having}
use Rattle.cfm_prepare.specs.declared.connections.Slot.{Slot}

-- the connection of a slot, or the first one after it
having-and : (c : Option Open) (os : List Open) (p : ℕ) → first_having (open_and c os) p ≡ option_or (having_in c p) (first_having os p)
having-and None os p = refl
having-and (Some o) os p = go (has o.closed.order p)
  where
    go : (b : Bool) → cond b (Some o) (first_having os p) ≡ option_or (cond b (Some o) None) (first_having os p)
    go true = refl
    go false = refl

pub having-at : (slots : List Slot) (i p : ℕ) → i < length slots → first_having (open_in (drop i slots)) p ≡ option_or (having_in (slot_of slots i).connected p) (first_having (open_in (drop (i + 1) slots)) p)
having-at slots i p under =
    at_drop_more (λ (ys : List Slot). first_having (open_in ys) p) slots i (record { number = 0; connected = None }) under
    ∙ having-and (slot_of slots i).connected (open_in (drop (i + 1) slots)) p

-- a fragment with places is present
pub has-places : (fs : List Present) (p : ℕ) → 0 < length (places_of fs p) → is_present fs p ≡ true
has-places [] p some = absurd (omega (arith, some))
has-places (f ∷ fs) p some = go (f.position == p) (has-places fs p) some
  where
    go : (b : Bool) → (0 < length (places_of fs p) → is_present fs p ≡ true) → 0 < length (cond b f.places (places_of fs p)) → cond b true (is_present fs p) ≡ true
    go true later some = refl
    go false later some = later some

-- a fragment that connections have is in the closure of a first one
pub none-having : (os : List Open) (p : ℕ) → first_having os p ≡ None → users_of os p ≡ 0
none-having [] p none = refl
none-having (o ∷ os) p none = go (has o.closed.order p) (none-having os p) none
  where
    go : (b : Bool) → (first_having os p ≡ None → users_of os p ≡ 0) → cond b (Some o) (first_having os p) ≡ None → cond b 1 0 + users_of os p ≡ 0
    go true later none = absurd (cc)
    go false later none = let unused = later none in omega (arith, unused)

-- an address in a fragment is in one that a connection has
pub has-connection : (most given : ℕ) (users : List ℕ) (os : List Open) (fs : List Present) (p address k offset : ℕ) → IsKept most given users os fs → IsIn (places_of fs p) address k offset → first_having os p ≡ None → ⊥
has-connection most given users os fs p address k offset kept is none =
    let some = kept.used p (has-places fs p (omega (arith, is.0))) in
    let counted = kept.counted p in
    let unused = none-having os p none in
    omega (arith, some, counted, unused)
