-- How many rows a walk over all resources has.
use Rattle.std.proofs.Common.{◌≡◌, ℕ, zero, suc, ◌+◌, ◌-◌, ◌/◌, ◌≤◌, Bool, true, false, List, length, refl, arith, length-append}
use Rattle.std.specs.Prelude.{Result, Ok, Err, nat_lt, cond}
use Rattle.std.proofs.lemmas.Bool.{ltb-false}
use Rattle.mac_resources.specs.declared.fault.ResourceFault.{ResourceFault}
use Rattle.mac_resources.specs.declared.reference.ResourceType.{ResourceType}
use Rattle.mac_resources.specs.declared.resource.ReferenceList.{ReferenceList}
use Rattle.mac_resources.specs.Fork.{ForkIs, type_in}
use Rattle.mac_resources.specs.References.{list_count}
use Rattle.mac_resources.specs.Resources.{ResourceIs, all_resources, list_then, lists_of, resource_in, row_then, rows_of}

row-few : (r : Result ResourceIs ResourceFault) (others : List (Result ResourceIs ResourceFault)) (n : ℕ) → length others ≤ n → length (row_then r others) ≤ suc n
row-few (Ok r) others n few = omega arith
row-few (Err fault) others n few = omega arith

-- a list has no more rows than its count says
pub rows-few : (f : ForkIs) (list : ReferenceList) (i n : ℕ) → length (rows_of f list i n) ≤ n
unfolding rows_of
rows-few f list i zero = omega arith
rows-few f list i (suc n) = row-few (resource_in f list i) (rows_of f list (i + 1) n) n (rows-few f list (i + 1) n)

choice-few : (b : Bool) (left right : List (Result ResourceIs ResourceFault)) (n : ℕ) → (b ≡ true → length left ≤ n) → (b ≡ false → length right ≤ n) → length (cond b left right) ≤ n
choice-few true left right n first second = first refl
choice-few false left right n first second = second refl

list-few : (f : ForkIs) (t n budget : ℕ) (others : ℕ → List (Result ResourceIs ResourceFault)) (r : Result ResourceType ResourceFault) → ((b : ℕ) → length (others b) ≤ n + b) → length (list_then f t budget others r) ≤ suc n + budget
list-few f t n budget others (Err fault) few = omega arith
list-few f t n budget others (Ok k) few =
    choice-few (nat_lt budget (list_count k)) _ _ (suc n + budget)
    (λ over. (let rest = few budget in omega (arith, rest)))
    (λ fits. (
    let rows = rows_of f (record { type_row = t; kind = k }) 0 (list_count k) in
    let least = ltb-false budget (list_count k) fits in
    let first = rows-few f (record { type_row = t; kind = k }) 0 (list_count k) in
    let rest = few (budget - list_count k) in
    let whole = length-append rows (others (budget - list_count k)) in
    omega (arith, least, first, rest, whole)))

-- types and their rows
pub lists-few : (f : ForkIs) (t n budget : ℕ) → length (lists_of f t n budget) ≤ n + budget
unfolding lists_of
lists-few f t zero budget = omega arith
lists-few f t (suc n) budget = list-few f t n budget (lists_of f (t + 1) n) (type_in f t) (λ b. lists-few f (t + 1) n b)

-- no more rows than types and references that the map has bytes for
pub all_few : (f : ForkIs) → length (all_resources f) ≤ f.type_count + length f.map / 12
unfolding all_resources
all_few f = lists-few f 0 f.type_count (length f.map / 12)
