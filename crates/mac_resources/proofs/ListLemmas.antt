-- One row of a list, or the list of one type, after another.
use Rattle.std.proofs.Common.{◌≡◌, ℕ, suc, ◌+◌, ◌-◌, ◌/◌, ◌<◌, ◌≤◌, List, [], ◌∷◌, ◌++◌, length, refl, arith}
use Rattle.std.proofs.lemmas.Bool.{lt-ltb, le-ltb}
use Rattle.std.specs.Prelude.{Result, Ok, Err}
use Rattle.mac_resources.specs.declared.fault.ResourceFault.{ResourceFault}
use Rattle.mac_resources.specs.declared.reference.ResourceType.{ResourceType}
use Rattle.mac_resources.specs.declared.resource.ReferenceList.{ReferenceList}
use Rattle.mac_resources.specs.Fork.{ForkIs, type_from, type_in}
use Rattle.mac_resources.specs.References.{list_count}
use Rattle.mac_resources.specs.declared.fault.ResourceFault.TheVariants.{TooManyReferences}
use Rattle.mac_resources.specs.Resources.{ResourceIs, all_resources, list_then, lists_of, resource_in, row_then, rows_of}

-- the next row, and those after it
pub rows_of-next : (f : ForkIs) (list : ReferenceList) (i n : ℕ) → i < n → rows_of f list i (n - i) ≡ row_then (resource_in f list i) (rows_of f list (i + 1) (n - (i + 1)))
unfolding rows_of
rows_of-next f list i n under =
    let e : n - i ≡ suc (n - (i + 1)) = omega arith in
    rw e refl

-- no row is left
pub rows_of-end : (f : ForkIs) (list : ReferenceList) (i n : ℕ) → n ≤ i → rows_of f list i (n - i) ≡ []
unfolding rows_of
rows_of-end f list i n past =
    let e : n - i ≡ 0 = omega arith in
    rw e refl

-- the next type, and those after it
pub lists_of-next : (f : ForkIs) (t n budget : ℕ) → t < n → lists_of f t (n - t) budget ≡ list_then f t budget (lists_of f (t + 1) (n - (t + 1))) (type_in f t)
unfolding lists_of
lists_of-next f t n budget under =
    let e : n - t ≡ suc (n - (t + 1)) = omega arith in
    rw e refl

-- no type is left
pub lists_of-end : (f : ForkIs) (t n budget : ℕ) → n ≤ t → lists_of f t (n - t) budget ≡ []
unfolding lists_of
lists_of-end f t n budget past =
    let e : n - t ≡ 0 = omega arith in
    rw e refl

-- before the first row of a list without rows, and the first type, all resources are left
pub left-new : (f : ForkIs) (list : ReferenceList) → list_count list.kind ≡ 0 → rows_of f list 0 (list_count list.kind - 0) ++ lists_of f 0 (f.type_count - 0) (length f.map / 12) ≡ all_resources f
unfolding all_resources
left-new f list none =
    let e : f.type_count - 0 ≡ f.type_count = omega arith in
    rw (rows_of-end f list 0 (list_count list.kind) (omega arith), e) refl

-- after a list without more rows, the next type: its error, which is the last ..
pub left-cut : (f : ForkIs) (list : ReferenceList) (i t budget : ℕ) (fault : ResourceFault) → list_count list.kind ≤ i → t < f.type_count → type_in f t ≡ Err fault
    → rows_of f list i (list_count list.kind - i) ++ lists_of f t (f.type_count - t) budget
    ≡ Err fault ∷ (rows_of f list i (list_count list.kind - i) ++ lists_of f f.type_count (f.type_count - f.type_count) budget)
left-cut f list i t budget fault done more is =
    rw (rows_of-end f list i (list_count list.kind) done, lists_of-next f t f.type_count budget more, is, lists_of-end f f.type_count f.type_count budget (omega arith)) refl

-- .. or the error of its list, and the types after it ..
pub left-over : (f : ForkIs) (list : ReferenceList) (i t budget : ℕ) (k : ResourceType) → list_count list.kind ≤ i → t < f.type_count → type_in f t ≡ Ok k → budget < list_count k
    → rows_of f list i (list_count list.kind - i) ++ lists_of f t (f.type_count - t) budget
    ≡ Err (TooManyReferences t (f.header.map_offset + type_from f t + 4)) ∷ (rows_of f list i (list_count list.kind - i) ++ lists_of f (t + 1) (f.type_count - (t + 1)) budget)
left-over f list i t budget k done more is over =
    rw (rows_of-end f list i (list_count list.kind) done, lists_of-next f t f.type_count budget more, is, lt-ltb budget (list_count k) over) refl

-- .. or its rows, and the types after it
pub left-list : (f : ForkIs) (list : ReferenceList) (i t budget : ℕ) (k : ResourceType) → list_count list.kind ≤ i → t < f.type_count → type_in f t ≡ Ok k → list_count k ≤ budget
    → rows_of f (record { type_row = t; kind = k }) 0 (list_count k - 0) ++ lists_of f (t + 1) (f.type_count - (t + 1)) (budget - list_count k)
    ≡ rows_of f list i (list_count list.kind - i) ++ lists_of f t (f.type_count - t) budget
left-list f list i t budget k done more is fits =
    let e : list_count k - 0 ≡ list_count k = omega arith in
    rw (rows_of-end f list i (list_count list.kind) done, lists_of-next f t f.type_count budget more, is, le-ltb budget (list_count k) fits, e) refl

-- a row that isn't cut, and those after it
pub left-row : (f : ForkIs) (list : ReferenceList) (i n : ℕ) (r : ResourceIs) (others : List (Result ResourceIs ResourceFault)) → i < n → resource_in f list i ≡ Ok r
    → rows_of f list i (n - i) ++ others ≡ Ok r ∷ (rows_of f list (i + 1) (n - (i + 1)) ++ others)
left-row f list i n r others under is = rw (rows_of-next f list i n under, is) refl

-- a row that is cut is the last one
pub left-error : (f : ForkIs) (list : ReferenceList) (i n : ℕ) (fault : ResourceFault) (others : List (Result ResourceIs ResourceFault)) → i < n → resource_in f list i ≡ Err fault
    → rows_of f list i (n - i) ++ others ≡ Err fault ∷ (rows_of f list n (n - n) ++ others)
left-error f list i n fault others under is = rw (rows_of-next f list i n under, is, rows_of-end f list n n (omega arith)) refl

-- nothing is left after the last list and the last type
pub left-end : (f : ForkIs) (list : ReferenceList) (i t budget : ℕ) → list_count list.kind ≤ i → f.type_count ≤ t
    → rows_of f list i (list_count list.kind - i) ++ lists_of f t (f.type_count - t) budget ≡ []
left-end f list i t budget done past = rw (rows_of-end f list i (list_count list.kind) done, lists_of-end f t f.type_count budget past) refl
