-- One stub more was added.
use Rattle.std.proofs.Common.{◌≡◌, ◌∙◌, ◌∷◌, ◌++◌, [], List, ap, ap₂, false, get_or, map, sym, take, ℕ}
use Rattle.std.proofs.lemmas.List.{append_assoc, map_more}
use Rattle.cfm_store.specs.Stores.{Pair}
use Rattle.pef_gather.specs.Stores.{stub_pair}
use Rattle.pef_gather.proofs.stores.add_stubs.Goals as goal

abbrev pair_with : List ℕ → List ℕ → Pair
pair_with name bytes = record { name = name; bytes = bytes; free = false }

pub loop-stub-preserved : goal.loop-stub-preserved
loop-stub-preserved c =
    let at = c.loop-stub in
    let xs = c.args.stubs.now in
    let i = at.stub-index in
    let first = c.args.store.now in
    let before = map stub_pair (take i xs) in
    let next : Pair = stub_pair (get_or xs i c.stub-item.result) in
    let same : pair_with c.name.result.now c.bytes.result.now ≡ next = ap₂ pair_with c.name.ensures c.bytes.ensures ∙ ap stub_pair c.stub-item.is in
    c.in_ok-add.ensures.ok
    ∙ ap₂ (λ (s : List Pair) (p : Pair). s ++ p ∷ []) at.invariant same
    ∙ append_assoc first before (next ∷ [])
    ∙ ap (λ (more : List Pair). first ++ more) (sym (map_more stub_pair xs i c.stub-item.result c.loop-stub-test.true))
