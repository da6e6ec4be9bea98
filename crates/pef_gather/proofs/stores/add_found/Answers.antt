-- One fragment more was added.
use Rattle.std.proofs.Common.{◌∙◌, ◌∷◌, ◌++◌, [], List, ap, get_or, map, sym, take}
use Rattle.std.proofs.lemmas.List.{append_assoc, map_more, map_push}
use Rattle.cfm_store.specs.Stores.{Pair}
use Rattle.pef_gather.specs.Seen.{found_seen}
use Rattle.pef_gather.specs.Stores.{found_pair}
use Rattle.pef_gather.proofs.stores.add_found.Goals as goal

pub loop-fragment-preserved : goal.loop-fragment-preserved
loop-fragment-preserved c =
    let at = c.loop-fragment in
    let xs = c.args.found.now in
    let i = at.fragment-index in
    let first = c.args.store.now in
    let before = map found_pair (map found_seen (take i xs)) in
    let next : Pair = found_pair (found_seen (get_or xs i _)) in
    let all = ap (map found_pair) (map_more found_seen xs i _ c.loop-fragment-test.true) ∙ map_push found_pair (map found_seen (take i xs)) (found_seen (get_or xs i _)) in
    c.in_ok-add.ensures.ok
    ∙ ap (λ (s : List Pair). s ++ next ∷ []) at.invariant
    ∙ append_assoc first before (next ∷ [])
    ∙ ap (λ (more : List Pair). first ++ more) (sym all)
