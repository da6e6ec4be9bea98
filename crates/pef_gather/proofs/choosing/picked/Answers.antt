-- The fragment in one place more was picked.
use Rattle.std.proofs.Common.{◌∙◌, ◌++◌, [], List, ℕ, ap, get_or, map, sym, take}
use Rattle.std.proofs.lemmas.List.{flat_map_more, take_more}
use Rattle.std.specs.Option.{option_to_list}
use Rattle.std.specs.Prelude.{slice_get}
use Rattle.pef_gather.specs.Gathered.{Found, picked}
use Rattle.pef_gather.specs.Seen.{found_seen}
use Rattle.pef_gather.proofs.choosing.picked.Goals as goal

pub loop-place-preserved : goal.loop-place-preserved
loop-place-preserved c =
    let at = c.loop-place in
    let places = c.args.places.now in
    let i = at.place-index in
    let found = map found_seen c.args.found.now in
    let pick : ℕ → List Found = λ p. option_to_list (slice_get found p) in
    c.in_ok-add_at.ensures
    ∙ ap (λ (fs : List Found). fs ++ pick (get_or places i 0)) at.invariant
    ∙ flat_map_more pick [] (take i places) (get_or places i 0)
    ∙ ap (picked found) (sym (take_more places i 0 c.loop-place-test.true))
