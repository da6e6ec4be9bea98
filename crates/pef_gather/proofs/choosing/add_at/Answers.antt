-- The fragment is there, or the place is past the last one.
use Rattle.std.proofs.Common.{◌∙◌, ◌++◌, Option, ap, append-nil, map, sym}
use Rattle.std.proofs.lemmas.List.{map_push}
use Rattle.std.specs.Option.{option_to_list}
use Rattle.pef_gather.specs.Gathered.{Found}
use Rattle.pef_gather.specs.Seen.{found_seen}
use Rattle.pef_gather.proofs.GatherLemmas.{found-at, found-past}
use Rattle.pef_gather.proofs.choosing.add_at.Goals as goal

pub returns-in-None : goal.returns-in-None
returns-in-None c =
    let old = map found_seen c.args.fragments.now.items in
    let none = found-past c.args.found.now c.args.place c.in-None.ensures.lookup.3 in
    sym (ap (λ (o : Option Found). old ++ option_to_list o) none ∙ append-nil old)

pub returns-in_ok-push-in-Some : goal.returns-in_ok-push-in-Some
returns-in_ok-push-in-Some c =
    let old = map found_seen c.args.fragments.now.items in
    let fragment = c.in-Some.fragment.now in
    let found = c.in-Some.ensures.lookup.3 in
    let some = found-at c.args.found.now c.args.place fragment found.0 (found.1 fragment) in
    ap (map found_seen) c.in_ok-push-in-Some.ensures.items
    ∙ map_push found_seen c.args.fragments.now.items fragment
    ∙ sym (ap (λ (o : Option Found). old ++ option_to_list o) some)
