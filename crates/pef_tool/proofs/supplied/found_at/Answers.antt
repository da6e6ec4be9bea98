-- The fragment is there, or the place is past the last one.
use Rattle.std.proofs.Common.{◌∙◌, Some, ap, option_map, sym}
use Rattle.std.proofs.lemmas.Option.{slice_get-get_or, slice_get-map, slice_get_past}
use Rattle.pef_gather.specs.Seen.{found_seen}
use Rattle.pef_gather.specs.declared.files.Found.{Found}
use Rattle.pef_tool.proofs.supplied.found_at.Goals as goal

pub returns-in-Some : goal.returns-in-Some
returns-in-Some c =
    let found = c.args.found.now in
    let fragment = c.in-Some.fragment.now in
    let is = c.in-Some.ensures.lookup.3 in
    sym (slice_get-map found_seen found c.args.place ∙ ap (option_map found_seen) (slice_get-get_or found c.args.place fragment is.0 ∙ ap (λ (f : Found). Some f) (sym (is.1 fragment))))

pub returns-in-None : goal.returns-in-None
returns-in-None c =
    let found = c.args.found.now in
    sym (slice_get-map found_seen found c.args.place ∙ ap (option_map found_seen) (slice_get_past found c.args.place c.in-None.ensures.lookup.3))
