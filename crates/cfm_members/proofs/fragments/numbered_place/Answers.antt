-- The places that the search gives are those of the bytes.
use Rattle.std.proofs.Common.{◌∙◌, sym}
use Rattle.std.proofs.lemmas.Iterator.Adapters.{option_map_id}
use Rattle.std.proofs.lemmas.Iterator.Consumers.{YieldsList-from_first, nth_from_yields_List}
use Rattle.cfm_members.specs.Search.{containers_in}
use Rattle.cfm_members.specs.Views.{places_left}
use Rattle.cfm_members.proofs.fragments.numbered_place.Goals as goal

pub returns : goal.returns
returns c =
    let places = YieldsList-from_first (λ x. x) places_left (containers_in c.args.bytes.now 0) c.new.ensures.places in
    sym (option_map_id c.nth.result) ∙ nth_from_yields_List c.nth.result c.nth.new.self c.args.number c.nth.ensures.ran places
