-- The fragments in the places that are chosen.
use Rattle.std.proofs.Common.{◌∙◌, List, Ok, ap, map, sym}
use Rattle.mac_fragments.specs.Candidates.{CandidateIs}
use Rattle.mac_fragments.specs.Choices.{chosen}
use Rattle.mac_fragments.specs.Candidates.{candidate_seen}
use Rattle.mac_fragments.specs.declared.candidate.Candidate.{Candidate}
use Rattle.pef_gather.specs.Gathered.{Found, picked}
use Rattle.pef_gather.specs.Seen.{found_seen}
use Rattle.pef_gather.proofs.choosing.choose.Goals as goal

pub returns : goal.returns
returns c =
    let found = map found_seen c.args.found.now in
    let root = c.args.root in
    let candidates = ap (λ (cs : List Candidate). map candidate_seen cs) c.as_slice.ensures.value ∙ c.in_ok-candidates.ensures in
    let places = c.as_slice-2.ensures.value ∙ c.in_ok-places.ensures ∙ ap (λ (cs : List CandidateIs). chosen cs root) candidates in
    ap (λ (fs : List Found). Ok fs) (sym (c.in_ok-fragments.ensures ∙ ap (picked found) places))
