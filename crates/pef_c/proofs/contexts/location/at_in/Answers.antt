-- Where it was found is what is given.
use Rattle.cfm_prepare.specs.Locations.{location_seen}
use Rattle.pef_c.proofs.contexts.location.at_in.Goals as goal

pub returns-in-Some : goal.returns-in-Some
returns-in-Some c = (location_seen c.in-Some.found, c.in-Some.ensures, c.location_given.ensures)
