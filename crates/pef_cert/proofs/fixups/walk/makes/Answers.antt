use Rattle.std.proofs.Common.{false, refl, None, Some}
use Rattle.pef_cert.specs.Fixups.Kept.Walks.{place_of}
use Rattle.pef_cert.proofs.FixupsProofs.WalkLemmas.{walk-says}
use Rattle.pef_cert.proofs.fixups.walk.makes.Goals as goal

pub returns-in-Some : goal.returns-in-Some
returns-in-Some c = walk-says c.args.program.now c.args.fixups.now (Some (place_of c.in-Some.walk)) c.is_empty.result c.in-Some.ensures c.is_empty.ensures

pub returns-in-None : goal.returns-in-None
returns-in-None c = walk-says c.args.program.now c.args.fixups.now None false c.in-None.ensures refl
