-- The parts, one after the other, are walked.
use Rattle.mac_report.proofs.PartLemmas as lemmas
use Rattle.mac_report.proofs.theorems.parts_join.Goals as goal

pub returns : goal.returns
returns c = lemmas.parts_join
