use Rattle.pef_hash.proofs.RegularLemmas.{built_has_no_other, built_has_own, built_is_regular}
use Rattle.pef_hash.proofs.regular.built_tables_are_regular.Goals as goal

pub returns : goal.returns
returns c = record { regular = built_is_regular; own = built_has_own; other = built_has_no_other }
