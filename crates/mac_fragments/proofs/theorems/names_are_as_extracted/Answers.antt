-- What is found by a name is the first fragment with it.
use Rattle.std.proofs.Common.{◌∙◌, ap, sym}
use Rattle.std.specs.Prelude.{cond}
use Rattle.cfm_members.specs.Fragments.{container_named}
use Rattle.mac_fragments.specs.Fragments.{alone, file_fragments, fragments_beside}
use Rattle.mac_fragments.proofs.NamedLemmas.{beside-first}
use Rattle.mac_fragments.proofs.theorems.names_are_as_extracted.Goals as goal

pub returns-clause-paired : goal.returns-clause-paired
unfolding file_fragments
returns-clause-paired c = λ bytes resources name fs is. beside-first bytes resources name fs is

pub returns-clause-own : goal.returns-clause-own
unfolding file_fragments container_named
returns-clause-own c = λ bytes name fs bare is.
    beside-first bytes bytes name fs (sym (ap (λ b. cond b (alone bytes) (fragments_beside bytes bytes)) bare) ∙ is)
