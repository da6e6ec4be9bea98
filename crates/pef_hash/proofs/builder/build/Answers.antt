-- There are as many words as lengths.
use Rattle.std.proofs.Common.{refl, ◌∙◌}
use Rattle.std.proofs.lemmas.List.{length-map}
use Rattle.pef_hash.specs.Build.{built}
use Rattle.pef_hash.specs.Limits.{most_written_power}
use Rattle.pef_hash.proofs.Slots.{least_power-most}
use Rattle.pef_hash.proofs.SlotLists.{length-names_in}
use Rattle.pef_hash.proofs.builder.build.Goals as goal

pub lay_out-requires-clause-few : goal.lay_out-requires-clause-few
lay_out-requires-clause-few c = rw (c.deref.ensures.value, c.in_ok-words.ensures) (simp (length-map, length-names_in) c.requires.few)

pub lay_out-requires-clause-small : goal.lay_out-requires-clause-small
lay_out-requires-clause-small c =
    let most = least_power-most _ 0 most_written_power in
    rw c.power_for-power.ensures most

pub returns : goal.returns
unfolding built
returns c = c.in_ok-lay_out.ensures ∙ rw (c.power_for-power.ensures, c.deref.ensures.value, c.in_ok-words.ensures, length-names_in) refl
