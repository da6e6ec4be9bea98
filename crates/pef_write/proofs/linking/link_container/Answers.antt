-- The programs fit, and what is written is a container that `link` may give.
use Rattle.pef_write.proofs.LinkLemmas.{has_room, is_linked_container}
use Rattle.pef_write.proofs.linking.link_container.Goals as goal

pub encoded_container-requires : goal.encoded_container-requires
encoded_container-requires c = has_room c.args.script.now _ _ _ c.in_ok-encoded.ensures.1

pub returns : goal.returns
returns c = is_linked_container c.args.script.now _ _ _ c.in_ok-encoded.ensures.1 c.encoded_container.result c.encoded_container.ensures.bytes c.encoded_container.ensures.lengths
