-- The programs fit, and what is written is a linked container with these certificates.
use Rattle.pef_write.proofs.LinkLemmas.{has_room, is_certified_link}
use Rattle.pef_write.proofs.linking.link.Goals as goal

pub encoded_container-requires : goal.encoded_container-requires
encoded_container-requires c = has_room c.args.script.now _ _ _ c.in_ok-certificates.ensures

pub returns : goal.returns
returns c = is_certified_link c.args.script.now _ _ _ c.in_ok-certificates.ensures _ c.in_ok-container.ensures.bytes c.in_ok-container.ensures.lengths
