-- The byte is nowhere, or there is no container before the first one.
use Rattle.cfm_members.proofs.SearchLemmas.{skips}
use Rattle.cfm_members.proofs.search.first_tag.Goals as goal

pub returns : goal.returns
returns c = skips c.args.bytes.now c.memchr.result c.memchr.ensures
