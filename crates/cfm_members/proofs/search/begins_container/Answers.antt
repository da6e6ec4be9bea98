-- With the bytes of a header the tags decide.
use Rattle.std.proofs.Common.{length, refl}
use Rattle.std.proofs.lemmas.Bool.{le-leb, lt-leb}
use Rattle.cfm_members.specs.Search.{begins_container}
use Rattle.cfm_members.proofs.search.begins_container.Goals as goal

pub returns-then-bytes-ge-CONTAINER_HEADER_SIZE : goal.returns-then-bytes-ge-CONTAINER_HEADER_SIZE
unfolding begins_container
returns-then-bytes-ge-CONTAINER_HEADER_SIZE c =
    rw (le-leb 40 (length c.args.bytes.now) c.if-bytes-ge-CONTAINER_HEADER_SIZE.true) c.eq.ensures

pub returns-else-bytes-ge-CONTAINER_HEADER_SIZE : goal.returns-else-bytes-ge-CONTAINER_HEADER_SIZE
unfolding begins_container
returns-else-bytes-ge-CONTAINER_HEADER_SIZE c =
    rw (lt-leb 40 (length c.args.bytes.now) c.if-bytes-ge-CONTAINER_HEADER_SIZE.false) refl
