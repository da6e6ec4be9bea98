-- The arrays that are left decide if those so far are plain.
use Rattle.std.proofs.Common.{◌≡◌, ◌&&◌, ◌/◌, ◌*◌, length, take}
use Rattle.pef_ports.specs.Kept.Plain.{are_plain}
use Rattle.pef_ports.proofs.name.is_plain_front.Given as goal

abbrev pub invariant-loop-chunk : goal.invariant-loop-chunk
invariant-loop-chunk l = (l.plain && are_plain (take (length l.rest / 16 * 16) l.rest)) ≡ are_plain (take (length l.name / 16 * 16) l.name)

abbrev pub decreases-loop-chunk : goal.decreases-loop-chunk
decreases-loop-chunk l = length l.rest
