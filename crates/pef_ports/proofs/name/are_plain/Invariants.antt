-- The bytes that are left decide if those so far are plain.
use Rattle.std.proofs.Common.{◌≡◌, ◌&&◌, drop}
use Rattle.pef_ports.specs.Kept.Plain.{are_plain}
use Rattle.pef_ports.proofs.name.are_plain.Given as goal

abbrev pub invariant-loop-b : goal.invariant-loop-b
invariant-loop-b l = (l.plain && are_plain (drop l.b-index l.bytes)) ≡ are_plain l.bytes
