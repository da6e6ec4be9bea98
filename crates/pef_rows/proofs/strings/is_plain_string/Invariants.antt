-- The bytes that are left decide if those so far need no escape.
use Rattle.std.proofs.Common.{◌≡◌, ◌&&◌, drop}
use Rattle.pef_rows.specs.Kept.Plain.{are_plain}
use Rattle.pef_rows.proofs.strings.is_plain_string.Given as goal

abbrev pub invariant-loop-b : goal.invariant-loop-b
invariant-loop-b l = (l.plain && are_plain (drop l.b-index l.name)) ≡ are_plain l.name
