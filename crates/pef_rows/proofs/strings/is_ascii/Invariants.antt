-- The bytes that are left decide if those so far are ASCII.
use Rattle.std.proofs.Common.{◌≡◌, ◌&&◌, drop}
use Rattle.pef_rows.specs.Strings.{is_ascii}
use Rattle.pef_rows.proofs.strings.is_ascii.Given as goal

abbrev pub invariant-loop-b : goal.invariant-loop-b
invariant-loop-b l = (l.ascii && is_ascii (drop l.b-index l.name)) ≡ is_ascii l.name
