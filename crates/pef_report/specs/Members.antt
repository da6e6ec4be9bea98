-- A member of an object, without its address in memory.
use Rattle.std.specs.Prelude.{ℕ, List}
use Rattle.pef_format.specs.declared.place.Part.{Part}
use Rattle.pef_report.specs.declared.members.Member.{Member}

abbrev pub member_seen : Member → List ℕ × Part
member_seen m = (m.key.now, m.part)
