-- The bytes written, and those that the parts left spell, are what all parts spell.
use Rattle.std.proofs.Common.{◌≡◌, ◌-◌, ◌*◌, ◌++◌, take, drop}
use Rattle.pef_pidata.specs.Kept.Views.{common_seen}
use Rattle.pef_pidata.specs.Pattern.{woven}
use Rattle.pef_pidata.proofs.write.Common.weave.Given as goal

abbrev pub invariant-loop-i : goal.invariant-loop-i
invariant-loop-i l = take (l.i * l.step) l.target ++ woven (l.count - l.i) l.size (common_seen l.self) (drop (l.i * l.size) l.parts) ≡ woven l.count l.size (common_seen l.self) l.parts
