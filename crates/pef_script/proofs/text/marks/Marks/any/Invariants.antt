use Rattle.std.proofs.Common.{◌≡◌, ◌-◌}
use Rattle.pef_script.specs.Text.Kept.Marks.{any_lead}
use Rattle.pef_script.proofs.text.marks.Marks.any.Given as goal

-- the multiples left decide
abbrev pub invariant-loop-i : goal.invariant-loop-i
invariant-loop-i l = any_lead l.self.leads.items l.i (l.to - l.i) ≡ any_lead l.self.leads.items l.from (l.to - l.from)
