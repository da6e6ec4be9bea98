use Rattle.std.proofs.Common.{◌≡◌, drop}
use Rattle.std.specs.List.{fold}
use Rattle.pef_script.specs.Text.Contents.{placed}
use Rattle.pef_script.specs.Text.Kept.Sections.{AreApart}
use Rattle.pef_script.proofs.text.sections.FixupsSoFar.add_all.Given as goal

-- the fixups that are left are still apart, and complete the result
abbrev pub invariant-loop-fixup : goal.invariant-loop-fixup
invariant-loop-fixup l = record {
  apart : AreApart l.self (drop l.fixup-index l.fixups);
  whole : fold placed l.self (drop l.fixup-index l.fixups) ≡ fold placed l.fn.self l.fixups;
}
