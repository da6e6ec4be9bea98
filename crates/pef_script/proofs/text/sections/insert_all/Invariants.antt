use Rattle.std.proofs.Common.{◌≡◌, drop}
use Rattle.std.specs.List.{fold}
use Rattle.pef_script.specs.Text.Contents.{placed}
use Rattle.pef_script.specs.Text.Kept.Sections.{AreApart, fixups_in}
use Rattle.pef_script.proofs.text.sections.insert_all.Given as goal

-- the fixups that are left are still apart, and complete the result
abbrev pub invariant-loop-fixup : goal.invariant-loop-fixup
invariant-loop-fixup l = record {
  apart : AreApart (fixups_in l.bases.entries) (drop l.fixup-index l.fixups);
  whole : fold placed (fixups_in l.bases.entries) (drop l.fixup-index l.fixups) ≡ fold placed (fixups_in l.fn.bases.entries) l.fixups;
}
