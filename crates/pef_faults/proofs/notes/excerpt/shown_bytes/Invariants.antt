-- The bytes so far are shown.
use Rattle.std.proofs.Common.{◌≡◌, ◌++◌, drop, map, take}
use Rattle.pef_faults.specs.Notes.Excerpts.{visible, zeros}
use Rattle.pef_faults.proofs.notes.excerpt.shown_bytes.Given as goal

abbrev pub invariant-loop-i : goal.invariant-loop-i
invariant-loop-i l = l.bytes ≡ map visible (take l.i l.window) ++ drop l.i zeros
