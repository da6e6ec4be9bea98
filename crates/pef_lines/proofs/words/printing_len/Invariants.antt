use Rattle.std.proofs.Common.{◌≡◌, ◌+◌, drop}
use Rattle.pef_lines.specs.Kept.Words.{printing_len}
use Rattle.pef_lines.proofs.words.printing_len.Given as goal

-- those that were passed, and those at the front of what is left, are the whole
abbrev pub invariant-loop-at : goal.invariant-loop-at
invariant-loop-at l = l.at + printing_len (drop l.at l.bytes) ≡ printing_len l.bytes
