-- What is left of the bytes follows in what is left of the text.
use Rattle.std.proofs.Common.{◌≡◌, drop}
use Rattle.pef_tool.specs.Kept.Spelling.{after}
use Rattle.pef_tool.proofs.spelling.after_all.Given as goal

abbrev pub invariant-loop-byte : goal.invariant-loop-byte
invariant-loop-byte l = after (drop l.byte-index l.bytes) l.rest ≡ after l.bytes l.text
