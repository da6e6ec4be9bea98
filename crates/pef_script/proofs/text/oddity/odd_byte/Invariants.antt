use Rattle.std.proofs.Common.{◌≡◌, drop}
use Rattle.pef_script.specs.Text.Oddities.{odd_byte}
use Rattle.pef_script.proofs.text.oddity.odd_byte.Given as goal

-- the bytes left decide
abbrev pub invariant-loop-byte : goal.invariant-loop-byte
invariant-loop-byte l = odd_byte (drop l.byte-index l.line) ≡ odd_byte l.line
