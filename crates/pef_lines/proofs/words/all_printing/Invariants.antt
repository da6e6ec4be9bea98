use Rattle.std.proofs.Common.{◌≡◌, ◌&&◌, drop}
use Rattle.std.specs.List.{list_all}
use Rattle.pef_lines.specs.Words.{is_printing}
use Rattle.pef_lines.proofs.words.all_printing.Given as goal

-- the answer so far and that of the bytes that are left are the whole
abbrev pub invariant-loop-byte : goal.invariant-loop-byte
invariant-loop-byte l = (l.all && list_all is_printing (drop l.byte-index l.bytes)) ≡ list_all is_printing l.bytes
