use Rattle.std.proofs.Common.{◌≡◌, ◌*◌, ◌++◌, drop, take}
use Rattle.pef_lines.specs.Views.{bytes_of_pairs}
use Rattle.pef_lines.proofs.pairs.spell.Given as goal

-- the bytes that are written and those of the pairs that are left are the whole
abbrev pub invariant-loop-i : goal.invariant-loop-i
invariant-loop-i l = take l.i l.bytes ++ bytes_of_pairs (drop (2 * l.i) l.digits) ≡ bytes_of_pairs l.digits
