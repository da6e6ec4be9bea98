use Rattle.std.proofs.Common.{◌≡◌, ◌++◌, drop, take}
use Rattle.pef_rows.specs.Strings.{string_text}
use Rattle.pef_rows.proofs.strings.plain_len.Given as goal

-- the bytes so far need no escape
abbrev pub invariant-loop-i : goal.invariant-loop-i
invariant-loop-i l = string_text l.name ≡ take l.i l.name ++ string_text (drop l.i l.name)
