use Rattle.std.proofs.Common.{◌≡◌, ◌++◌, drop, take}
use Rattle.pef_ports.specs.Names.{name_text}
use Rattle.pef_ports.proofs.name.plain_len.Given as goal

-- the bytes so far are printed as they are
abbrev pub invariant-loop-i : goal.invariant-loop-i
invariant-loop-i l = name_text l.name ≡ take l.i l.name ++ name_text (drop l.i l.name)
