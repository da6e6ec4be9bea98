use Rattle.std.proofs.Common.{◌≡◌, ◌&&◌, drop}
use Rattle.std.specs.List.{list_all}
use Rattle.pef_lines.specs.Kept.Pairs.{is_hex}
use Rattle.pef_lines.proofs.pairs.all_hex.Given as goal

-- the answer so far and that of the digits that are left are the whole
abbrev pub invariant-loop-digit : goal.invariant-loop-digit
invariant-loop-digit l = (l.all && list_all is_hex (drop l.digit-index l.digits)) ≡ list_all is_hex l.digits
