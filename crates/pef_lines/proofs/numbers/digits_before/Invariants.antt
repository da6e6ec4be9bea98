use Rattle.std.proofs.Common.{◌≡◌, ◌<◌, ◌^◌, drop}
use Rattle.pef_lines.specs.Kept.Numbers.{digits_parted, limited}
use Rattle.pef_lines.proofs.numbers.digits_before.Given as goal

-- the digits that are left make the number so far the number of them all
abbrev pub invariant-loop-byte : goal.invariant-loop-byte
invariant-loop-byte l = record {
  small : l.value < 2 ^ 32;
  passed : l.len ≡ l.byte-index;
  whole : limited (digits_parted l.value (drop l.byte-index l.bytes)) ≡ limited (digits_parted l.first l.bytes);
}
