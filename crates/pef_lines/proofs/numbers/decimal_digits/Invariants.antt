use Rattle.std.proofs.Common.{◌≡◌, ◌<◌, ◌^◌, drop}
use Rattle.pef_lines.specs.Numbers.{below, digits_value, digits_number}
use Rattle.pef_lines.proofs.numbers.decimal_digits.Given as goal

-- the digits that are left make the number so far the number of them all
abbrev pub invariant-loop-digit : goal.invariant-loop-digit
invariant-loop-digit l = record {
  small : l.value < 2 ^ 32;
  whole : below (2 ^ 32) (digits_value 10 l.value (drop l.digit-index l.digits)) ≡ digits_number 10 l.digits;
}
