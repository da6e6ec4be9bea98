use Rattle.std.proofs.Common.{◌≡◌, ◌+◌, ◌≤◌, ◌++◌, length, take}
use Rattle.pef_labels.proofs.packed.NumbersLeft.read.Given as goal

abbrev pub invariant-loop-place : goal.invariant-loop-place
invariant-loop-place l = record {
  len : length l.room ≡ length l.fn.room;
  read : l.fn.self ≡ take l.place l.room ++ l.self;
  more : length l.room ≤ l.place + length l.self;
}
