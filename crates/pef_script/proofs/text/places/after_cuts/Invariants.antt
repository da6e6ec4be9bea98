use Rattle.std.proofs.Common.{◌≡◌, ◌≤◌, length}
use Rattle.pef_script.specs.Text.Places.{after_cuts}
use Rattle.pef_script.proofs.text.places.after_cuts.Given as goal

-- the bytes left have the cuts left
abbrev pub invariant-cuts : goal.invariant-cuts
invariant-cuts l = record {
  same : after_cuts l.byte l.left l.rest ≡ after_cuts l.byte l.count l.bytes;
  shorter : length l.rest ≤ length l.bytes;
}

abbrev pub decreases-cuts : goal.decreases-cuts
decreases-cuts l = l.left
