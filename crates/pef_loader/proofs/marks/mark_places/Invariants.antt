-- The places from this one on are marked, and the first zero byte from it on may be known. If it isn't, there is none up to the last place.
use Rattle.std.proofs.Common.{◌≡◌, ◌*◌, ◌<◌, ◌≤◌, ◌-◌, ◌^◌, ℕ, IfSome, None, length}
use Rattle.std.specs.Prelude.{slice_index}
use Rattle.pef_loader.specs.Kept.Marks.{AreMarks, AreNonzero, IsFirstZero}
use Rattle.pef_loader.proofs.marks.mark_places.Given as goal

abbrev pub invariant-loop-k : goal.invariant-loop-k
invariant-loop-k l = record {
  len : length l.marks ≡ 64;
  marked : AreMarks l.cut.bytes.now l.step l.marks;
  next : IfSome l.next (IsFirstZero l.cut.bytes.now (l.k * l.step));
  gone : l.next ≡ None → AreNonzero l.cut.bytes.now (l.k * l.step) (64 * l.step);
  all : (j at : ℕ) → l.k ≤ j → j < 64 → at < 64 * l.step → at < 2 ^ 32 - 1 → IsFirstZero l.cut.bytes.now (j * l.step) at → slice_index l.marks j ≡ at;
}
