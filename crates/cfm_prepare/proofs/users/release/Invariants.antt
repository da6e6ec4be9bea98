-- The rest of the order may be released.
use Rattle.std.proofs.Common.{drop, nat_lt}
use Rattle.cfm_prepare.proofs.ReleaseLemmas.{AreGiven}
use Rattle.cfm_prepare.specs.Kept.Users.{count_at}
use Rattle.cfm_prepare.proofs.users.release.Given as goal

abbrev pub invariant-loop-position : goal.invariant-loop-position
invariant-loop-position l = AreGiven (λ p. nat_lt 0 (count_at l.users p)) l.fn.fragments.present l.fn.fragments.memory l.fragments.present l.fragments.memory (drop l.position-index l.order)
