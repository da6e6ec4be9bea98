-- The fragment in its place was read.
use Rattle.std.proofs.Common.{sym}
use Rattle.cfm_closure.specs.Views.{fragment_seen}
use Rattle.cfm_closure.proofs.FragmentLemmas.{fragment_at-some}
use Rattle.cfm_closure.proofs.fragment.read_at.Goals as goal

pub returns-in-Some-clause-answer : goal.returns-in-Some-clause-answer
returns-in-Some-clause-answer c =
    c.requires.read c.args.p (fragment_seen c.in-Some.fragment.now) (fragment_at-some c.args.fragments.now c.args.p c.in-Some.fragment.now (sym c.in-Some.ensures))
