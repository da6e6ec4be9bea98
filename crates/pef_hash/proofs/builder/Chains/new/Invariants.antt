use Rattle.pef_hash.specs.Kept.Chains.{IsChainedFrom}
use Rattle.pef_hash.proofs.builder.Chains.new.Given as goal

abbrev pub invariant-loop-i : goal.invariant-loop-i
invariant-loop-i l = IsChainedFrom l.i l.power l.words l.heads.items l.next.items
