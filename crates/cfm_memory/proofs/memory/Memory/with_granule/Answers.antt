-- There are no instances and no reserved ranges, and no hint tells anything.
use Rattle.std.proofs.Common.{sym, subst, rules}
use Rattle.cfm_memory.specs.Kept.Searches.{AreHints}
use Rattle.cfm_memory.proofs.Entries.{instances}
use Rattle.cfm_memory.proofs.Remembered.{none_hold}
use Rattle.cfm_memory.proofs.memory.Memory.with_granule.Goals as goal

pub invariant_of-result : goal.invariant_of-result
invariant_of-result c =
    let xs = instances c.new-2.result.entries in
    let rs = c.new-3.result.items in
    record {
      laid_out = search rules;
      in_turn = search rules;
      clear = search rules;
      are_hints = subst (AreHints c.args.granule.bytes xs rs) (sym c.new.ensures) (none_hold c.args.granule.bytes xs rs 64);
      small = search rules;
    }
