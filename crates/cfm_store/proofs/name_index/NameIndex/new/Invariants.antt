-- The index has the exports from this one on.
use Rattle.pef_loader.specs.Views.{loaded}
use Rattle.cfm_store.specs.Kept.NameIndexes.{IsIndexFrom}
use Rattle.cfm_store.proofs.name_index.NameIndex.new.Given as goal

abbrev pub invariant-loop-i : goal.invariant-loop-i
invariant-loop-i l = IsIndexFrom (loaded l.loader) l.i l.values.entries l.longest
