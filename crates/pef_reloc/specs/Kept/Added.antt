-- The additions to a row of words.
use Rattle.std.specs.Prelude.{ℕ, List, drop}
use Rattle.pef_reloc.specs.declared.fixup.Base.TheVariants.{Section}
use Rattle.pef_reloc.specs.declared.fixup.Fixup.{Fixup}
use Rattle.pef_reloc.specs.declared.run.Added.{Added}
use Rattle.pef_reloc.specs.declared.run.Added.TheVariants as added
use Rattle.pef_reloc.specs.declared.words.Row.{Row}
use Rattle.pef_reloc.specs.Steps.{numbered, pairs, row}

-- the additions to the words of a row
abbrev pub run_added : Row → Added → List Fixup
run_added r (added.Section k) = row r.count r.from r.stride (Section k)
run_added r (added.Pairs c d) = pairs r.count r.from r.stride (Section c) (Section d)
run_added r (added.Seconds c d) = drop 1 (pairs r.count r.from r.stride (Section c) (Section d))
run_added r (added.Imports m) = numbered r.count r.from m

-- the import that comes next, and 0 if none does
abbrev pub import_in : Added → ℕ
import_in (added.Section k) = 0
import_in (added.Pairs c d) = 0
import_in (added.Seconds c d) = 0
import_in (added.Imports m) = m
