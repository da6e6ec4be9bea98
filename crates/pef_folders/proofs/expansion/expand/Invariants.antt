-- The words so far, and whatever the words that are left become, are what all words become.
use Rattle.std.proofs.Common.{◌≡◌, ◌++◌, ℕ, List, drop, map}
use Rattle.std.specs.Prelude.{string_bytes}
use Rattle.pef_folders.specs.Expansions.{Expands, items_from}
use Rattle.pef_folders.specs.declared.expansion.Reading.TheVariants.{Program}
use Rattle.pef_folders.proofs.expansion.expand.Given as goal

abbrev pub invariant-loop-word : goal.invariant-loop-word
invariant-loop-word g l = (tail : List (List ℕ)) → Expands (g.D.Folders.did_list l.folders) (items_from l.reading (map string_bytes (drop l.word-index l.words))) tail
    → Expands (g.D.Folders.did_list l.folders) (items_from Program (map string_bytes l.words)) (map string_bytes l.out.items ++ tail)
