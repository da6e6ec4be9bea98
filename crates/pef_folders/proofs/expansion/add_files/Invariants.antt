-- The words so far, and those of the files that are left, are all words.
use Rattle.std.proofs.Common.{◌≡◌, ◌++◌, drop, map}
use Rattle.std.specs.Prelude.{string_bytes}
use Rattle.pef_folders.specs.Expansions.{library_words}
use Rattle.pef_folders.proofs.expansion.add_files.Given as goal

abbrev pub invariant-loop-name : goal.invariant-loop-name
invariant-loop-name l =
    map string_bytes l.out.items ++ library_words l.path (map string_bytes (drop l.name-index l.names))
    ≡ map string_bytes l.fn.out.items ++ library_words l.path (map string_bytes l.names)
