-- The words so far, and those of the names that are left, are those of all names.
use Rattle.std.proofs.Common.{◌≡◌, ◌++◌, length, map, drop}
use Rattle.std.specs.Prelude.{sum}
use Rattle.pef_hash.specs.Word.{hash_word}
use Rattle.pef_hash.specs.Build.{names_in}
use Rattle.pef_hash.proofs.builder.hash_words.Given as goal

abbrev pub invariant-loop-length : goal.invariant-loop-length
invariant-loop-length l = record {
  whole : sum (drop l.length-index l.lengths) ≡ length l.rest;
  words : l.words.items ++ map hash_word (names_in l.rest (drop l.length-index l.lengths)) ≡ map hash_word (names_in l.names l.lengths);
}
