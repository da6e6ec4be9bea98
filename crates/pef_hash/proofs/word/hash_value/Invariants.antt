-- The bytes that are left turn the running value into that of all bytes from 0.
use Rattle.std.proofs.Common.{◌≡◌, drop}
use Rattle.std.specs.Prelude.{pos, fold}
use Rattle.pef_hash.specs.Word.{hash_step}
use Rattle.pef_hash.proofs.word.hash_value.Given as goal

abbrev pub invariant-loop-byte : goal.invariant-loop-byte
invariant-loop-byte l = fold hash_step l.hash (drop l.byte-index l.name) ≡ fold hash_step (pos 0) l.name
