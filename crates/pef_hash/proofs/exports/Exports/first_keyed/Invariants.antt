-- The exports that are left decide.
use Rattle.std.proofs.Common.{◌≡◌, ◌-◌}
use Rattle.pef_words.specs.Refusals.{first_among}
use Rattle.pef_hash.specs.Exports.{named_at}
use Rattle.pef_hash.specs.Views.{table_of}
use Rattle.pef_hash.proofs.exports.Exports.first_keyed.Given as goal

abbrev pub invariant-loop-i : goal.invariant-loop-i
invariant-loop-i l =
    first_among (named_at (table_of l.self) l.name) l.i (l.fn.places.end - l.i)
    ≡ first_among (named_at (table_of l.self) l.name) l.fn.places.start (l.fn.places.end - l.fn.places.start)
