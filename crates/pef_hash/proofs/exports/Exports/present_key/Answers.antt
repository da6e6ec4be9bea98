-- The table is whole.
use Rattle.std.proofs.Common.{sym, ◌∙◌}
use Rattle.pef_hash.specs.Views.{table_of}
use Rattle.pef_hash.proofs.FoundLemmas.{key_there}
use Rattle.pef_hash.proofs.exports.Exports.present_key.Goals as goal

pub unreachable-requires : goal.unreachable-requires
unreachable-requires c =
    let there = key_there (table_of c.args.self.now) c.args.i c.args.self.now.complete c.requires in
    let none = sym c.in-None.is ∙ c.key.ensures in
    absurd (cc)
