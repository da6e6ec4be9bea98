-- An export with another key has another name.
use Rattle.std.proofs.Common.{◌∙◌, sym}
use Rattle.std.proofs.lemmas.Bool.{ne_eqb}
use Rattle.pef_hash.specs.Views.{table_of}
use Rattle.pef_hash.proofs.SearchLemmas.{unkeyed}
use Rattle.pef_hash.proofs.exports.Exports.is_keyed.Goals as goal

pub returns-else-present_key-word : goal.returns-else-present_key-word
returns-else-present_key-word c =
    ne_eqb c.present_key.result c.args.word c.if-present_key-word.false
    ∙ sym (unkeyed (table_of c.args.self.now) c.args.name.now c.args.word c.args.i c.present_key.result c.requires.leads c.requires.word c.present_key.ensures c.if-present_key-word.false)
