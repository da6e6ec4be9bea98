-- One more key is written.
use Rattle.std.proofs.Common.{◌∙◌, ◌<◌, ◌≤◌, ◌++◌, ◌∷◌, [], length, ap, arith}
use Rattle.pef_write.specs.declared.field.Field.TheVariants.{Word}
use Rattle.pef_write.specs.Fields.{spelled}
use Rattle.pef_write.proofs.Fields.{none_left, one_more}
use Rattle.pef_write.proofs.NumberedLemmas.{key-here, keys-end, seen-fits}
use Rattle.pef_write.proofs.exports.put_keys.Goals as goal

pub hash_word-requires : goal.hash_word-requires
hash_word-requires c =
    let under : c.loop-export.export-index < length c.args.exports.now = omega arith in
    (seen-fits c.args.exports.now c.loop-export.export-index _ under c.requires.each).name

pub loop-export-preserved : goal.loop-export-preserved
loop-export-preserved c =
    let under : c.loop-export.export-index < length c.args.exports.now = omega arith in
    let key = c.in_ok-put_fields.ensures ∙ ap (λ w. c.loop-export.out.items ++ spelled (Word w ∷ [])) c.hash_word.ensures in
    one_more c.loop-export.out.items _ c.put_fields.new.out.items _ _ _ key (key-here c.args.exports.now c.loop-export.export-index _ under) c.loop-export.invariant

pub returns : goal.returns
returns c =
    let past : length c.args.exports.now ≤ c.loop-export.export-index = omega arith in
    none_left c.loop-export.out.items _ _ (keys-end c.args.exports.now c.loop-export.export-index past) c.loop-export.invariant
