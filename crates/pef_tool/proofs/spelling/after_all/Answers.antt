-- One byte after the other.
use Rattle.std.proofs.Common.{◌∙◌, sym}
use Rattle.std.proofs.lemmas.List.{at_drop_more}
use Rattle.pef_tool.specs.Kept.Spelling.{after}
use Rattle.pef_tool.proofs.SpellingLemmas.{after-then}
use Rattle.pef_tool.proofs.spelling.after_all.Goals as goal

pub returns-in-None : goal.returns-in-None
returns-in-None c =
    let at = c.loop-byte in
    sym (at_drop_more (λ bytes. after bytes at.rest.now) c.args.bytes.now at.byte-index _ c.loop-byte-test.true ∙ after-then _ _ at.rest.now _ c.in-None.ensures) ∙ at.invariant

pub loop-byte-preserved : goal.loop-byte-preserved
loop-byte-preserved c =
    let at = c.loop-byte in
    sym (at_drop_more (λ bytes. after bytes at.rest.now) c.args.bytes.now at.byte-index _ c.loop-byte-test.true ∙ after-then _ _ at.rest.now _ c.in-Some.ensures) ∙ at.invariant
