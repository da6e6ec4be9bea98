-- One byte of the name after the other.
use Rattle.std.proofs.Common.{◌∙◌, ap, sym}
use Rattle.std.proofs.lemmas.List.{at_drop_more}
use Rattle.std.specs.Str.{bytes_eq}
use Rattle.pef_rows.specs.Strings.{character_of}
use Rattle.pef_tool.specs.Kept.Spelling.{after}
use Rattle.pef_tool.specs.Spellings.{utf8_of, utf8_text}
use Rattle.pef_tool.proofs.SpellingLemmas.{after-none, after-some}
use Rattle.pef_tool.proofs.spelling.is_utf8_of.Goals as goal

pub returns-in-None : goal.returns-in-None
returns-in-None c =
    let at = c.loop-b in
    sym (at_drop_more (λ name. bytes_eq (utf8_text name) at.rest.now) c.args.name.now at.b-index _ c.loop-b-test.true ∙ after-none _ _ at.rest.now (sym (c.in-None.ensures ∙ ap (λ character. after (utf8_of character) at.rest.now) c.character_of.ensures))) ∙ at.invariant

pub loop-b-preserved : goal.loop-b-preserved
loop-b-preserved c =
    let at = c.loop-b in
    sym (at_drop_more (λ name. bytes_eq (utf8_text name) at.rest.now) c.args.name.now at.b-index _ c.loop-b-test.true ∙ after-some _ _ at.rest.now _ (sym (c.in-Some.ensures ∙ ap (λ character. after (utf8_of character) at.rest.now) c.character_of.ensures))) ∙ at.invariant
