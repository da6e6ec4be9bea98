-- The offset before is the next one outwards.
use Rattle.std.proofs.Common.{◌≡◌, ◌∙◌, ◌-◌, suc, arith, ap, false, sym, true}
use Rattle.pef_tool.specs.Companions.{is_start, is_unnamed, mirrors_before}
use Rattle.pef_tool.proofs.MirrorLemmas.{before_name, before_none, inside_name}
use Rattle.pef_tool.proofs.companion.name_before.Goals as goal

pub returns-then-is_unnamed-clause-places : goal.returns-then-is_unnamed-clause-places
returns-then-is_unnamed-clause-places c = λ name.
    let folder = c.args.folder.now in
    let at = c.loop-at.at - 1 in
    let next : c.loop-at.at ≡ suc at = omega (arith, c.loop-at-test.true) in
    c.loop-at.invariant.places name ∙ ap (mirrors_before folder name) next ∙ before_none folder name at (sym c.is_start.ensures ∙ c.if-is_start.true) (ap is_unnamed (sym c.split_at.ensures.back) ∙ sym c.is_unnamed.ensures ∙ c.if-is_unnamed.true)

pub returns-else-is_unnamed-clause-places : goal.returns-else-is_unnamed-clause-places
returns-else-is_unnamed-clause-places c = λ name.
    let folder = c.args.folder.now in
    let at = c.loop-at.at - 1 in
    let next : c.loop-at.at ≡ suc at = omega (arith, c.loop-at-test.true) in
    c.loop-at.invariant.places name ∙ ap (mirrors_before folder name) next ∙ before_name folder name at (sym c.is_start.ensures ∙ c.if-is_start.true) (ap is_unnamed (sym c.split_at.ensures.back) ∙ sym c.is_unnamed.ensures ∙ c.if-is_unnamed.false)

pub loop-at-preserved : goal.loop-at-preserved
loop-at-preserved c =
    let folder = c.args.folder.now in
    let at = c.loop-at.at - 1 in
    let next : c.loop-at.at ≡ suc at = omega (arith, c.loop-at-test.true) in
    record {
      inside = omega (arith, c.loop-at.invariant.inside);
      places = λ name. c.loop-at.invariant.places name ∙ ap (mirrors_before folder name) next ∙ inside_name folder name at (sym c.is_start.ensures ∙ c.if-is_start.false);
    }
