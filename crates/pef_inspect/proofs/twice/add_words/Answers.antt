-- The next word goes into the set, and is the first that comes again, or isn't.
use Rattle.std.proofs.Common.{◌≡◌, ◌∙◌, ap, Bool, true, false, inl, inr, not, refl, subst}
use Rattle.pef_reloc.specs.Left.{fixups_left}
use Rattle.pef_inspect.specs.Twice.{words_in}
use Rattle.pef_inspect.proofs.Seeing.{Walked, again_at_end, seen_at_end, walked_again, walked_more}
use Rattle.pef_inspect.proofs.twice.add_words.Goals as goal
use Rattle.pef_inspect.proofs.twice.add_words.Goals.{else-not-is_new-via-then-not-is_new+else-is_none, else-not-is_new-via-else-not-is_new}

flipped : (a b : Bool) → a ≡ not b → b ≡ not a
flipped true true is = is
flipped true false is = refl
flipped false true is = refl
flipped false false is = is

pub loop-addition-preserved-then-is_none : goal.loop-addition-preserved-then-is_none
loop-addition-preserved-then-is_none g c = record {
  can = c.loop-addition.invariant.can;
  finite = c.loop-addition.invariant.finite;
  walked = λ before is.
      let words = words_in c.args.section (fixups_left c.args.fixups) in
      let walked = subst (λ left. Walked before words c.loop-addition.seen c.loop-addition.again (words_in c.args.section left)) c.in-Some.ensures.steps (c.loop-addition.invariant.walked before is) in
      walked_again before words c.loop-addition.seen c.insert.new.self c.loop-addition.again (c.args.section, c.in-Some.addition.offset) (words_in c.args.section (fixups_left c.next.new.self)) walked
      c.in_ok-is_new.ensures.updates c.if-is_none.ensures (flipped _ _ c.in_ok-is_new.ensures.added ∙ ap not c.if-not-is_new.true);
}

pub loop-addition-preserved : goal.loop-addition-preserved
loop-addition-preserved g c = record {
  can = c.loop-addition.invariant.can;
  finite = c.loop-addition.invariant.finite;
  walked = λ before is.
      let words = words_in c.args.section (fixups_left c.args.fixups) in
      let walked = subst (λ left. Walked before words c.loop-addition.seen c.loop-addition.again (words_in c.args.section left)) c.in-Some.ensures.steps (c.loop-addition.invariant.walked before is) in
      walked_more before words c.loop-addition.seen c.insert.new.self c.loop-addition.again (c.args.section, c.in-Some.addition.offset) (words_in c.args.section (fixups_left c.next.new.self)) walked
      c.in_ok-is_new.ensures.updates
      (elim c.else-not-is_new.branch [
        | else-not-is_new-via-then-not-is_new+else-is_none w ↦ inl (w.is_none.ensures ∙ ap not w.if-is_none.false)
        | else-not-is_new-via-else-not-is_new w ↦ inr (flipped _ _ c.in_ok-is_new.ensures.added ∙ ap not w.if-not-is_new.false)
      ]);
}

pub returns-clause-again : goal.returns-clause-again
returns-clause-again g c before is =
    let words = words_in c.args.section (fixups_left c.args.fixups) in
    again_at_end before words c.loop-addition.seen c.loop-addition.again
    (subst (λ left. Walked before words c.loop-addition.seen c.loop-addition.again (words_in c.args.section left)) c.in_default.ensures.steps.0 (c.loop-addition.invariant.walked before is))

pub returns-clause-seen : goal.returns-clause-seen
returns-clause-seen g c before is =
    let words = words_in c.args.section (fixups_left c.args.fixups) in
    seen_at_end before words c.loop-addition.seen c.loop-addition.again
    (subst (λ left. Walked before words c.loop-addition.seen c.loop-addition.again (words_in c.args.section left)) c.in_default.ensures.steps.0 (c.loop-addition.invariant.walked before is))
