-- One more fragment is released.
use Rattle.std.proofs.Common.{◌≡◌, ◌+◌, ◌≤◌, ℕ, Bool, false, drop, get_or, length, not, ap, ◌∙◌, arith}
use Rattle.cfm_prepare.specs.Lists.{has}
use Rattle.cfm_prepare.specs.Fragments.{all_given_back}
use Rattle.cfm_prepare.proofs.ListLemmas.{has-get}
use Rattle.cfm_prepare.proofs.ReleaseLemmas.{given-first, given-gone, given-past, others-kept, these-gone}
use Rattle.cfm_prepare.proofs.preparation.Preparation.undo.Goals as goal

pub loop-position-preserved : goal.loop-position-preserved
loop-position-preserved c =
    let at = c.loop-position in
    let ps = c.args.self.now.new.now in
    let i = at.position-index in
    let all = c.args.present.now.items in
    let before = c.args.memory.now in
    let keep : ℕ → Bool = λ p. not (has ps p) in
    let under = c.loop-position-test.true in
    let out : keep (get_or ps i 0) ≡ false = ap not (has-get ps i under) in (
      given-gone keep all at.present.items c.give_back_fragment.new.present.items before at.memory c.give_back_fragment.new.memory (get_or ps i 0) (drop (i + 1) ps) out
          c.give_back_fragment.ensures.back (given-first keep all at.present.items before at.memory ps i under at.invariant.0),
      c.give_back_fragment.ensures.ready,
    )

pub returns-clause-present : goal.returns-clause-present
returns-clause-present c =
    let at = c.loop-position in
    let ps = c.args.self.now.new.now in
    let all = c.args.present.now.items in
    let past : length ps ≤ at.position-index = omega (arith, c.loop-position-test.false) in
    (given-past (λ p. not (has ps p)) all at.present.items c.args.memory.now at.memory ps at.position-index past at.invariant.0).0 ∙ others-kept ps all

pub returns-clause-memory : goal.returns-clause-memory
returns-clause-memory c =
    let at = c.loop-position in
    let ps = c.args.self.now.new.now in
    let all = c.args.present.now.items in
    let past : length ps ≤ at.position-index = omega (arith, c.loop-position-test.false) in
    (given-past (λ p. not (has ps p)) all at.present.items c.args.memory.now at.memory ps at.position-index past at.invariant.0).1 ∙ ap (all_given_back c.args.memory.now) (these-gone ps all)
