-- If it is refused, the fragments placed are released, and nothing else.
use Rattle.std.proofs.Common.{◌≡◌, ℕ, List, sym, ap, subst, ◌∙◌}
use Rattle.cfm_memory.specs.Instances.{Layout}
use Rattle.cfm_prepare.specs.Fragments.{Present, all_given_back}
use Rattle.cfm_prepare.specs.Kept.Ready.{AreAbsent, AreReady, HaveBegun, others_of, these_of}
use Rattle.cfm_prepare.proofs.ReleaseLemmas.{others-all}
use Rattle.cfm_prepare.proofs.preparation.Preparation.run.Goals as goal

-- the memory after the new fragments are released
is-undone : (m mid after : Layout) (there now left : List Present) (new : List ℕ) → AreAbsent there new → HaveBegun m there new now mid → left ≡ others_of new now → after ≡ all_given_back mid (these_of new now)
    → (after ≡ m) × (left ≡ there)
is-undone m mid after there now left new absent begun left_is after_is =
    let parts = others-all new there begun.fresh absent.none begun.are in
    (after_is ∙ ap (all_given_back mid) (ap (these_of new) begun.behind ∙ parts.1) ∙ begun.others, left_is ∙ ap (others_of new) begun.behind ∙ parts.0)

pub returns-in-Err-clause-unchanged : goal.returns-in-Err-clause-unchanged
returns-in-Err-clause-unchanged c =
    is-undone c.args.memory.now c.take_steps.new.memory c.undo.new.memory c.args.present.now.items c.take_steps.new.present.items c.undo.new.present.items c.args.self.now.new.now c.requires.new c.in-Err.ensures.begun
    c.undo.ensures.present c.undo.ensures.memory

pub returns-in-Err-clause-ready : goal.returns-in-Err-clause-ready
returns-in-Err-clause-ready c =
    let same = returns-in-Err-clause-unchanged c in
    let L : Layout → Type 0 = λ m. AreReady m c.args.present.now.items in
    let P : List Present → Type 0 = λ fs. AreReady c.undo.new.memory fs in
    subst P (sym same.1) (subst L (sym same.0) c.requires.ready)
