use Rattle.std.proofs.Common.{◌+◌, ◌∙◌, List, ℕ, ap, subst, sym}
use Rattle.pef_plan.proofs.RegisterLemmas.{UsedBelow, unmarked, used_all, used_more, used_none, used_passed}
use Rattle.pef_plan.proofs.registers.registers_of.Goals as goal
use Rattle.pef_plan.proofs.registers.registers_of.Goals.{then-used-section+in_ok-push, else-used-section}

pub mark_used-requires-clause-none : goal.mark_used-requires-clause-none
mark_used-requires-clause-none c = λ k. unmarked 16 k

pub loop-section-init : goal.loop-section-init
loop-section-init c = subst (λ (rs : List ℕ). UsedBelow c.args.fixups.now 0 rs) (sym c.new-registers.ensures.items) (used_none c.args.fixups.now)

pub loop-section-preserved : goal.loop-section-preserved
loop-section-preserved c =
    elim c.if-used-section.branch [
      | then-used-section+in_ok-push w ↦ subst (λ (rs : List ℕ). UsedBelow c.args.fixups.now (c.loop-section.section + 1) rs)
          (sym (ap (λ v. v.items) w.registers-is ∙ w.in_ok-push.ensures.items))
          (used_more c.args.fixups.now c.loop-section.section c.loop-section.registers.items c.loop-section.invariant (sym w.if-used-section.true ∙ c.mark_used.ensures.used c.loop-section.section))
      | else-used-section w ↦ subst (λ (rs : List ℕ). UsedBelow c.args.fixups.now (c.loop-section.section + 1) rs)
          (sym (ap (λ v. v.items) w.registers-is))
          (used_passed c.args.fixups.now c.loop-section.section c.loop-section.registers.items c.loop-section.invariant (sym w.if-used-section.false ∙ c.mark_used.ensures.used c.loop-section.section))
    ]

pub returns : goal.returns
returns c = used_all c.args.fixups.now c.loop-section.section c.loop-section.registers.items c.requires c.loop-section-test.false c.loop-section.invariant
