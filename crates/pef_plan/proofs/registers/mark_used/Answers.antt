use Rattle.std.proofs.Common.{◌≡◌, ◌||◌, ◌+◌, ◌<◌, ◌∙◌, ◌∷◌, List, ap, arith, drop, false, length, refl, subst, suc, true, ℕ}
use Rattle.std.specs.List.{AllByRecursion}
use Rattle.std.specs.Prelude.{slice_index_or}
use Rattle.std.proofs.Math.Seq.{drop-cons}
use Rattle.pef_reloc.specs.Deliveries.{uses_section}
use Rattle.pef_reloc.specs.Fixups.{fixup_fits}
use Rattle.pef_reloc.specs.declared.fixup.Base.TheVariants.{Section}
use Rattle.pef_reloc.specs.declared.fixup.Fixup.{Fixup}
use Rattle.pef_reloc.proofs.Laws.{each_fits, fixup_fits-parts}
use Rattle.pef_plan.proofs.RegisterLemmas.{marked-more}
use Rattle.pef_plan.proofs.registers.mark_used.Goals as goal

pub loop-fixup-init : goal.loop-fixup-init
loop-fixup-init c = record {
  len = refl;
  fit = each_fits c.args.fixups.now c.requires.fit;
  used = λ k. ap (λ b. b || uses_section c.args.fixups.now k) (c.requires.none k);
}

-- the fixups left begin with the next one
begin_with : (fixups : List Fixup) (at : ℕ) (d : Fixup) → at < length fixups → drop at fixups ≡ slice_index_or fixups at d ∷ drop (at + 1) fixups
begin_with fixups at d under =
    let next : suc at ≡ at + 1 = omega arith in
    drop-cons fixups at d under ∙ ap (λ n. slice_index_or fixups at d ∷ drop n fixups) next

pub mark-requires-clause-fits : goal.mark-requires-clause-fits
mark-requires-clause-fits c =
    let fixups = c.args.fixups.now in
    let at = c.loop-fixup.fixup-index in
    let parts = begin_with fixups at (record { offset = 0; base = Section 0 }) c.loop-fixup-test.true in
    (fixup_fits-parts (slice_index_or fixups at (record { offset = 0; base = Section 0 })) (subst (λ (fs : List Fixup). AllByRecursion (λ f. fixup_fits f ≡ true) fs) parts c.loop-fixup.invariant.fit).0).base

pub loop-fixup-preserved : goal.loop-fixup-preserved
loop-fixup-preserved c =
    let fixups = c.args.fixups.now in
    let i = c.loop-fixup.invariant in
    let at = c.loop-fixup.fixup-index in
    let first : Fixup = slice_index_or fixups at (record { offset = 0; base = Section 0 }) in
    let parts = begin_with fixups at (record { offset = 0; base = Section 0 }) c.loop-fixup-test.true in
    record {
      len = c.mark.ensures.len ∙ i.len;
      fit = (subst (λ (fs : List Fixup). AllByRecursion (λ f. fixup_fits f ≡ true) fs) parts i.fit).1;
      used = λ k. marked-more c.loop-fixup.used c.mark.new.used first.base (drop (at + 1) fixups) (uses_section fixups k) k (c.mark.ensures.used k)
          (subst (λ (fs : List Fixup). (slice_index_or c.loop-fixup.used k false || uses_section fs k) ≡ uses_section fixups k) parts (i.used k));
    }
