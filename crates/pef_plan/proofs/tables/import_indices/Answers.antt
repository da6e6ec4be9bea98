use Rattle.std.proofs.Common.{◌≡◌, ◌+◌, ◌<◌, ◌∷◌, [], List, ℕ, ap, arith, length, length-append, slice_index, subst, sym, take}
use Rattle.pef_reloc.specs.Deliveries.{index_after}
use Rattle.pef_reloc.specs.declared.fixup.Base.TheVariants.{Section}
use Rattle.pef_plan.proofs.FillLemmas.{index-next, indices-more}
use Rattle.pef_plan.proofs.tables.import_indices.Goals as goal

pub loop-at-preserved : goal.loop-at-preserved
loop-at-preserved c =
    let i = c.loop-at.invariant in
    let items = c.in_ok-push.ensures.items in
    let count = i.count in
    record {
      count = (let sum = length-append c.loop-at.indices.items (c.loop-at.index ∷ []) in let same = ap length items in omega (arith, count, sum, same));
      index = index-next c.args.fixups.now c.loop-at.at (record { offset = 0; base = Section 0 }) c.index_later-index.result c.loop-at.index (let under = c.loop-at-test.true in omega (arith, under)) i.index c.index_later-index.ensures;
      at = subst (λ (xs : List ℕ). (j : ℕ) → j < c.loop-at.at + 1 → slice_index xs j ≡ index_after (take j c.args.fixups.now) 0) (sym items)
          (indices-more (λ j v. v ≡ index_after (take j c.args.fixups.now) 0) c.loop-at.indices.items c.loop-at.at c.loop-at.index count i.at i.index);
    }
