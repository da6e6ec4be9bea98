-- Word by word from the last: each becomes the head of its slot.
use Rattle.std.proofs.Common.{◌≡◌, ◌+◌, ◌-◌, subst, ℕ, sym, arith}
use Rattle.pef_hash.specs.Kept.Chains.{IsChainedFrom}
use Rattle.pef_hash.proofs.SlotLists.{chained-more}
use Rattle.pef_hash.proofs.builder.Chains.new.Goals as goal

pub loop-i-preserved : goal.loop-i-preserved
loop-i-preserved c =
    let i : ℕ = c.loop-i.i - 1 in
    let next : i + 1 ≡ c.loop-i.i = omega arith in
    let P : ℕ → Type 0 = λ n. IsChainedFrom n c.args.power c.args.words.now c.loop-i.heads.items c.loop-i.next.items in
    chained-more c.args.power i c.slot-slot.result c.index.result.now c.args.words.now c.loop-i.heads.items c.loop-i.next.items (omega arith) c.slot-slot.ensures.value c.slot-slot.ensures.below c.index.ensures (subst P (sym next) c.loop-i.invariant)
