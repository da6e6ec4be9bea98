-- The head is the first word of the slot, and each link leads to the next one.
use Rattle.std.proofs.Common.{◌<◌, refl, append_assoc, length, arith}
use Rattle.pef_hash.proofs.SlotLists.{head_of, in_slot-head, in_slot-next, keys_at-more, leads_from_head, leads_next, next-high, next_of}
use Rattle.pef_hash.proofs.builder.Chains.follow.Goals as goal

pub loop-at-init : goal.loop-at-init
loop-at-init c =
    let first = head_of _ _ _ _ _ _ c.args.self.now.chained c.requires.within c.index-at.ensures in
    record {
      leads = leads_from_head _ _ _ _ first;
      order = rw (in_slot-head _ _ _ _ first) refl;
      keys = c.requires.keyed;
    }

pub loop-at-smaller : goal.loop-at-smaller
loop-at-smaller c =
    let chained = c.args.self.now.chained in
    let under : c.loop-at.at < length c.args.self.now.words.now = let n = chained.next_len in omega (arith, c.len.ensures) in
    let next = next_of _ _ _ _ _ _ _ chained under c.loop-at.invariant.leads c.index-at-in-loop-at.ensures in
    let more : c.loop-at.at < c.index-at-in-loop-at.result.now = next-high _ _ _ _ _ next in
    omega arith

pub loop-at-preserved : goal.loop-at-preserved
loop-at-preserved c =
    let chained = c.args.self.now.chained in
    let under : c.loop-at.at < length c.args.self.now.words.now = let n = chained.next_len in omega (arith, c.len.ensures) in
    let next = next_of _ _ _ _ _ _ _ chained under c.loop-at.invariant.leads c.index-at-in-loop-at.ensures in
    let left = in_slot-next _ _ _ _ _ under c.loop-at.invariant.leads next in
    record {
      leads = leads_next _ _ _ _ _ next;
      order = rw (c.in_ok-push-2.ensures.items, append_assoc) (rw left at c.loop-at.invariant.order);
      keys = rw (c.in_ok-push.ensures.items, c.in_ok-push-2.ensures.items, keys_at-more, c.loop-at.invariant.keys) refl;
    }
