-- There are no more keys than words before a slot, so the numbers fit.
use Rattle.std.proofs.Common.{◌≡◌, ◌≤◌, ◌<◌, ◌-◌, ◌^◌, length, refl, sym, arith}
use Rattle.pef_hash.specs.Build.{in_slot}
use Rattle.pef_hash.proofs.Slots.{power_below}
use Rattle.pef_hash.proofs.SlotLists.{HasGrown, has_grown, keys_at-none, laid_out, length-before, slot_words-next}
use Rattle.pef_hash.proofs.builder.lay_out.Goals as goal

pub loop-slot-init : goal.loop-slot-init
loop-slot-init c =
    let all : 2 ^ c.args.power - 0 ≡ 2 ^ c.args.power = omega arith in
    record {
      order = rw (c.in_ok-order.ensures.items, all) refl;
      slots = rw (c.in_ok-order.ensures.items, c.in_ok-slots.ensures.items, all) refl;
      keys = rw (c.in_ok-order.ensures.items, c.in_ok-keys.ensures.items) (sym (keys_at-none _));
    }

pub overflow_cast-first : goal.overflow_cast-first
overflow_cast-first c =
    let before : length c.loop-slot.order.items ≤ length c.args.words.now = length-before c.args.power c.loop-slot.slot _ _ c.loop-slot.invariant.order in
    omega (arith, c.len-first.ensures)

pub overflow_cast-count : goal.overflow_cast-count
overflow_cast-count c =
    let under : c.loop-slot.slot < 2 ^ c.args.power = rw (power_below c.args.power (omega arith)) at c.loop-slot-test.true in
    let order = rw (c.in_ok-chains.ensures.power, c.in_ok-chains.ensures.words) at c.in_ok-follow.ensures.order in
    let grown : HasGrown c.args.power c.loop-slot.slot c.args.words.now c.loop-slot.order.items c.follow.new.order.items = has_grown _ _ _ _ _ under c.loop-slot.invariant.order order in
    omega (arith, c.len.ensures, grown.within)

pub overflow_mul-count : goal.overflow_mul-count
overflow_mul-count c =
    let under : c.loop-slot.slot < 2 ^ c.args.power = rw (power_below c.args.power (omega arith)) at c.loop-slot-test.true in
    let order = rw (c.in_ok-chains.ensures.power, c.in_ok-chains.ensures.words) at c.in_ok-follow.ensures.order in
    let grown : HasGrown c.args.power c.loop-slot.slot c.args.words.now c.loop-slot.order.items c.follow.new.order.items = has_grown _ _ _ _ _ under c.loop-slot.invariant.order order in
    omega (arith, c.len.ensures, grown.within)

pub overflow_add-count : goal.overflow_add-count
overflow_add-count c =
    let under : c.loop-slot.slot < 2 ^ c.args.power = rw (power_below c.args.power (omega arith)) at c.loop-slot-test.true in
    let order = rw (c.in_ok-chains.ensures.power, c.in_ok-chains.ensures.words) at c.in_ok-follow.ensures.order in
    let grown : HasGrown c.args.power c.loop-slot.slot c.args.words.now c.loop-slot.order.items c.follow.new.order.items = has_grown _ _ _ _ _ under c.loop-slot.invariant.order order in
    omega (arith, c.len.ensures, c.len-first.ensures, grown.within, grown.more)

pub loop-slot-preserved : goal.loop-slot-preserved
loop-slot-preserved c =
    let under : c.loop-slot.slot < 2 ^ c.args.power = rw (power_below c.args.power (omega arith)) at c.loop-slot-test.true in
    let order = rw (c.in_ok-chains.ensures.power, c.in_ok-chains.ensures.words) at c.in_ok-follow.ensures.order in
    let grown : HasGrown c.args.power c.loop-slot.slot c.args.words.now c.loop-slot.order.items c.follow.new.order.items = has_grown _ _ _ _ _ under c.loop-slot.invariant.order order in
    let first : c.len-first.result ≡ length c.loop-slot.order.items = omega (arith, c.len-first.ensures) in
    let count : c.len.result - c.len-first.result ≡ length (in_slot c.args.power c.loop-slot.slot 0 c.args.words.now) = omega (arith, c.len.ensures, grown.more) in
    record {
      order = grown.left;
      slots = rw (c.in_ok-push.ensures.items, count, first, grown.more) (slot_words-next c.args.power c.loop-slot.slot (2 ^ c.args.power) _ _ _ _ under c.loop-slot.invariant.slots);
      keys = rw (c.in_ok-chains.ensures.words) at c.in_ok-follow.ensures.keys;
    }

pub returns : goal.returns
returns c =
    let past : 2 ^ c.args.power ≤ c.loop-slot.slot = rw (power_below c.args.power (omega arith)) at c.loop-slot-test.false in
    laid_out c.args.power c.loop-slot.slot _ _ _ _ past c.loop-slot.invariant.slots c.loop-slot.invariant.keys c.loop-slot.invariant.order
