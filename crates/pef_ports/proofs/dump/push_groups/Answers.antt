-- The groups left, and their length.
use Rattle.std.proofs.Common.{◌≡◌, ◌<◌, ◌++◌, length, take, drop, sym, ap, ◌∙◌, append_assoc, arith, rules}
use Rattle.std.proofs.lemmas.List.{take_min, drop_min, length-drop, append-nil}
use Rattle.pef_ports.proofs.TextLemmas.{group_text-more, group_text-none}
use Rattle.pef_ports.proofs.dump.push_groups.Goals as goal

pub loop-rest-preserved : goal.loop-rest-preserved
loop-rest-preserved c =
    let some : 0 < length c.loop-rest.rest.now = search rules in
    let others : c.split_at.result.1.now ≡ drop 4 c.loop-rest.rest.now = c.split_at.ensures.back ∙ ap (λ n. drop n c.loop-rest.rest.now) c.min.ensures ∙ drop_min 4 c.loop-rest.rest.now in
    let group : c.split_at.result.0.now ≡ take 4 c.loop-rest.rest.now = c.split_at.ensures.front ∙ ap (λ n. take n c.loop-rest.rest.now) c.min.ensures ∙ take_min 4 c.loop-rest.rest.now in
    record {
      text = rw (others, c.push_hex.ensures.text, c.push.ensures.items, group, ← c.loop-rest.invariant.text, group_text-more c.loop-rest.rest.now some) (simp append_assoc);
      room = rw (others, length-drop 4 c.loop-rest.rest.now) (omega (arith, c.push_hex.ensures.len, c.push.ensures.len, c.loop-rest.invariant.room, c.split_at.ensures.front_len, c.min.ensures));
    }

pub returns : goal.returns
returns c =
    let none : length c.loop-rest.rest.now ≡ 0 = search rules in
    record {
      text = sym (append-nil c.loop-rest.line.items) ∙ ap (λ t. c.loop-rest.line.items ++ t) (sym (group_text-none c.loop-rest.rest.now none)) ∙ c.loop-rest.invariant.text;
      len = omega (arith, c.loop-rest.invariant.room);
    }
