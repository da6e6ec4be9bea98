-- The numbers before the place that is found, and those after it.
use Rattle.std.proofs.Common.{◌≡◌, ◌+◌, ◌<◌, ◌++◌, ◌∷◌, length, take, drop, get_or, arith, sym, ap, ◌∙◌}
use Rattle.std.proofs.lemmas.List.{at_drop_more, get_or_default, take-append-drop}
use Rattle.cfm_prepare.proofs.slots.take_out.Goals as goal

pub returns-then-index-position : goal.returns-then-index-position
returns-then-index-position c =
    let xs = c.args.order.now.items in
    let i = c.loop-i.i in
    let p = c.args.position in
    let old : c.loop-i.order.items ≡ xs = c.loop-i.invariant.same in
    let under : i < length xs = omega (arith, c.loop-i-test.true, c.len-i-end.ensures, c.args.order.now.ok.0) in
    let here : get_or xs i 0 ≡ p = get_or_default xs i 0 c.index.result.now under ∙ ap (λ ys. get_or ys i c.index.result.now) (sym old) ∙ sym c.index.ensures ∙ c.if-index-position.true in
    record {
      front = take i xs;
      back = drop (i + 1) xs;
      was = sym (take-append-drop i xs) ∙ at_drop_more (λ ys. take i xs ++ ys) xs i 0 under ∙ ap (λ q. take i xs ++ q ∷ drop (i + 1) xs) here;
      is = c.remove.ensures.by_index.2 ∙ ap (λ ys. take i ys ++ drop (i + 1) ys) old;
    }
