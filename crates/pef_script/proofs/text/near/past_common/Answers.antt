-- The names differ here, or the other one ends.
use Rattle.std.proofs.Common.{◌≡◌, ◌∙◌, ◌≤◌, [], drop, length, sym, arith}
use Rattle.std.proofs.lemmas.Bool.{ne_eqb}
use Rattle.std.proofs.Math.ListN.{drop_of_length-le}
use Rattle.pef_script.specs.Text.Near.{past_common}
use Rattle.pef_script.proofs.TextProofs.PlaceLemmas.{past_common-end, past_common-stop}
use Rattle.pef_script.proofs.text.near.past_common.Goals.{then-at-other-via-then-at-other, then-at-other-via-else-at-other+then-one-at}
use Rattle.pef_script.proofs.text.near.past_common.Goals as goal

pub returns-then-at-other : goal.returns-then-at-other
returns-then-at-other c =
    let one = c.args.one.now in
    let other = c.args.other.now in
    let i = c.loop-at.at in
    let ends : length other ≤ i → (drop i one, drop i other) ≡ past_common (drop i one) (drop i other) =
    λ (past : length other ≤ i). (let none : drop i other ≡ [] = drop_of_length-le other past in rw none (sym (past_common-end (drop i one)))) in
    let stops = elim c.then-at-other.branch as (λ _. (drop i one, drop i other) ≡ past_common (drop i one) (drop i other)) [
      | then-at-other-via-then-at-other w ↦ ends w.if-at-other.true
      | then-at-other-via-else-at-other+then-one-at w ↦ sym (past_common-stop one other i (omega arith) w.if-at-other.false (ne_eqb _ _ w.if-one-at.true))
    ] in
    rw (c.split_at.ensures.back, c.split_at-then-at-other.ensures.back) (stops ∙ c.loop-at.invariant.same)
