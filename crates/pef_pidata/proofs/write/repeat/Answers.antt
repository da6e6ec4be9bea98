-- A copy after the bytes written so far is whole blocks, too.
use Rattle.std.proofs.Common.{◌≡◌, ℕ, ◌+◌, ◌-◌, List, ◌++◌, length, take, drop, min, sym, ap, ◌∙◌, arith}
use Rattle.std.proofs.lemmas.List.{length-append, take-append-drop, length-take-le, length-drop}
use Rattle.pef_pidata.proofs.Repeats.{next_whole, piece_written, all_written}
use Rattle.pef_pidata.proofs.write.repeat.Goals as goal

length-take-drop : (n : ℕ) (xs : List ℕ) → length (take n xs) + length (drop n xs) ≡ length xs
length-take-drop n xs = sym (length-append (take n xs) (drop n xs)) ∙ ap length (take-append-drop n xs)

pub loop-done-preserved : goal.loop-done-preserved
loop-done-preserved c =
    let len = c.loop-done.invariant.len in
    let target = c.loop-done.target in
    let done = c.loop-done.done in
    let front = c.split_at_mut-front.result.0.now in
    let back = c.split_at_mut-front.result.1.now in
    let copied = c.copy_from_slice-in-loop-done.new.self in
    let more = c.min-more.result in
    let same : length (front ++ (copied ++ drop more back)) ≡ length target =
    omega (arith, length-append front (copied ++ drop more back), length-append copied (drop more back), length-take-drop more back) in
    let front_len : length front ≡ done = ap length c.split_at_mut-front.ensures.front ∙ length-take-le done target (omega arith) in
    let back_len : length back ≡ length target - done = ap length c.split_at_mut-front.ensures.back ∙ length-drop done target in
    let more_is : more ≡ min done (length target - done) = omega (arith, c.min-more.ensures, front_len, back_len) in
    let whole = next_whole c.args.block.now target done (c.args.repeats + 1) more c.loop-done.invariant.begun len c.loop-done-test.true more_is in
    let begun = piece_written c.args.block.now target front copied (drop more back) done more (c.args.repeats + 1)
    c.loop-done.invariant.begun whole (omega arith) c.loop-done-test.true len c.split_at_mut-front.ensures.front c.copy_from_slice-in-loop-done.ensures.after in
    record {
      begun = begun;
      least = omega arith;
      inside = omega (arith, same);
      len = same ∙ len;
    }

pub returns : goal.returns
returns c = all_written c.args.block.now c.loop-done.target c.loop-done.done (c.args.repeats + 1) c.loop-done.invariant.begun c.loop-done.invariant.len (omega arith)
