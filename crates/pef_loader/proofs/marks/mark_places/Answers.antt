-- At first no place is marked. Then each one is, from the last one on.
use Rattle.std.proofs.Common.{◌≡◌, ◌∙◌, ◌+◌, ◌-◌, ◌*◌, ◌^◌, ◌<◌, None, ap, arith, length, subst}
use Rattle.std.specs.Prelude.{suc}
use Rattle.std.proofs.Math.Nat.{suc-mul}
use Rattle.std.proofs.lemmas.List.{length-replicate, length-set}
use Rattle.std.specs.Option.{IfNone}
use Rattle.pef_loader.specs.Kept.Marks.{AreNonzero}
use Rattle.pef_loader.proofs.MarkLemmas.{all-marked, marks-set, none-marked, nonzero-on}
use Rattle.pef_loader.proofs.marks.mark_places.Goals as goal

pub loop-k-init : goal.loop-k-init
loop-k-init c = record {
  len = length-replicate 64 (2 ^ 32 - 1);
  marked = none-marked c.args.cut.bytes.now c.args.step 64;
  next = tt;
  gone = λ _ k low high inside zero. absurd (omega (arith, low, high));
  all = λ j at low high _ _ _. absurd (omega (arith, low, high));
}

pub loop-k-preserved : goal.loop-k-preserved
loop-k-preserved c =
    let bytes = c.args.cut.bytes.now in
    let step = c.args.step in
    let k = c.loop-k.k - 1 in
    let back : c.loop-k.k ≡ suc k = omega (arith, c.loop-k-test.true) in
    let steps : c.loop-k.k * step ≡ k * step + step = ap (λ n. n * step) back ∙ suc-mul k step in
    let gone : c.zero_from-next.result ≡ None → AreNonzero bytes (k * step) (64 * step) = λ is. (
    let none = subst (λ r. IfNone r ((c.loop-k.next ≡ None) × AreNonzero bytes (k * step) (k * step + step))) is c.zero_from-next.ensures.none in
    nonzero-on bytes (k * step) (k * step + step) (64 * step) none.1 (subst (λ n. AreNonzero bytes n (64 * step)) steps (c.loop-k.invariant.gone none.0))) in
    let inside : k < length c.loop-k.marks = omega (arith, c.loop-k-test.true, c.loop-k.auto.k, c.loop-k.invariant.len) in
    record {
      len = length-set c.loop-k.marks k c.mark_of.result ∙ c.loop-k.invariant.len;
      marked = marks-set bytes step k c.mark_of.result c.loop-k.marks c.zero_from-next.result c.loop-k.invariant.marked c.zero_from-next.ensures.first c.mark_of.ensures.known inside;
      next = c.zero_from-next.ensures.first;
      gone = gone;
      all = all-marked bytes step k c.mark_of.result c.loop-k.marks c.zero_from-next.result c.zero_from-next.ensures.first gone c.mark_of.ensures.kept inside
          (λ j at low. c.loop-k.invariant.all j at (omega (arith, low, back)));
    }
