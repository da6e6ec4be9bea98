use Rattle.std.proofs.Common.{◌≡◌, ◌+◌, ◌*◌, ◌<◌, ◌∙◌, ℕ, ap, arith, inl, inr, length, min, slice_index, subst, sym}
use Rattle.std.proofs.lemmas.Bool.Decides.{eqb_tells}
use Rattle.std.proofs.lemmas.Nat.{mul-add-lt}
use Rattle.pef_plan.specs.Runs.Tables.{place_of}
use Rattle.pef_plan.proofs.CrossLemmas.{LineLowered, closed-cross}
use Rattle.pef_plan.proofs.RunsProofs.PlaceLemmas.{line_inside, place_under}
use Rattle.pef_plan.proofs.rows.lower_lines.Goals as goal

pub top_of_line-top-requires-clause-number : goal.top_of_line-top-requires-clause-number
top_of_line-top-requires-clause-number c =
    let a = c.args in
    let n : ℕ = length a.tops.now in
    let place : ℕ = c.lines.c * n + a.cross.class in
    let before : slice_index c.lines.row place ≡ slice_index a.row.now place = c.lines.invariant.others place (omega arith) in
    let inside = place_under n c.lines.c a.cross.class c.lines-test.true c.requires.class in
    let row = c.requires.row in
    let small = c.requires.small place (omega (arith, inside, row)) in
    omega (arith, before, small)

pub lower_line-requires : goal.lower_line-requires
lower_line-requires c =
    let under = c.lines-test.true in
    let low = line_inside (length c.args.tops.now) c.lines.c under in
    let len = c.lines.invariant.len in
    let row = c.requires.row in
    omega (arith, low, len, row)

pub lines-preserved : goal.lines-preserved
lines-preserved c =
    let a = c.args in
    let i = c.lines.invariant in
    let n : ℕ = length a.tops.now in
    let line = c.lines.c in
    let new = c.lower_line.new.row in
    let e = c.lower_line.ensures in
    let here : LineLowered n a.row.now a.tops.now new a.cross line = record {
      top = c.top_of_line-top.result;
      top_is = record {
        class = c.top_of_line-top.ensures.class;
        other = λ away. c.top_of_line-top.ensures.other away ∙ ap (λ x. x + 1) (i.others (place_of n line a.cross.class) (omega arith));
      };
      numbers = λ d under. e.line d under ∙ ap (λ x. min (min x (slice_index a.tops.now d)) c.top_of_line-top.result) (i.others (place_of n line d) (omega arith));
    } in
    record {
      len = e.len ∙ i.len;
      are = λ x low. elim (eqb_tells x line) [
        | inl same ↦ subst (λ (y : ℕ). LineLowered n a.row.now a.tops.now new a.cross y) (sym same.1) here
        | inr other ↦
            (let apart = other.1 in
            let before : x < line = omega (arith, low, apart) in
            let old = i.are x before in
            record {
              top = old.top;
              top_is = old.top_is;
              numbers = λ d under. e.others (place_of n x d) (inl (let below = mul-add-lt x n d line before under in omega (arith, below))) ∙ old.numbers d under;
            })
      ];
      others = λ x high. e.others x (inr (omega (arith, high))) ∙ i.others x (omega (arith, high));
    }

pub returns-clause-closed : goal.returns-clause-closed
returns-clause-closed c =
    let r = c.requires in
    closed-cross (length c.args.tops.now) c.args.row.now c.args.tops.now c.lines.row c.args.cross r.class r.steps r.line r.column r.tops
    (λ x under. c.lines.invariant.are x (let past = c.lines-test.false in omega (arith, under, past)))
