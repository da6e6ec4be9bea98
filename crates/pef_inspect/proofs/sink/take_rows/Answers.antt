-- The findings of a row are taken, and those of the rows after it are left.
use Rattle.std.proofs.Common.{◌<◌, ◌∙◌, ◌++◌, ap, arith}
use Rattle.pef_words.proofs.Laws.Findings.{all_among-next, taken-more}
use Rattle.pef_inspect.proofs.sink.take_rows.Goals as goal

pub loop-i-preserved : goal.loop-i-preserved
loop-i-preserved g c =
    let found = g.R.Rows.found c.args.rows.now in
    let under : c.loop-i.i < c.args.count = omega arith in
    record {
      same = c.in_ok-take_row.ensures.same ∙ c.loop-i.invariant.same;
      taken = taken-more (g.S.Findings.taken c.loop-i.sink) (found c.loop-i.i) _ _ _
          (c.in_ok-take_row.ensures.taken ∙ ap (λ f. g.S.Findings.taken c.loop-i.sink ++ f c.loop-i.i) c.loop-i.invariant.same)
          (rw (all_among-next found c.loop-i.i c.args.count under) at c.loop-i.invariant.taken);
    }
