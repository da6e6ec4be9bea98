-- The error of a part is taken, and those of the parts after it are left.
use Rattle.std.proofs.Common.{ℕ, List, ◌<◌, ◌∙◌, ◌++◌, ap, arith}
use Rattle.std.specs.Option.{option_to_list}
use Rattle.pef_words.proofs.Laws.Findings.{all_among-next, taken-more}
use Rattle.pef_inspect.specs.declared.finding.Finding.{Finding}
use Rattle.pef_inspect.proofs.checked.check_each.Goals as goal

pub loop-i-preserved : goal.loop-i-preserved
loop-i-preserved g c =
    let found : ℕ → List Finding = λ i. option_to_list (g.C.Checked.error c.args.parts.now i) in
    let under : c.loop-i.i < c.args.count = omega arith in
    taken-more (g.S.Findings.taken c.loop-i.sink) (found c.loop-i.i) _ _ _
    (c.in_ok-take_some.ensures ∙ ap (λ f. g.S.Findings.taken c.loop-i.sink ++ option_to_list f) c.error.ensures)
    (rw (all_among-next found c.loop-i.i c.args.count under) at c.loop-i.invariant)
