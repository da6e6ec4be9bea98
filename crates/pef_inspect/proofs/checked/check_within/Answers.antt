-- The errors of the parts that were reached, and the note on the others.
use Rattle.std.proofs.Common.{◌∙◌, ◌++◌, ◌∷◌, [], ap, arith}
use Rattle.std.specs.Option.{option_to_list}
use Rattle.pef_words.specs.Findings.{all_among}
use Rattle.pef_inspect.proofs.Taking.{taken-two}
use Rattle.pef_inspect.proofs.Within.{checked-all, checked-part}
use Rattle.pef_inspect.proofs.checked.check_within.Goals as goal

pub returns-then-reached-count : goal.returns-then-reached-count
returns-then-reached-count g c =
    let parts = c.args.parts.now in
    let before = g.S.Findings.taken c.args.sink.now in
    let after = g.S.Findings.taken c.check_each.new.sink in
    let reached = c.within-reached.result.count in
    let part = checked-part (g.C.Costed.cost parts) (g.C.Checked.error parts) (g.C.Checked.unchecked parts) c.args.most c.args.count reached c.within-reached.ensures.value (omega arith) in
    taken-two before after _ (all_among (λ i. option_to_list (g.C.Checked.error parts i)) 0 reached) (g.C.Checked.unchecked parts reached ∷ []) c.in_ok-check_each.ensures (c.in_ok-take.ensures ∙ ap (λ f. after ++ f ∷ []) c.unchecked.ensures)
    ∙ ap (λ xs. before ++ xs) part

pub returns : goal.returns
returns g c =
    let parts = c.args.parts.now in
    let all = checked-all (g.C.Costed.cost parts) (g.C.Checked.error parts) (g.C.Checked.unchecked parts) c.args.most c.args.count c.within-reached.result.count c.within-reached.ensures.value (omega arith) in
    c.in_ok-check_each.ensures ∙ ap (λ xs. g.S.Findings.taken c.args.sink.now ++ xs) all
