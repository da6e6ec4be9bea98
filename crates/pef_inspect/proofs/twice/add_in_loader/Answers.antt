-- The notes on the programs that were searched, and that on the others.
use Rattle.std.proofs.Common.{◌∙◌, ◌++◌, ◌∷◌, [], ap, arith}
use Rattle.std.specs.Option.{option_to_list}
use Rattle.pef_words.specs.Findings.{all_among}
use Rattle.pef_views.specs.PartialViews.{partly}
use Rattle.pef_loader.specs.PartialViews.{partly_loaded}
use Rattle.pef_inspect.specs.Errors.{programs_unverified}
use Rattle.pef_inspect.specs.Limits.{checked_within}
use Rattle.pef_inspect.specs.Twice.{twice_note, words_cost}
use Rattle.pef_inspect.proofs.Taking.{taken-two}
use Rattle.pef_inspect.proofs.Within.{checked-all, checked-part}
use Rattle.pef_inspect.proofs.twice.add_in_loader.Goals as goal

pub returns-then-searched-runs : goal.returns-then-searched-runs
returns-then-searched-runs g c =
    let p = partly c.args.container.now in
    let l = partly_loaded c.args.loader.now in
    let before = c.args.found.now.items in
    let after = c.add_each.new.found.items in
    let reached = c.words_within-searched.result.count in
    let runs = c.runs_within-runs.result.count in
    let part = checked-part (words_cost p l) (twice_note p l) (programs_unverified p) c.args.limits.words runs reached c.words_within-searched.ensures.value (omega arith) in
    taken-two before after _ (all_among (λ k. option_to_list (twice_note p l k)) 0 reached) (programs_unverified p reached ∷ []) c.in_ok-add_each.ensures (c.in_ok-push.ensures.items ∙ ap (λ f. after ++ f ∷ []) c.programs_unverified.ensures)
    ∙ ap (λ xs. before ++ xs) (part ∙ ap (checked_within (words_cost p l) (twice_note p l) (programs_unverified p) c.args.limits.words) c.runs_within-runs.ensures.value)

pub returns : goal.returns
returns g c =
    let p = partly c.args.container.now in
    let l = partly_loaded c.args.loader.now in
    let all = checked-all (words_cost p l) (twice_note p l) (programs_unverified p) c.args.limits.words c.runs_within-runs.result.count c.words_within-searched.result.count c.words_within-searched.ensures.value (omega arith) in
    c.in_ok-add_each.ensures
    ∙ ap (λ xs. c.args.found.now.items ++ xs) (all ∙ ap (checked_within (words_cost p l) (twice_note p l) (programs_unverified p) c.args.limits.words) c.runs_within-runs.ensures.value)
