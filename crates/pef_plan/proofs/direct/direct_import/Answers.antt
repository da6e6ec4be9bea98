use Rattle.std.proofs.Common.{◌∙◌, refl}
use Rattle.pef_plan.proofs.SiftLemmas.{import_alone, import_run}
use Rattle.pef_plan.proofs.direct.direct_import.Goals as goal

pub returns-then-from-here-clause-first : goal.returns-then-from-here-clause-first
returns-then-from-here-clause-first c =
    let a = c.args in
    let one = c.single_import-choice in
    import_alone a.known a.here a.import a.label one.result c.requires.here c.requires.base (λ e. c.if-from-here.true (c.from.ensures ∙ e)) one.ensures.chosen one.ensures.instr

pub returns-clause-first : goal.returns-clause-first
returns-clause-first c =
    let a = c.args in
    let one = c.single_import-choice in
    let run = c.best_of_run.ensures in
    import_run a.known a.here a.import a.label one.result c.best_of_run.result (tt, refl) one.ensures.chosen one.ensures.instr run.chosen run.found run.better run.ends
