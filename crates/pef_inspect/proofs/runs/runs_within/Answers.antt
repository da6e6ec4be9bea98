-- The programs that are verified are counted among those that can be read.
use Rattle.std.proofs.Common.{◌∙◌, ap}
use Rattle.pef_inspect.specs.Errors.{run_cost}
use Rattle.pef_inspect.specs.Limits.{within}
use Rattle.pef_loader.specs.PartialViews.{partly_loaded}
use Rattle.pef_views.specs.PartialViews.{partly}
use Rattle.pef_inspect.proofs.runs.runs_within.Goals as goal

pub returns-clause-value : goal.returns-clause-value
returns-clause-value c =
    c.within.ensures.value ∙ ap (within (run_cost (partly c.args.container.now) (partly_loaded c.args.loader.now)) c.args.limits.steps 0) c.programs_within-programs.ensures.value
