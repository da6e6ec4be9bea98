use Rattle.std.proofs.Common.{[]}
use Rattle.pef_plan.proofs.runs.ends.WordWindows.new.Goals as goal

pub returns : goal.returns
returns c = record {
  in_c = record { rows = []; is = c.new.ensures; kept = λ l holds. tt };
  in_d = record { rows = []; is = c.new-2.ensures; kept = λ l holds. tt };
  skips = record { rows = []; is = c.new-3.ensures; kept = λ l holds. tt };
  spaced = record { rows = []; is = c.new-4.ensures; kept = λ l holds. tt };
}
