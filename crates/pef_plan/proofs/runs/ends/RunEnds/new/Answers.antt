use Rattle.std.proofs.Common.{[], ◌*◌, arith}
use Rattle.pef_plan.proofs.RunsProofs.PlaceLemmas.{zeros_at}
use Rattle.pef_plan.specs.Runs.Tables.{place_of}
use Rattle.pef_plan.proofs.runs.ends.RunEnds.new.Goals as goal

pub returns : goal.returns
returns c = record {
  words = c.new.ensures;
  imports = record { rows = []; is = c.new-2.ensures; kept = λ l holds. tt };
  pairs = record { here = record { rows = []; is = c.new-3.ensures.here; kept = λ l holds. tt }; next = record { rows = []; is = c.new-3.ensures.next; kept = λ l holds. tt } };
  far_pairs = record { here = record { rows = []; is = c.new-4.ensures.here; kept = λ l holds. tt }; next = record { rows = []; is = c.new-4.ensures.next; kept = λ l holds. tt } };
  near_len = c.in_ok-near.ensures.len;
  column_len = c.in_ok-column.ensures.len;
  far_len = c.in_ok-far.ensures.len;
  near = λ l holds. tt;
  near_small = λ x y under_x under_y. let zero = zeros_at (c.args.classes * c.args.classes) (place_of c.args.classes x y) _ c.in_ok-near.ensures.are in omega (arith, zero);
  far = λ l holds. tt;
}
