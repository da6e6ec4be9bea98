-- What the sort gives by the place of each finding's row.
use Rattle.std.proofs.Common.{rules}
use Rattle.std.proofs.lemmas.List.Sorted.{IsNonDecreasingBy-from_sort_by_key, answers_always}
use Rattle.pef_report.specs.Order.{finding_rank}
use Rattle.pef_report.proofs.inspection.put_in_order.Goals as goal

pub returns : goal.returns
returns g c = record {
  permutation = c.sort_by_key.ensures.permutation;
  rises = IsNonDecreasingBy-from_sort_by_key finding_rank _ c.in_ok-sort_by_key.ensures.sorted (λ a r q k. search rules);
  stable = c.sort_by_key.ensures.stable finding_rank (answers_always _ _ _ (λ f a r g h. search rules));
}
