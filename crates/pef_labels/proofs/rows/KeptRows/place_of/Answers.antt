use Rattle.std.proofs.Common.{rules, arith, leb, leb-true, leb-false}
use Rattle.std.proofs.lemmas.List.Sorted.{IsPartitionPoint-from_clause, IsPartitionedBy-leb}
use Rattle.pef_labels.proofs.RowLemmas.{placed, rising-sorted}
use Rattle.pef_labels.proofs.rows.KeptRows.place_of.Goals as goal

pub returns : goal.returns
returns c =
    let s = c.args.self in
    let ends = s.ends.now in
    let index = c.args.index in
    let parted = IsPartitionedBy-leb (λ x. x) ends index (rising-sorted 0 ends c.requires.full.rising) in
    let point = IsPartitionPoint-from_clause (λ x. leb x index) _ _ c.partition_point.ensures.partitioned parted (λ a r q k. search rules) in
    placed s.width ends s.values.now index c.partition_point.result c.requires.full c.requires.inside c.partition_point.ensures.bound
    (λ k under below. leb-true _ _ (point.0 k 0 (omega arith) below))
    (λ k under past. leb-false _ _ (point.1 k 0 past under))
