-- The ranges that end up to the address come first.
use Rattle.std.proofs.Common.{leb, rules}
use Rattle.std.proofs.lemmas.List.Sorted.{IsPartitionPoint-from_clause, IsPartitionedBy-leb}
use Rattle.cfm_memory.specs.declared.place.Reserved.{Reserved}
use Rattle.cfm_memory.proofs.Remembered.{passed_within}
use Rattle.cfm_memory.proofs.Reserving.{ends_rise}
use Rattle.cfm_memory.proofs.memory.passed_by.Goals as goal

pub returns-clause-passed : goal.returns-clause-passed
returns-clause-passed c =
    let rs = c.args.ranges.now in
    let parted = IsPartitionedBy-leb (λ (r : Reserved). r.to) rs c.args.address (ends_rise 0 rs c.requires) in
    let point = IsPartitionPoint-from_clause (λ (r : Reserved). leb r.to c.args.address) rs c.partition_point.result c.partition_point.ensures.partitioned parted (λ a r f k. search rules) in
    passed_within c.args.address rs c.partition_point.result point.0
