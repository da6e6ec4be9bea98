-- The slots before the place have lower numbers, and those from it on don't.
use Rattle.std.proofs.Common.{ltb, None, ap, ◌∙◌, arith, rules}
use Rattle.std.proofs.lemmas.List.Sorted.{IsPartitionPoint-from_clause, IsPartitionedBy-ltb}
use Rattle.cfm_prepare.specs.declared.connections.Slot.{Slot}
use Rattle.cfm_prepare.proofs.ConnectionLemmas.{no-rank, rising}
use Rattle.cfm_prepare.proofs.connections.rank_of.Goals as goal

pub returns-in_err-slot-clause-none : goal.returns-in_err-slot-clause-none
returns-in_err-slot-clause-none c =
    let slots = c.args.slots.now in
    let parted = IsPartitionedBy-ltb (λ (s : Slot). s.number) slots c.args.number (rising slots c.requires.0 c.requires.1) in
    let point = IsPartitionPoint-from_clause (λ (s : Slot). ltb s.number c.args.number) _ _ c.partition_point-rank.ensures.partitioned parted (λ a r q k. search rules) in
    let none = no-rank slots c.requires.0 c.args.number c.partition_point-rank.result c.requires.1 point (λ under. absurd (omega (arith, under, c.in_err-slot.ensures.lookup.3))) in
    rw c.from_residual.ensures none.0

pub returns-in_err-slot-clause-left : goal.returns-in_err-slot-clause-left
returns-in_err-slot-clause-left c =
    let slots = c.args.slots.now in
    let parted = IsPartitionedBy-ltb (λ (s : Slot). s.number) slots c.args.number (rising slots c.requires.0 c.requires.1) in
    let point = IsPartitionPoint-from_clause (λ (s : Slot). ltb s.number c.args.number) _ _ c.partition_point-rank.ensures.partitioned parted (λ a r q k. search rules) in
    let none = no-rank slots c.requires.0 c.args.number c.partition_point-rank.result c.requires.1 point (λ under. absurd (omega (arith, under, c.in_err-slot.ensures.lookup.3))) in
    rw c.from_residual.ensures none.1

pub returns-then-slot-number-clause-none : goal.returns-then-slot-number-clause-none
returns-then-slot-number-clause-none c =
    let slots = c.args.slots.now in
    let parted = IsPartitionedBy-ltb (λ (s : Slot). s.number) slots c.args.number (rising slots c.requires.0 c.requires.1) in
    let point = IsPartitionPoint-from_clause (λ (s : Slot). ltb s.number c.args.number) _ _ c.partition_point-rank.ensures.partitioned parted (λ a r q k. search rules) in
    let none = no-rank slots c.requires.0 c.args.number c.partition_point-rank.result c.requires.1 point (λ under same. c.if-slot-number.true (ap (λ (s : Slot). s.number) (c.in_ok-slot.ensures.lookup.4 (omega arith) (record { number = 0; connected = None })) ∙ same)) in
    none.0

pub returns-then-slot-number-clause-left : goal.returns-then-slot-number-clause-left
returns-then-slot-number-clause-left c =
    let slots = c.args.slots.now in
    let parted = IsPartitionedBy-ltb (λ (s : Slot). s.number) slots c.args.number (rising slots c.requires.0 c.requires.1) in
    let point = IsPartitionPoint-from_clause (λ (s : Slot). ltb s.number c.args.number) _ _ c.partition_point-rank.ensures.partitioned parted (λ a r q k. search rules) in
    let none = no-rank slots c.requires.0 c.args.number c.partition_point-rank.result c.requires.1 point (λ under same. c.if-slot-number.true (ap (λ (s : Slot). s.number) (c.in_ok-slot.ensures.lookup.4 (omega arith) (record { number = 0; connected = None })) ∙ same)) in
    none.1
