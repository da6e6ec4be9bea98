-- Slots in turn and hashed keys are a regular table, whose slots lead to all exports.
use Rattle.std.proofs.Common.{sym, ◌∙◌, arith}
use Rattle.std.proofs.lemmas.Bool.{ltb-true}
use Rattle.pef_hash.specs.Views.{table_of}
use Rattle.pef_hash.proofs.SearchLemmas.{hashed_leads, turn_regular}
use Rattle.pef_hash.proofs.exports.Exports.is_regular.Goals.{then-self-gt0, else-self-gt0}
use Rattle.pef_hash.proofs.exports.Exports.is_regular.Goals as goal

pub returns-then-has_slots_in_turn-clause-regular : goal.returns-then-has_slots_in_turn-clause-regular
returns-then-has_slots_in_turn-clause-regular c = λ all.
    elim c.if-self-gt0.branch [
      | then-self-gt0 w ↦ turn_regular (table_of c.args.self.now) (w.has_slots_in_turn.ensures.turn (sym w.value-is ∙ c.if-has_slots_in_turn.true)) (c.has_hashed_keys.ensures.hashed all)
      | else-self-gt0 w ↦ absurd (let some = ltb-true 0 c.args.self.now.count (sym w.value-is ∙ c.if-has_slots_in_turn.true) in let none = w.if-self-gt0 in omega arith)
    ]

pub returns-then-has_slots_in_turn-clause-leads : goal.returns-then-has_slots_in_turn-clause-leads
returns-then-has_slots_in_turn-clause-leads c = λ all. hashed_leads (table_of c.args.self.now) (c.has_hashed_keys.ensures.hashed all)

pub returns-then-has_slots_in_turn-clause-found : goal.returns-then-has_slots_in_turn-clause-found
returns-then-has_slots_in_turn-clause-found c = c.has_hashed_keys.ensures.found

pub returns-else-has_slots_in_turn-clause-found : goal.returns-else-has_slots_in_turn-clause-found
returns-else-has_slots_in_turn-clause-found c = λ sought.
    elim c.if-self-gt0.branch [
      | then-self-gt0 w ↦ (let turn = w.has_slots_in_turn.ensures.found sought in let no = sym w.value-is ∙ c.if-has_slots_in_turn.false in absurd (cc))
      | else-self-gt0 w ↦ absurd (let some = sought.some in let none = w.if-self-gt0 in omega arith)
    ]

pub returns-then-has_slots_in_turn-clause-searchable : goal.returns-then-has_slots_in_turn-clause-searchable
returns-then-has_slots_in_turn-clause-searchable c = λ all.
    elim c.if-self-gt0.branch [
      | then-self-gt0 w ↦ record {
        some = (let some = w.if-self-gt0 in omega arith);
        regular = turn_regular (table_of c.args.self.now) (w.has_slots_in_turn.ensures.turn (sym w.value-is ∙ c.if-has_slots_in_turn.true)) (c.has_hashed_keys.ensures.hashed all);
        within = c.has_hashed_keys.ensures.within all;
      }
      | else-self-gt0 w ↦ absurd (let some = ltb-true 0 c.args.self.now.count (sym w.value-is ∙ c.if-has_slots_in_turn.true) in let none = w.if-self-gt0 in omega arith)
    ]
