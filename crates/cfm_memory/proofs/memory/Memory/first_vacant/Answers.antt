-- The ranges that end up to the address are passed.
use Rattle.std.proofs.Common.{◌≡◌, List, take, drop, sym, ap, subst, ◌∙◌}
use Rattle.cfm_memory.specs.Instances.{Layout}
use Rattle.cfm_memory.specs.Kept.Searches.{AllPassed, IsFirstVacant}
use Rattle.cfm_memory.specs.Placement.{AreClear, AreInTurn}
use Rattle.cfm_memory.specs.declared.place.Reserved.{Reserved}
use Rattle.cfm_memory.proofs.Entries.{instances}
use Rattle.cfm_memory.proofs.Remembered.{are_clear_drop, in_turn_drop, vacant_join}
use Rattle.cfm_memory.proofs.memory.Memory.first_vacant.Goals as goal

pub vacant_among-requires-clause-in_turn : goal.vacant_among-requires-clause-in_turn
vacant_among-requires-clause-in_turn c =
    let is : c.split_at.result.1.now ≡ drop c.passed_by-passed.result c.self.inside.reserved.items = c.split_at.ensures.back ∙ ap (drop c.passed_by-passed.result) c.deref-2.ensures.value in
    subst (AreInTurn 0) (sym is) (in_turn_drop 0 c.passed_by-passed.result c.self.inside.reserved.items c.self.invariant.in_turn)

pub vacant_among-requires-clause-clear : goal.vacant_among-requires-clause-clear
vacant_among-requires-clause-clear c =
    let is : c.split_at.result.1.now ≡ drop c.passed_by-passed.result c.self.inside.reserved.items = c.split_at.ensures.back ∙ ap (drop c.passed_by-passed.result) c.deref-2.ensures.value in
    let xs = instances c.self.inside.instances.entries in
    let clear = are_clear_drop c.self.inside.granule.bytes xs c.passed_by-passed.result c.self.inside.reserved.items c.self.invariant.clear in
    rw (← c.self.view_is) (subst (AreClear c.self.inside.granule.bytes xs) (sym is) clear)

pub returns-clause-first : goal.returns-clause-first
returns-clause-first c =
    let m = c.args.self.now in
    let k = c.passed_by-passed.result in
    let whole : c.self.inside.reserved.items ≡ m.reserved = ap (λ (n : Layout). n.reserved) c.self.view_is in
    let passed = subst (λ (rs : List Reserved). AllPassed c.args.from (take k rs)) (c.deref.ensures.value ∙ whole) c.passed_by-passed.ensures.passed in
    let is : c.split_at.result.1.now ≡ drop k m.reserved = c.split_at.ensures.back ∙ ap (drop k) (c.deref-2.ensures.value ∙ whole) in
    let first = subst (λ (rs : List Reserved). IsFirstVacant m.granule c.args.taken c.args.step c.args.from m.instances rs c.vacant_among.result) is c.vacant_among.ensures.first in
    vacant_join m.granule c.args.taken c.args.step c.args.from c.vacant_among.result k m.instances m.reserved c.requires.from.0 passed c.requires.barren first
