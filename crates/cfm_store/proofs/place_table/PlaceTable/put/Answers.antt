-- The value goes to its place.
use Rattle.std.proofs.Common.{◌≡◌, ◌-◌, ◌<◌, ◌∙◌, suc, length, ap, sym, get_or, arith}
use Rattle.std.proofs.lemmas.List.{get_or_default, length_push}
use Rattle.cfm_store.proofs.NumberLemmas.{places, room, sound-added, values-added, values-replaced}
use Rattle.cfm_store.proofs.place_table.PlaceTable.put.Goals as goal

pub overflow_cast-len : goal.overflow_cast-len
overflow_cast-len g c =
    let numbers = c.self.inside.numbers.items in
    let values = c.self.inside.values.items in
    let there = rw (← c.self.view_is) at c.requires in
    let inside : c.args.p < length numbers = let e = places numbers values in omega arith in
    let none : get_or numbers c.args.p 0 ≡ 0 = let e = get_or_default numbers c.args.p 0 c.index.result.now inside ∙ sym c.index.ensures in omega (arith, c.if-number-gt0.false, c.from-number.ensures) in
    let left = room numbers values c.self.invariant c.args.p c.args.value inside none in
    let few = c.self.invariant.few in
    let long = ap length c.in_ok-push.ensures.items ∙ length_push values c.args.value in
    omega (arith, c.len.ensures, c.push.new.self.ok.0)

pub invariant_of-self-2 : goal.invariant_of-self-2
invariant_of-self-2 g c =
    let numbers = c.self.inside.numbers.items in
    let values = c.self.inside.values.items in
    let there = rw (← c.self.view_is) at c.requires in
    let inside : c.args.p < length numbers = let e = places numbers values in omega arith in
    let none : get_or numbers c.args.p 0 ≡ 0 = let e = get_or_default numbers c.args.p 0 c.index.result.now inside ∙ sym c.index.ensures in omega (arith, c.if-number-gt0.false, c.from-number.ensures) in
    let long : c.len.result ≡ suc (length values) = let e = ap length c.in_ok-push.ensures.items ∙ length_push values c.args.value in omega (arith, c.len.ensures, c.push.new.self.ok.0) in
    rw (long, c.in_ok-push.ensures.items) (sound-added numbers values c.self.invariant c.args.p c.args.value inside none)

pub returns-then-number-gt0-clause-ok : goal.returns-then-number-gt0-clause-ok
returns-then-number-gt0-clause-ok g c =
    let numbers = c.self.inside.numbers.items in
    let values = c.self.inside.values.items in
    let there = rw (← c.self.view_is) at c.requires in
    let inside : c.args.p < length numbers = let e = places numbers values in omega arith in
    let is : get_or numbers c.args.p 0 ≡ suc (c.from-number.result - 1) = let e = get_or_default numbers c.args.p 0 c.index.result.now inside ∙ sym c.index.ensures in omega (arith, c.if-number-gt0.true, c.from-number.ensures) in
    rw (← c.self.view_is) (values-replaced numbers values c.self.invariant c.args.p c.args.value (c.from-number.result - 1) is)

pub returns-clause-ok : goal.returns-clause-ok
returns-clause-ok g c =
    let numbers = c.self.inside.numbers.items in
    let values = c.self.inside.values.items in
    let there = rw (← c.self.view_is) at c.requires in
    let inside : c.args.p < length numbers = let e = places numbers values in omega arith in
    let none : get_or numbers c.args.p 0 ≡ 0 = let e = get_or_default numbers c.args.p 0 c.index.result.now inside ∙ sym c.index.ensures in omega (arith, c.if-number-gt0.false, c.from-number.ensures) in
    let long : c.len.result ≡ suc (length values) = let e = ap length c.in_ok-push.ensures.items ∙ length_push values c.args.value in omega (arith, c.len.ensures, c.push.new.self.ok.0) in
    rw (long, c.in_ok-push.ensures.items, ← c.self.view_is) (values-added numbers values c.self.invariant c.args.p c.args.value inside none)
