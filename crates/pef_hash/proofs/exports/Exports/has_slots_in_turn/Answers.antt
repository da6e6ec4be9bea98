-- A slot that counts exports begins after those of the slots before it.
use Rattle.std.proofs.Common.{◌≡◌, ℕ, ◌+◌, ◌<◌, ◌^◌, Some, sym, subst, ◌∙◌, arith}
use Rattle.pef_hash.specs.Exports.{slot_count, slot_first, slot_word_of}
use Rattle.pef_hash.specs.Views.{table_of}
use Rattle.pef_hash.specs.Kept.Searches.{AreInTurnTo, IsEndOf}
use Rattle.pef_hash.proofs.FoundLemmas.{begins_after, end_kept, end_moved, ends_inside, slot_there}
use Rattle.pef_hash.proofs.SearchLemmas.{turn_all, turn_empty, turn_more}
use Rattle.pef_hash.proofs.Tables.{words_small}
use Rattle.pef_hash.proofs.exports.Exports.has_slots_in_turn.Goals.{then-places+else-places-end+else-places-self, else-places, then-places-end-via-then-places-end, then-places-end-via-else-places-end+then-places-self}
use Rattle.pef_hash.proofs.exports.Exports.has_slots_in_turn.Goals as goal

pub loop-s-preserved : goal.loop-s-preserved
loop-s-preserved c =
    let t = table_of c.args.self.now in
    let word = c.in-Some.word in
    let there : slot_word_of t c.loop-s.s ≡ Some word = sym c.slot_word.ensures ∙ c.in-Some.is in
    let starts = c.places_in-places.ensures.start in
    let ends = c.places_in-places.ensures.end in
    let inside = c.loop-s.invariant.inside in
    elim c.if-places.branch [
      | then-places+else-places-end+else-places-self w ↦ (
          let before = w.if-places-end in
          let within = w.if-places-self in
          let is : slot_first word + slot_count word ≡ c.if-places.end = sym ends ∙ sym w.end-is in
          record {
            turn = subst (AreInTurnTo t (c.loop-s.s + 1)) is (turn_more t c.loop-s.s word c.loop-s.end there (omega (arith, starts, before)) c.loop-s.invariant.turn);
            inside = omega (arith, within, w.end-is);
            last = subst (IsEndOf t (c.loop-s.s + 1)) is (end_moved t c.loop-s.s word there (omega (arith, starts, ends, w.if-places)));
          })
      | else-places w ↦ (
          let none = w.if-places in
          record {
            turn = subst (AreInTurnTo t (c.loop-s.s + 1)) (sym w.end-is) (turn_empty t c.loop-s.s word c.loop-s.end there (omega (arith, starts, ends, none)) c.loop-s.invariant.turn);
            inside = omega (arith, inside, w.end-is);
            last = subst (IsEndOf t (c.loop-s.s + 1)) (sym w.end-is) (end_kept t c.loop-s.s c.loop-s.end c.loop-s.invariant.last);
          })
    ]

pub returns-clause-turn : goal.returns-clause-turn
returns-clause-turn c = λ yes.
    let t = table_of c.args.self.now in
    let small = words_small c.args.self.now.power c.requires in
    let all : c.loop-s.s ≡ 2 ^ c.args.self.now.power = omega (arith, small, c.loop-s-test.false, c.loop-s.auto.s-end) in
    let P : ℕ → Type 0 = λ s. AreInTurnTo t s c.loop-s.end in
    turn_all t (2 ^ c.args.self.now.power) c.loop-s.end c.args.self.now.count c.loop-s.invariant.inside (subst P all c.loop-s.invariant.turn)

pub returns-in_default-clause-found : goal.returns-in_default-clause-found
returns-in_default-clause-found c = λ sought.
    let t = table_of c.args.self.now in
    let small = words_small c.args.self.now.power c.requires in
    let under : c.loop-s.s < 2 ^ c.args.self.now.power = omega (arith, small, c.loop-s-test.true) in
    let there = slot_there t c.loop-s.s c.args.self.now.complete sought.some under in
    let none = sym c.in_default.is ∙ c.slot_word.ensures in
    absurd (cc)

pub returns-then-places-end-clause-found : goal.returns-then-places-end-clause-found
returns-then-places-end-clause-found c = λ sought.
    let t = table_of c.args.self.now in
    let there : slot_word_of t c.loop-s.s ≡ Some c.in-Some.word = sym c.slot_word.ensures ∙ c.in-Some.is in
    let starts = c.places_in-places.ensures.start in
    let ends = c.places_in-places.ensures.end in
    let counts : 0 < slot_count c.in-Some.word = omega (arith, starts, ends, c.if-places.true) in
    let behind = begins_after t c.loop-s.s c.in-Some.word c.loop-s.end sought c.loop-s.invariant.last there counts in
    let within = ends_inside t c.loop-s.s c.in-Some.word sought there counts in
    elim c.then-places-end.branch [
      | then-places-end-via-then-places-end w ↦ absurd (let before = w.if-places-end in omega (arith, starts, behind, before))
      | then-places-end-via-else-places-end+then-places-self w ↦ absurd (let past = w.if-places-self in omega (arith, ends, within, past))
    ]
