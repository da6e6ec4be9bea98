-- An export of another name is passed over.
use Rattle.std.proofs.Common.{◌≡◌, ◌-◌, ◌<◌, inl, inr, None, refl, sym, ◌∙◌, arith}
use Rattle.std.proofs.lemmas.Bool.Decides.{leb_tells}
use Rattle.pef_words.proofs.Laws.Refusals.{first_among-next}
use Rattle.pef_words.specs.Refusals.{first_among}
use Rattle.pef_hash.specs.Exports.{named_at}
use Rattle.pef_hash.specs.Views.{table_of}
use Rattle.pef_hash.proofs.SearchLemmas.{past_exports}
use Rattle.pef_hash.proofs.exports.Exports.first_keyed.Goals as goal

pub loop-i-preserved : goal.loop-i-preserved
loop-i-preserved c =
    let under : c.loop-i.i < c.args.places.end = omega arith in
    let other : named_at (table_of c.args.self.now) c.args.name.now c.loop-i.i ≡ None = rw (sym c.is_keyed.ensures ∙ c.if-is_keyed.false) refl in
    sym (first_among-next (named_at (table_of c.args.self.now) c.args.name.now) _ _ under other) ∙ c.loop-i.invariant

pub returns : goal.returns
returns c =
    let t = table_of c.args.self.now in
    let last = c.loop-i-test.false in
    let least = c.min-end.ensures in
    let rest : None ≡ first_among (named_at t c.args.name.now) c.loop-i.i (c.args.places.end - c.loop-i.i) = elim (leb_tells c.args.self.now.count c.loop-i.i) [
      | inl past ↦ sym (past_exports t c.args.name.now c.loop-i.i _ past.1)
      | inr within ↦ (let under = within.1 in let none : c.args.places.end - c.loop-i.i ≡ 0 = omega arith in rw none refl)
    ] in
    rest ∙ c.loop-i.invariant
