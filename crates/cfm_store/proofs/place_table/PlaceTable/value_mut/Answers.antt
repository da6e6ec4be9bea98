-- The value at a place has its number.
use Rattle.std.proofs.Common.{◌≡◌, ◌-◌, ◌∙◌, suc, Some, refl, sym, ap, get_or, arith}
use Rattle.std.proofs.lemmas.List.{get_or_default}
use Rattle.std.proofs.lemmas.Option.{slice_get-get_or}
use Rattle.cfm_store.specs.Kept.Numbers.{value_of}
use Rattle.cfm_store.proofs.NumberLemmas.{has_number, number_within, value-at, values-replaced}
use Rattle.cfm_store.proofs.place_table.PlaceTable.value_mut.Goals as goal

pub index_mut-requires : goal.index_mut-requires
index_mut-requires g c =
    let numbers = c.self.inside.numbers.items in
    let values = c.self.inside.values.items in
    let has = has_number numbers values c.args.p (rw (← c.self.view_is) at c.requires) in
    let same = get_or_default numbers c.args.p 0 c.index.result.now has.0 ∙ sym c.index.ensures ∙ sym c.from-number.ensures in
    let is : get_or numbers c.args.p 0 ≡ suc (c.from-number.result - 1) = let e = has.1 in omega arith in
    let within = number_within numbers values c.args.p (c.from-number.result - 1) c.self.invariant is in
    omega (arith, c.self.inside.values.ok.0)

pub returns : goal.returns
returns g c =
    let numbers = c.self.inside.numbers.items in
    let values = c.self.inside.values.items in
    let has = has_number numbers values c.args.p (rw (← c.self.view_is) at c.requires) in
    let same = get_or_default numbers c.args.p 0 c.index.result.now has.0 ∙ sym c.index.ensures ∙ sym c.from-number.ensures in
    let is : get_or numbers c.args.p 0 ≡ suc (c.from-number.result - 1) = let e = has.1 in omega arith in
    let within = number_within numbers values c.args.p (c.from-number.result - 1) c.self.invariant is in (
      (refl, λ w. rw (← c.self.view_is) (values-replaced numbers values c.self.invariant c.args.p w (c.from-number.result - 1) is)),
      record {
        writes_back = tt;
        value = rw (← c.self.view_is) (value-at numbers values c.args.p ∙ ap (value_of values) is ∙ slice_get-get_or values (c.from-number.result - 1) c.index_mut.result.now within ∙ ap Some (sym c.index_mut.ensures.value));
      },
    )
