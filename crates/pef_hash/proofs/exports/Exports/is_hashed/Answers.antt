-- The slot of the key counts the export. In a searchable table each key is hashed, and its slot exists.
use Rattle.std.proofs.Common.{◌≡◌, ◌∙◌, Some, sym, ap, subst, arith, rules}
use Rattle.std.proofs.lemmas.Option.{same_Some}
use Rattle.std.specs.Prelude.{IsTrue, ◌&&◌, nat_le, nat_lt}
use Rattle.pef_hash.specs.Exports.{slot_word_of}
use Rattle.pef_hash.specs.Views.{table_of}
use Rattle.pef_hash.specs.Word.{hash_word, slot}
use Rattle.pef_hash.proofs.FoundLemmas.{counts_true, leads_is, name_short, regular_counts, regular_key, slot_there}
use Rattle.pef_hash.proofs.SearchLemmas.{named_inside}
use Rattle.pef_hash.proofs.exports.Exports.is_hashed.Goals as goal

pub hash_word-word-requires : goal.hash_word-word-requires
hash_word-word-requires c =
    name_short (table_of c.args.self.now) c.args.i c.in-Some.key c.args.name.now (sym c.key.ensures ∙ c.in-Some.is) c.requires.name (omega arith)

pub returns-in_default-clause-found : goal.returns-in_default-clause-found
returns-in_default-clause-found c = λ sought.
    let t = table_of c.args.self.now in
    let key = regular_key t c.args.i c.args.name.now sought.regular (named_inside t c.args.name.now c.args.i c.requires.name) c.requires.name in
    let none = sym c.in_default.is ∙ c.key.ensures in
    absurd (cc)

pub returns-then-key-word-clause-found : goal.returns-then-key-word-clause-found
returns-then-key-word-clause-found c = λ sought.
    let t = table_of c.args.self.now in
    let key = regular_key t c.args.i c.args.name.now sought.regular (named_inside t c.args.name.now c.args.i c.requires.name) c.requires.name in
    let same : Some c.in-Some.key ≡ Some (hash_word c.args.name.now) = sym c.in-Some.is ∙ c.key.ensures ∙ key in
    absurd (c.if-key-word.true (same_Some c.in-Some.key (hash_word c.args.name.now) same ∙ sym c.hash_word-word.ensures))

pub returns-in-Some-slot_word-clause-hashed : goal.returns-in-Some-slot_word-clause-hashed
returns-in-Some-slot_word-clause-hashed c = λ yes.
    let t = table_of c.args.self.now in
    let at = c.slot.ensures.value ∙ ap (λ w. slot w c.args.self.now.power) c.hash_word-word.ensures in
    let is : slot_word_of t (slot (hash_word c.args.name.now) c.args.self.now.power) ≡ Some c.in-Some-slot_word.counted = sym (ap (slot_word_of t) at) ∙ sym c.slot_word.ensures ∙ c.in-Some-slot_word.is in
    let inside : IsTrue (nat_le c.places_in.result.start c.args.i && nat_lt c.args.i c.places_in.result.end) = search rules in
    record {
      name = c.args.name.now;
      named = c.requires.name;
      short = name_short t c.args.i c.in-Some.key c.args.name.now (sym c.key.ensures ∙ c.in-Some.is) c.requires.name (omega arith);
      key = sym c.key.ensures ∙ c.in-Some.is ∙ ap Some (c.if-key-word.false ∙ c.hash_word-word.ensures);
      leads = subst IsTrue (sym (leads_is _ c.in-Some-slot_word.counted c.args.i c.places_in.result.start c.places_in.result.end is c.places_in.ensures.start c.places_in.ensures.end)) inside;
    }

pub returns-in-Some-slot_word-clause-found : goal.returns-in-Some-slot_word-clause-found
returns-in-Some-slot_word-clause-found c = λ sought.
    let t = table_of c.args.self.now in
    let key = regular_key t c.args.i c.args.name.now sought.regular (named_inside t c.args.name.now c.args.i c.requires.name) c.requires.name in
    let at = c.slot.ensures.value ∙ ap (λ w. slot w c.args.self.now.power) c.hash_word-word.ensures in
    let counted = regular_counts t c.slot.result c.in-Some-slot_word.counted c.args.i (hash_word c.args.name.now) sought.regular (sym c.slot_word.ensures ∙ c.in-Some-slot_word.is) key (sym at) in
    let inside = counts_true c.in-Some-slot_word.counted c.args.i c.places_in.result.start c.places_in.result.end counted c.places_in.ensures.start c.places_in.ensures.end in
    search rules

pub returns-in-None-clause-found : goal.returns-in-None-clause-found
returns-in-None-clause-found c = λ sought.
    let t = table_of c.args.self.now in
    let there = slot_there t c.slot.result c.args.self.now.complete sought.some c.slot.ensures.below in
    let none = sym c.in-None.is ∙ c.slot_word.ensures in
    absurd (cc)
