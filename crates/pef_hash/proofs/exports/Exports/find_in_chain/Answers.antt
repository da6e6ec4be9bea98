-- The slot of the name's hash word counts each export of the name.
use Rattle.std.proofs.Common.{◌≡◌, ◌∙◌, None, Some, sym, ap, arith}
use Rattle.pef_hash.specs.Exports.{slot_word_of}
use Rattle.pef_hash.specs.Views.{table_of}
use Rattle.pef_hash.specs.Word.{hash_word, slot}
use Rattle.pef_hash.proofs.SearchLemmas.{chain_found, long_none, slotless_none}
use Rattle.pef_hash.proofs.exports.Exports.find_in_chain.Goals as goal

pub returns-then-name-gt-MAX_NAME_LENGTH : goal.returns-then-name-gt-MAX_NAME_LENGTH
returns-then-name-gt-MAX_NAME_LENGTH c = sym (long_none (table_of c.args.self.now) c.args.name.now c.requires.leads (omega arith))

pub returns-in-Some : goal.returns-in-Some
returns-in-Some c =
    let t = table_of c.args.self.now in
    let at = c.slot.ensures.value ∙ ap (λ w. slot w c.args.self.now.power) c.hash_word-word.ensures in
    let is : slot_word_of t (slot (hash_word c.args.name.now) c.args.self.now.power) ≡ Some c.in-Some.counted = sym (ap (slot_word_of t) at) ∙ sym c.slot_word.ensures ∙ c.in-Some.is in
    c.first_keyed.ensures ∙ chain_found t c.args.name.now c.in-Some.counted c.places_in.result.start c.places_in.result.end c.requires.leads is c.places_in.ensures.start c.places_in.ensures.end

pub returns-in-None : goal.returns-in-None
returns-in-None c =
    let t = table_of c.args.self.now in
    let at = c.slot.ensures.value ∙ ap (λ w. slot w c.args.self.now.power) c.hash_word-word.ensures in
    let is : slot_word_of t (slot (hash_word c.args.name.now) c.args.self.now.power) ≡ None = sym (ap (slot_word_of t) at) ∙ sym c.slot_word.ensures ∙ c.in-None.is in
    sym (slotless_none t c.args.name.now c.requires.leads is)
