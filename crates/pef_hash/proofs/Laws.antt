-- Facts of export tables, as `specs/` defines them, for the proofs of other crates.

-- a search by name finds the first export with that name
pub use Rattle.pef_hash.proofs.NamedExports.{IsFirstNamed, export_named-some}
-- each place of a built table's order is that of a name
pub use Rattle.pef_hash.proofs.RegularLemmas.{ordered_name}
-- the power of a table is at most the greatest
pub use Rattle.pef_hash.proofs.Slots.{least_power-most}
-- the order of the slots names each place once
pub use Rattle.pef_hash.proofs.SlotLists.{length-in_slots}
-- in a table built of distinct names each is found, and no other name
pub use Rattle.pef_hash.proofs.RegularLemmas.{built_has_no_other, built_has_own}
-- a slot word says how many words are in its slot and in those before it
pub use Rattle.pef_hash.proofs.Places.{count_before-past, slot_words-at}
