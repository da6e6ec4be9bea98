-- Facts of fixups, instructions and programs, as `specs/` defines them, for the proofs of other crates. Two parts have
-- the laws of additions and those of relocation headers.
pub mod Additions
pub mod Headers
-- no fixups fit, and fixups that fit with one more after them; the facts of fixups that fit
pub use Rattle.pef_reloc.proofs.FixupLemmas.{no_fixups_fit, fixups_fit-more, fixups_end-append, fixups_fit-parts}
-- an instruction has a halfword, and two bytes a halfword
pub use Rattle.pef_reloc.proofs.CodeLemmas.{some_length}
pub use Rattle.pef_reloc.proofs.FlatLaws.{length-spelled}
-- the bytes of no instruction, and of one and others
pub use Rattle.pef_reloc.proofs.Spellings.{spelled-nothing, spelled-one}
-- the bytes that spell instructions are read as these; readable bytes are those that spell their instructions, which
-- fit
pub use Rattle.pef_reloc.proofs.FlatLaws.{instrs_of-spelled}
pub use Rattle.pef_reloc.proofs.Readback.{spelled-instrs_of, instrs_of-fit}
-- the bytes of a flat program aren't refused, and have the effect of its list, which is its trace
pub use Rattle.pef_reloc.proofs.FlatLaws.{program_fault-spelled, relocated-spelled, applied-trace}
-- lists of instructions in a row: their additions, their length, and that they are flat
pub use Rattle.pef_reloc.proofs.ActLists.{state_after-append}
pub use Rattle.pef_reloc.proofs.DeliveryLaws.{trace-append, program_length-append, flat-append, flat-before, flat-after}
-- a list has no fewer halfwords than instructions
pub use Rattle.pef_reloc.proofs.DeliveryLaws.{count-length}
-- a flat list is a flat instruction and a flat list; it makes fixups if the one delivers some and the other makes those
-- left
pub use Rattle.pef_reloc.proofs.DeliveryLaws.{FlatParts, flat_parts, flat_more, FirstDelivers, first_delivers, makes_more}
-- the fixups of words, pairs and imports in a row, if one more is left and if none is
pub use Rattle.pef_reloc.proofs.Rows.{numbered-end, numbered-more, pairs-end, pairs-more, row-end, row-more}
-- where an instruction begins to add
pub use Rattle.pef_reloc.proofs.DeliveredBases.{first_addition}
-- the import index is that after the additions
pub use Rattle.pef_reloc.proofs.DeliveredBases.{index_kept, index_after-append}
-- each of some fixups that fit does; and the sections that they use are below the limit
pub use Rattle.pef_reloc.proofs.DeliveredBases.{each_fits, FixupFits, fixup_fits-parts, used_section-below, uses_section-append, uses_import-append}
-- relocation is refused by sizes alone, not by addresses or by the contents of memory
pub use Rattle.pef_reloc.proofs.Independence.{program-verified, refusal_at-verified, relocation-verified}
