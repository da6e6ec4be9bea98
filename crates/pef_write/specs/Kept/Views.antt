-- The values of the code's structs, without places in memory.
use Rattle.pef_write.specs.declared.relocations.SectionProgram.{SectionProgram}
use Rattle.pef_write.specs.Loaders.{ProgramEntry}

abbrev pub program_entry : SectionProgram → ProgramEntry
program_entry p = record { section = p.section; bytes = p.bytes.now }
