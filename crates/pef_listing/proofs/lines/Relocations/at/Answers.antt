-- The program is readable.
use Rattle.std.proofs.Common.{◌≡◌, None}
use Rattle.pef_reloc.specs.Unrolled.{program_fault}
use Rattle.pef_listing.proofs.PartLemmas.{reads_program, reads_program_bytes}
use Rattle.pef_listing.proofs.lines.Relocations.at.Goals as goal

pub unreachable-requires-in_default-read : goal.unreachable-requires-in_default-read
unreachable-requires-in_default-read c =
    let none = c.args.self.now.readable c.args.i c.requires in
    let here : program_fault c.in-Some.bytes.now ≡ None = rw (← c.in-Some.ensures.value) at none in
    c.in_default-read.not-Ok _ (reads_program _ c.in-Some.bytes.now here c.read.ensures).1

pub returns-clause-program : goal.returns-clause-program
returns-clause-program c =
    let none = c.args.self.now.readable c.args.i c.requires in
    let here : program_fault c.in-Some.bytes.now ≡ None = rw (← c.in-Some.ensures.value) at none in
    reads_program_bytes c.in-Ok.program c.in-Some.bytes.now here c.in-Ok.ensures
