use Rattle.std.proofs.Common.{◌*◌, ◌-◌, ◌^◌, List}
use Rattle.pef_reloc.specs.declared.instr.Instr.{Instr}
use Rattle.pef_reloc.specs.Kept.Places.{Spans}
use Rattle.pef_reloc.specs.Kept.Walks.{MovesOn, walked}
use Rattle.pef_reloc.specs.Unrolled.{repeated, steps_from}
use Rattle.pef_reloc.proofs.WalkLemmas.{WalkLeft}
use Rattle.pef_reloc.proofs.verifying.Walk.pass_each.Given as goal

abbrev pub invariant-passes : goal.invariant-passes
invariant-passes l = record {
  moves : MovesOn l.fn.self l.self (2 ^ 17 * l.counter);
  left : (instrs : List Instr) → Spans l.block.bytes.now l.block.from instrs l.block.to → WalkLeft l.sizes (walked l.self) (repeated (l.passes - l.counter) (steps_from l.block.from instrs)) (repeated l.passes (steps_from l.block.from instrs)) (walked l.fn.self);
}
