use Rattle.std.proofs.Common.{◌≡◌, ◌*◌, ◌^◌, ◌≤◌, drop}
use Rattle.pef_cert.specs.Fixups.Kept.Walks.{place_of, start_place, walked}
use Rattle.pef_cert.proofs.fixups.walk.walk_along.Given as goal

abbrev pub invariant-loop-instr : goal.invariant-loop-instr
invariant-loop-instr l = record {
  position : l.walk.position ≤ 2 ^ 26 * l.instr-index;
  import_index : l.walk.import_index ≤ 2 ^ 26 * l.instr-index;
  left : walked (drop l.instr-index l.program) (place_of l.walk) ≡ walked l.program (start_place l.fixups);
}
