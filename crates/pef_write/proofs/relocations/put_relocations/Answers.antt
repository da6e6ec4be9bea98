-- One more header is written, and at the end none is left.
use Rattle.std.proofs.Common.{◌∙◌, ◌<◌, ◌≤◌, ◌++◌, length, ap, arith}
use Rattle.pef_write.specs.Fields.{spelled}
use Rattle.pef_write.proofs.Fields.{one_more, none_left}
use Rattle.pef_write.proofs.RelocationSteps.{length-program_bytes-more, program_fields-end, program_fields-more}
use Rattle.pef_write.proofs.relocations.put_relocations.Goals as goal

pub loop-program-preserved : goal.loop-program-preserved
loop-program-preserved c =
    let under : c.loop-program.program-index < length c.args.programs.now = omega arith in
    let more = length-program_bytes-more c.args.programs.now c.loop-program.program-index under in
    let split = program_fields-more c.loop-program.at c.args.programs.now c.loop-program.program-index under in
    record {
      place = omega (arith, more, c.loop-program.invariant.place);
      headers = one_more c.loop-program.out.items _ _ _ _ _ (c.in_ok-put_fields.ensures ∙ ap (λ f. c.loop-program.out.items ++ spelled f) c.relocation_entry.ensures) split c.loop-program.invariant.headers;
    }

pub returns : goal.returns
returns c =
    let past : length c.args.programs.now ≤ c.loop-program.program-index = omega arith in
    none_left c.loop-program.out.items _ _ (program_fields-end c.loop-program.at c.args.programs.now c.loop-program.program-index past) c.loop-program.invariant.headers
