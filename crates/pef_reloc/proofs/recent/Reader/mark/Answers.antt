use Rattle.std.proofs.Common.{◌≡◌, arith}
use Rattle.pef_reloc.specs.Instrs.{instr_length}
use Rattle.pef_reloc.proofs.CodeLemmas.{some_length, most_length}
use Rattle.pef_reloc.proofs.Windows.{mark-one, mark-two}
use Rattle.pef_reloc.proofs.recent.Reader.mark.Goals as goal

pub returns-then-length-gt1-clause-marks : goal.returns-then-length-gt1-clause-marks
returns-then-length-gt1-clause-marks c =
    let most = most_length c.args.instr in
    let two : instr_length c.args.instr ≡ 2 = omega (arith, most, c.length.ensures, c.if-length-gt1.true) in
    λ before at_is marks. mark-two _ c.args.instr before c.args.at two at_is marks

pub returns-else-length-gt1-clause-marks : goal.returns-else-length-gt1-clause-marks
returns-else-length-gt1-clause-marks c =
    let some = some_length c.args.instr in
    let one : instr_length c.args.instr ≡ 1 = omega (arith, some, c.length.ensures, c.if-length-gt1.false) in
    λ before at_is marks. mark-one _ c.args.instr before c.args.at one at_is marks
