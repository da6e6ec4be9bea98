-- A repeat makes the additions of its block in each pass.
use Rattle.std.proofs.Common.{◌∙◌, ap, sym}
use Rattle.pef_reloc.specs.Kept.Counts.{additions_in}
use Rattle.pef_reloc.specs.Kept.Executions.{behind, executed_at}
use Rattle.pef_reloc.proofs.Counts.{in-repeated}
use Rattle.pef_reloc.proofs.counting.additions_at.Goals as goal

pub returns-in-Some : goal.returns-in-Some
returns-in-Some c =
    let bytes = c.args.after.bytes.now in
    let repeat = c.in-Some.repeat in
    let count = c.additions_of.ensures.value ∙ ap additions_in c.behind-block.ensures.listed in
    rw (c.from.ensures, count)
    (sym (ap (λ r. additions_in (executed_at bytes c.args.at c.args.instr r)) (sym c.repeat.ensures ∙ c.in-Some.is) ∙ in-repeated repeat.passes (behind bytes c.args.at repeat.blocks)))
