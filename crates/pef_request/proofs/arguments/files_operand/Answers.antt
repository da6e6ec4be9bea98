-- The operand has the range of words that the code writes.
use Rattle.std.proofs.Common.{refl, ap, ap₂, ◌∙◌}
use Rattle.clap.specs.Walk.{rule_of}
use Rattle.pef_request.proofs.CommandLemmas.{is_global, range_of, ranged}
use Rattle.pef_request.proofs.arguments.files_operand.Goals as goal

pub returns : goal.returns
returns c =
    let range_is = range_of 256 c.num_args.result.num_vals c.new.result.start c.new.result.end c.num_args.ensures.1 c.new.ensures.start c.new.ensures.end refl in
    record {
      rule = ap rule_of c.num_args.ensures.0 ∙ ap₂ ranged c.operand.ensures.rule range_is;
      local = ap is_global c.num_args.ensures.0 ∙ c.operand.ensures.local;
    }
