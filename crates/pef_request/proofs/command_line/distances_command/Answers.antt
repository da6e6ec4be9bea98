-- The operand adds its rule, and isn't global.
use Rattle.std.proofs.Common.{◌||◌, Bool, ap₂, ◌∙◌}
use Rattle.std.proofs.lemmas.Result.{IfOk-weaker}
use Rattle.clap.specs.Simple.{with_rule}
use Rattle.pef_request.proofs.command_line.distances_command.Goals as goal

pub returns : goal.returns
returns c = record {
  app = IfOk-weaker c.arg.result _ _ (λ r added. added.shape c.operand-script.ensures.local ∙ ap₂ with_rule c.described.ensures.app c.operand-script.ensures.rule) c.arg.ensures;
  local = IfOk-weaker c.arg.result _ _ (λ r added. added.globals ∙ ap₂ (λ (a b : Bool). a || b) c.described.ensures.local c.operand-script.ensures.local) c.arg.ensures;
}
