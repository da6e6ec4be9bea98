-- The operand adds its rule, and isn't global.
use Rattle.std.proofs.Common.{◌||◌, Bool, ap₂, ◌∙◌}
use Rattle.std.proofs.lemmas.Result.{IfOk-weaker}
use Rattle.clap.specs.Simple.{with_rule}
use Rattle.pef_request.proofs.command_line.load_command.Goals as goal

pub returns : goal.returns
returns c = record {
  app = IfOk-weaker c.arg.result _ _ (λ r added. added.shape c.files_operand-files.ensures.local ∙ ap₂ with_rule c.described.ensures.app c.files_operand-files.ensures.rule) c.arg.ensures;
  local = IfOk-weaker c.arg.result _ _ (λ r added. added.globals ∙ ap₂ (λ (a b : Bool). a || b) c.described.ensures.local c.files_operand-files.ensures.local) c.arg.ensures;
}
