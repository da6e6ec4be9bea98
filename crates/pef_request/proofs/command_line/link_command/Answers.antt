-- Each operand adds its rule, and none is global.
use Rattle.std.proofs.Common.{◌||◌, Bool, ap₂, ◌∙◌}
use Rattle.std.proofs.lemmas.Result.{IfOk-weaker}
use Rattle.clap.specs.Simple.{with_rule}
use Rattle.pef_request.proofs.command_line.link_command.Goals as goal

pub returns : goal.returns
returns c =
    let script = c.operand-script.ensures in
    let out = c.operand-out.ensures in
    let first = c.in_ok-arg.ensures.shape script.local ∙ ap₂ with_rule c.described.ensures.app script.rule in
    let first_local = c.in_ok-arg.ensures.globals ∙ ap₂ (λ (a b : Bool). a || b) c.described.ensures.local script.local in
    record {
      app = IfOk-weaker c.arg-2.result _ _ (λ r added. added.shape out.local ∙ ap₂ with_rule first out.rule) c.arg-2.ensures;
      local = IfOk-weaker c.arg-2.result _ _ (λ r added. added.globals ∙ ap₂ (λ (a b : Bool). a || b) first_local out.local) c.arg-2.ensures;
    }
