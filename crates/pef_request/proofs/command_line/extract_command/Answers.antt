-- Each operand adds its rule, and none is global.
use Rattle.std.proofs.Common.{◌||◌, Bool, ap₂, ◌∙◌}
use Rattle.std.proofs.lemmas.Result.{IfOk-weaker}
use Rattle.clap.specs.Simple.{with_rule}
use Rattle.pef_request.proofs.command_line.extract_command.Goals as goal

pub returns : goal.returns
returns c =
    let file = c.operand-file.ensures in
    let name = c.operand-name.ensures in
    let out = c.operand-out.ensures in
    let first = c.in_ok-arg.ensures.shape file.local ∙ ap₂ with_rule c.described.ensures.app file.rule in
    let first_local = c.in_ok-arg.ensures.globals ∙ ap₂ (λ (a b : Bool). a || b) c.described.ensures.local file.local in
    let second = c.in_ok-arg-2.ensures.shape name.local ∙ ap₂ with_rule first name.rule in
    let second_local = c.in_ok-arg-2.ensures.globals ∙ ap₂ (λ (a b : Bool). a || b) first_local name.local in
    record {
      app = IfOk-weaker c.arg-3.result _ _ (λ r added. added.shape out.local ∙ ap₂ with_rule second out.rule) c.arg-3.ensures;
      local = IfOk-weaker c.arg-3.result _ _ (λ r added. added.globals ∙ ap₂ (λ (a b : Bool). a || b) second_local out.local) c.arg-3.ensures;
    }
