-- The options add their rules, and the operand adds its own. None is global.
use Rattle.std.proofs.Common.{◌||◌, Bool, ap, ap₂, ◌∙◌}
use Rattle.std.proofs.lemmas.Result.{IfOk-weaker}
use Rattle.clap.specs.Simple.{App, with_rule}
use Rattle.pef_request.specs.Arguments.{with_rules}
use Rattle.pef_request.specs.Prepare.{form_rules, libraries_rules}
use Rattle.pef_request.proofs.prepare.prepare_command.Goals as goal

pub returns : goal.returns
returns c =
    let named = c.described.ensures in
    let first = c.in_ok-with_libraries.ensures in
    let second = c.in_ok-with_form.ensures in
    let files = c.files_operand.ensures in
    let first_is = first.0 ∙ ap (λ (a : App). with_rules a libraries_rules) named.app in
    let second_is = second.0 ∙ ap (λ (a : App). with_rules a form_rules) first_is in
    let second_local = second.1 (first.1 named.local) in
    record {
      app = IfOk-weaker c.arg.result _ _ (λ r added. added.shape files.local ∙ ap₂ with_rule second_is files.rule) c.arg.ensures;
      local = IfOk-weaker c.arg.result _ _ (λ r added. added.globals ∙ ap₂ (λ (a b : Bool). a || b) second_local files.local) c.arg.ensures;
    }
