-- The options add their rules, and the operand adds its own. None is global.
use Rattle.std.proofs.Common.{◌||◌, Bool, ap, ap₂, ◌∙◌}
use Rattle.std.proofs.lemmas.Result.{IfOk-weaker}
use Rattle.clap.specs.Simple.{App, with_rule}
use Rattle.pef_request.specs.Arguments.{with_rules}
use Rattle.pef_request.specs.Stubs.{stubs_rules}
use Rattle.pef_request.proofs.stubs.stubs_command.Goals as goal

pub returns : goal.returns
returns c =
    let named = c.described.ensures in
    let options = c.in_ok-with_options.ensures in
    let files = c.files_operand.ensures in
    let options_is = options.0 ∙ ap (λ (a : App). with_rules a stubs_rules) named.app in
    let options_local = options.1 named.local in
    record {
      app = IfOk-weaker c.arg.result _ _ (λ r added. added.shape files.local ∙ ap₂ with_rule options_is files.rule) c.arg.ensures;
      local = IfOk-weaker c.arg.result _ _ (λ r added. added.globals ∙ ap₂ (λ (a b : Bool). a || b) options_local files.local) c.arg.ensures;
    }
