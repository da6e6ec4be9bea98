-- The options and the operand add their rules, and none is global.
use Rattle.std.proofs.Common.{◌||◌, Bool, refl, ap, ap₂, ◌∙◌}
use Rattle.std.proofs.lemmas.Result.{IfOk-weaker}
use Rattle.clap.specs.Simple.{with_rule}
use Rattle.clap.specs.Walk.{rule_of}
use Rattle.pef_request.proofs.CommandLemmas.{is_global, range_of, ranged}
use Rattle.pef_request.proofs.command_line.inspect_command.Goals as goal

pub returns : goal.returns
returns c =
    let json = c.flag-json.ensures in
    let listed = c.flag-listed.ensures in
    let resources = c.valued-resources.ensures in
    let range_is = range_of 65536 c.num_args-files.result.num_vals c.new.result.start c.new.result.end c.num_args-files.ensures.1 c.new.ensures.start c.new.ensures.end refl in
    let files_is = ap rule_of c.num_args-files.ensures.0 ∙ ap₂ ranged c.optional_operand.ensures.rule range_is in
    let files_local = ap is_global c.num_args-files.ensures.0 ∙ c.optional_operand.ensures.local in
    let first = c.in_ok-arg.ensures.shape json.local ∙ ap₂ with_rule c.described.ensures.app json.rule in
    let first_local = c.in_ok-arg.ensures.globals ∙ ap₂ (λ (a b : Bool). a || b) c.described.ensures.local json.local in
    let second = c.in_ok-arg-2.ensures.shape listed.local ∙ ap₂ with_rule first listed.rule in
    let second_local = c.in_ok-arg-2.ensures.globals ∙ ap₂ (λ (a b : Bool). a || b) first_local listed.local in
    let third = c.in_ok-arg-3.ensures.shape resources.local ∙ ap₂ with_rule second resources.rule in
    let third_local = c.in_ok-arg-3.ensures.globals ∙ ap₂ (λ (a b : Bool). a || b) second_local resources.local in
    record {
      app = IfOk-weaker c.arg-4.result _ _ (λ r added. added.shape files_local ∙ ap₂ with_rule third files_is) c.arg-4.ensures;
      local = IfOk-weaker c.arg-4.result _ _ (λ r added. added.globals ∙ ap₂ (λ (a b : Bool). a || b) third_local files_local) c.arg-4.ensures;
    }
