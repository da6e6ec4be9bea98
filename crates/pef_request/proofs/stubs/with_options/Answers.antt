-- Each option adds its rule, and none is global.
use Rattle.std.proofs.Common.{◌||◌, Bool, ap, ap₂, ◌∙◌}
use Rattle.std.proofs.lemmas.Result.{IfOk-weaker}
use Rattle.clap.specs.Simple.{app_of, with_rule}
use Rattle.pef_request.proofs.stubs.with_options.Goals as goal

pub returns : goal.returns
returns c =
    let either : Bool → Bool → Bool = λ a b. a || b in
    let first_rule = c.valued.ensures in
    let step_rule = c.valued-2.ensures in
    let no_weak = c.flag.ensures in
    let memory = c.flag-2.ensures in
    let out = c.lettered.ensures in
    let first = c.in_ok-arg.ensures.shape first_rule.local ∙ ap (with_rule (app_of c.args.command)) first_rule.rule in
    let second = c.in_ok-arg-2.ensures.shape step_rule.local ∙ ap₂ with_rule first step_rule.rule in
    let third = c.in_ok-arg-3.ensures.shape no_weak.local ∙ ap₂ with_rule second no_weak.rule in
    let fourth = c.in_ok-arg-4.ensures.shape memory.local ∙ ap₂ with_rule third memory.rule in
    IfOk-weaker c.arg-5.result _ _
    (λ r added. (
      added.shape out.local ∙ ap₂ with_rule fourth out.rule,
      λ local.
          let first_local = c.in_ok-arg.ensures.globals ∙ ap₂ either local first_rule.local in
          let second_local = c.in_ok-arg-2.ensures.globals ∙ ap₂ either first_local step_rule.local in
          let third_local = c.in_ok-arg-3.ensures.globals ∙ ap₂ either second_local no_weak.local in
          let fourth_local = c.in_ok-arg-4.ensures.globals ∙ ap₂ either third_local memory.local in
          added.globals ∙ ap₂ either fourth_local out.local,
    ))
    c.arg-5.ensures
