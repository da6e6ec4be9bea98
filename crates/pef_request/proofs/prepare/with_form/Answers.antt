-- Each option adds its rule, and none is global.
use Rattle.std.proofs.Common.{◌||◌, Bool, ap, ap₂, ◌∙◌}
use Rattle.std.proofs.lemmas.Result.{IfOk-weaker}
use Rattle.clap.specs.Simple.{app_of, with_rule}
use Rattle.pef_request.proofs.prepare.with_form.Goals as goal

pub returns : goal.returns
returns c =
    let either : Bool → Bool → Bool = λ a b. a || b in
    let json = c.flag.ensures in
    let bytes = c.flag-2.ensures in
    let out = c.lettered.ensures in
    let first = c.in_ok-arg.ensures.shape json.local ∙ ap (with_rule (app_of c.args.command)) json.rule in
    let second = c.in_ok-arg-2.ensures.shape bytes.local ∙ ap₂ with_rule first bytes.rule in
    IfOk-weaker c.arg-3.result _ _
    (λ r added. (
      added.shape out.local ∙ ap₂ with_rule second out.rule,
      λ local.
          let first_local = c.in_ok-arg.ensures.globals ∙ ap₂ either local json.local in
          let second_local = c.in_ok-arg-2.ensures.globals ∙ ap₂ either first_local bytes.local in
          added.globals ∙ ap₂ either second_local out.local,
    ))
    c.arg-3.ensures
