-- Each option adds its rule, and none is global.
use Rattle.std.proofs.Common.{◌||◌, Bool, ap, ap₂, ◌∙◌}
use Rattle.std.proofs.lemmas.Result.{IfOk-weaker}
use Rattle.clap.specs.Simple.{app_of, with_rule}
use Rattle.pef_request.specs.Arguments.{repeated}
use Rattle.pef_request.proofs.prepare.with_libraries.Goals as goal

pub returns : goal.returns
returns c =
    let either : Bool → Bool → Bool = λ a b. a || b in
    let root = c.valued.ensures in
    let library = c.repeated.ensures in
    let folder = c.repeated-2.ensures in
    let library_rule = library.rule ∙ ap repeated c.valued-2.ensures.rule in
    let library_local = library.local ∙ c.valued-2.ensures.local in
    let folder_rule = folder.rule ∙ ap repeated c.lettered.ensures.rule in
    let folder_local = folder.local ∙ c.lettered.ensures.local in
    let no_stubs = c.flag.ensures in
    let no_weak = c.flag-2.ensures in
    let first = c.in_ok-arg.ensures.shape root.local ∙ ap (with_rule (app_of c.args.command)) root.rule in
    let second = c.in_ok-arg-2.ensures.shape library_local ∙ ap₂ with_rule first library_rule in
    let third = c.in_ok-arg-3.ensures.shape folder_local ∙ ap₂ with_rule second folder_rule in
    let fourth = c.in_ok-arg-4.ensures.shape no_stubs.local ∙ ap₂ with_rule third no_stubs.rule in
    IfOk-weaker c.arg-5.result _ _
    (λ r added. (
      added.shape no_weak.local ∙ ap₂ with_rule fourth no_weak.rule,
      λ local.
          let first_local = c.in_ok-arg.ensures.globals ∙ ap₂ either local root.local in
          let second_local = c.in_ok-arg-2.ensures.globals ∙ ap₂ either first_local library_local in
          let third_local = c.in_ok-arg-3.ensures.globals ∙ ap₂ either second_local folder_local in
          let fourth_local = c.in_ok-arg-4.ensures.globals ∙ ap₂ either third_local no_stubs.local in
          added.globals ∙ ap₂ either fourth_local no_weak.local,
    ))
    c.arg-5.ensures
