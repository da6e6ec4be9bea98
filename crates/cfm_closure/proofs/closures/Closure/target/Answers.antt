-- The known target of an import is its target.
use Rattle.std.proofs.Common.{◌≡◌, ◌∙◌, Ok, Some, ap, sym}
use Rattle.cfm_closure.specs.Kept.Targets.{led_to}
use Rattle.cfm_closure.proofs.LeadLemmas.{target-led}
use Rattle.cfm_closure.proofs.TargetLemmas.{target-inside}
use Rattle.cfm_closure.proofs.closures.Closure.target.Goals as goal

pub returns-clause-target : goal.returns-clause-target
returns-clause-target c =
    let pairs = c.self.inside.bindings.pairs in
    let led : led_to pairs (c.args.p, c.args.import) ≡ Some (Ok c.target-in-Some.result) = c.in-Some.ensures.right ∙ ap (λ t. Some (Ok t)) (sym c.target-in-Some.ensures) in
    rw (← c.self.view_is) (target-led pairs c.args.p c.args.import (Ok c.target-in-Some.result) led)

pub returns-clause-inside : goal.returns-clause-inside
returns-clause-inside c =
    let pairs = c.self.inside.bindings.pairs in
    let order = c.self.inside.bindings.order in
    let there = rw (← c.self.view_is) at c.requires.there in
    let led : led_to pairs (c.args.p, c.args.import) ≡ Some (Ok c.target-in-Some.result) = c.in-Some.ensures.right ∙ ap (λ t. Some (Ok t)) (sym c.target-in-Some.ensures) in
    let is = target-led pairs c.args.p c.args.import (Ok c.target-in-Some.result) led in
    rw (← c.self.view_is) (target-inside pairs order c.in-Some.ensures.complete c.args.p c.args.import c.target-in-Some.result there is)
