-- The memory alone changes.
use Rattle.std.proofs.Common.{List, ap}
use Rattle.cfm_prepare.specs.Contexts.{ContextState}
use Rattle.cfm_prepare.specs.Fragments.{Present}
use Rattle.cfm_prepare.specs.Made.{choices_of}
use Rattle.cfm_prepare.proofs.context.Context.reserve.Goals as goal

pub returns-clause-reserved : goal.returns-clause-reserved
returns-clause-reserved c =
    let connections = c.self.inside.connections in
    let after = c.reserve.new.self.memory in
    let whole : List Present → ContextState = λ fs. record { bounds = (choices_of c.self.inside.options).bounds; pairs = c.self.inside.store; memory = after; given = connections.given; connections = connections.items; present = fs } in
    rw (← c.self.view_is) (record { memory = after; reserves = c.in_ok-reserve.ensures.reserved.0; is = ap whole c.in_ok-reserve.ensures.reserved.1 })
