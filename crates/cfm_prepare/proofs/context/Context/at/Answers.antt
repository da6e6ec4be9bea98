-- The fragment that an address is in is present, so a connection has it.
use Rattle.std.proofs.Common.{◌∙◌, ap, sym}
use Rattle.std.specs.Option.{option_copied}
use Rattle.cfm_prepare.proofs.LocationLemmas.{has-connection}
use Rattle.cfm_prepare.proofs.context.Context.at.Goals as goal

pub returns-in_err-fragment : goal.returns-in_err-fragment
returns-in_err-fragment c = rw c.from_residual.ensures (rw (← c.self.view_is) c.in_err-fragment.ensures.none)

pub unreachable-requires : goal.unreachable-requires
unreachable-requires c =
    let it = c.self.inside in
    let none = sym c.having.ensures.first ∙ ap option_copied c.in_default.is in
    has-connection it.options.connections it.connections.given it.users.items it.connections.items it.fragments.present c.in_ok-fragment.fragment c.args.address
    c.in_ok-fragment.section c.in_ok-fragment.offset c.self.invariant c.in_ok-fragment.ensures.found none
