-- The import that was reached leads where the first one leads.
use Rattle.std.proofs.Common.{◌≡◌, Some}
use Rattle.std.specs.List.{AllByRecursion}
use Rattle.cfm_closure.specs.Reexports.{hops}
use Rattle.cfm_closure.specs.Kept.Resolvers.{IsResolver}
use Rattle.cfm_closure.specs.Kept.Targets.{IsOnWay, led_to}
use Rattle.cfm_closure.proofs.resolve.Resolver.follow.Given as goal

abbrev pub invariant-loop-hop : goal.invariant-loop-hop
invariant-loop-hop l = record {
  resolver : IsResolver l.bindings.pairs l.bindings.order l.self;
  at : IsOnWay l.bindings.pairs l.bindings.order (led_to l.bindings.pairs (l.p, l.j)) l.at;
  way : AllByRecursion (IsOnWay l.bindings.pairs l.bindings.order (led_to l.bindings.pairs (l.p, l.j))) l.way.items;
  far : hops l.bindings.pairs l._hop (l.p, l.j) ≡ Some l.at;
}
