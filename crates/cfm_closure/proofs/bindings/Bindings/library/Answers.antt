-- With a fragment the order has its libraries.
use Rattle.std.proofs.Common.{sym}
use Rattle.cfm_closure.proofs.OrderFacts.{bound-below, bound-inside}
use Rattle.cfm_closure.proofs.bindings.Bindings.library.Goals as goal

pub returns-clause-bound : goal.returns-clause-bound
returns-clause-bound c = c.closed.ensures.closed.bound c.args.l c.in-Some.bound (sym c.in-Some.ensures)

pub returns-clause-inside : goal.returns-clause-inside
returns-clause-inside c =
    let bound = c.closed.ensures.closed.bound c.args.l c.in-Some.bound (sym c.in-Some.ensures) in
    bound-inside c.args.self.now.pairs c.args.self.now.order c.args.p c.args.l c.in-Some.bound c.closed.ensures.complete c.requires.there bound

pub returns-clause-below : goal.returns-clause-below
returns-clause-below c =
    let pairs = c.args.self.now.pairs in
    let order = c.args.self.now.order in
    let bound = c.closed.ensures.closed.bound c.args.l c.in-Some.bound (sym c.in-Some.ensures) in
    let inside = bound-inside pairs order c.args.p c.args.l c.in-Some.bound c.closed.ensures.complete c.requires.there bound in
    bound-below pairs order c.in-Some.bound c.closed.ensures.complete c.closed.ensures.few inside
