-- The entries that wait for nothing are noted.
use Rattle.std.proofs.Common.{refl, sym, arith}
use Rattle.cfm_closure.proofs.InitLemmas.{taking-passed}
use Rattle.cfm_closure.proofs.init_order.InitState.is_ready.Goals as goal

pub index_mut-requires : goal.index_mut-requires
index_mut-requires c = let place = (c.requires.taking.complete.members c.args.p c.requires.place).place in let size = c.requires.taking.passed_size in let long = c.args.self.now.passed.ok.0 in omega arith

pub returns-clause-taking : goal.returns-clause-taking
returns-clause-taking c = taking-passed c.args.bindings.now.pairs c.args.bindings.now.order c.args.self.now _ c.args.p c.passed-passed.result refl refl (c.requires.taking.complete.members c.args.p c.requires.place).place c.requires.taking c.passed-passed.ensures.passed

pub returns-clause-ready : goal.returns-clause-ready
returns-clause-ready c = rw (c.libraries.ensures) (sym c.passed-passed.ensures.ready)
