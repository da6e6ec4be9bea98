-- One more export is there.
use Rattle.std.proofs.Common.{sym}
use Rattle.cfm_stubs.proofs.MemorySteps.{seen-more}
use Rattle.cfm_stubs.proofs.memory.exports_of.Goals as goal

pub loop-e-preserved : goal.loop-e-preserved
loop-e-preserved c = seen-more c.args.script.now.exports c.loop-e.e c.in-Some.export c.loop-e.exports.items c.push.new.self.items (sym c.in-Some.ensures) c.in_ok-push.ensures.items c.loop-e.invariant
