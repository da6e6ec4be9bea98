-- One more stub is there, against which there is no reason.
use Rattle.std.proofs.Common.{◌<◌, length, map, arith}
use Rattle.pef_loader.specs.Views.{loaded}
use Rattle.cfm_stubs.proofs.MemoryStubLemmas.{more-memory, more-reasons}
use Rattle.cfm_stubs.proofs.several.memory_stubs.Goals as goal

pub loop-name-preserved : goal.loop-name-preserved
loop-name-preserved c =
    let loaders = map loaded c.args.loaders.now in
    let ns = c.args.names.now in
    let i = c.loop-name.name-index in
    let under : i < length ns = omega arith in
    record {
      all = more-memory loaders c.args.word c.args.size ns i _ _ c.loop-name.made.items c.push.new.self.items under c.in_ok-push.ensures.items c.in-Ok.ensures.0 c.loop-name.invariant.all;
      refusals = more-reasons loaders c.args.size ns i _ _ under c.in-Ok.ensures.1 c.loop-name.invariant.refusals;
    }
