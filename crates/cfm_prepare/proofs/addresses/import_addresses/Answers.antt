-- One more address is there.
use Rattle.cfm_prepare.specs.Addresses.{addresses_from}
use Rattle.cfm_prepare.proofs.FragmentLemmas.{imports-next}
use Rattle.cfm_prepare.proofs.addresses.import_addresses.Goals as goal

pub loop-import-preserved : goal.loop-import-preserved
loop-import-preserved c =
    let at = c.loop-import in
    imports-next c.args.closure.now.pairs c.args.present.now.items c.args.position at.addresses.items c.push.new.self.items (addresses_from c.args.closure.now.pairs c.args.present.now.items c.args.position 0 c.imports-count.result) at.import c.imports-count.result
    c.target-target.result c.target_address.result c.loop-import-test.true c.target-target.ensures.target c.target_address.ensures c.in_ok-push.ensures.items at.invariant
