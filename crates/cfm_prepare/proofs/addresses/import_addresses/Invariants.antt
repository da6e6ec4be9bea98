use Rattle.std.proofs.Common.{◌≡◌, ◌-◌, ◌++◌}
use Rattle.cfm_prepare.specs.Addresses.{addresses_from}
use Rattle.cfm_prepare.proofs.addresses.import_addresses.Given as goal

abbrev pub invariant-loop-import : goal.invariant-loop-import
invariant-loop-import l =
    l.addresses.items ++ addresses_from l.closure.pairs l.present.items l.position l.import (l.count - l.import) ≡ addresses_from l.closure.pairs l.present.items l.position 0 l.count
