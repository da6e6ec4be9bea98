-- A table has as many places as the store.
use Rattle.std.proofs.Common.{◌≡◌, length, arith}
use Rattle.std.proofs.lemmas.Grind.{common_steps}
use Rattle.cfm_closure.proofs.bindings.Bindings.table.Goals as goal

pub returns-clause-none : goal.returns-clause-none
returns-clause-none g c =
    let len : c.len.result ≡ length c.args.self.now.pairs = grind (arith, common_steps) in
    rw (← len) c.new.ensures
