-- One more name comes, or there is no room for it.
use Rattle.std.proofs.Common.{◌^◌, ◌+◌, length, sym, arith}
use Rattle.std.specs.List.{sum_by}
use Rattle.std.proofs.lemmas.Bool.{lt-ltb}
use Rattle.cfm_stubs.specs.Kept.Tables.{symbol_seen}
use Rattle.cfm_stubs.specs.Symbols.{Symbol}
use Rattle.cfm_stubs.proofs.MemorySteps.{name_bytes-here}
use Rattle.cfm_stubs.proofs.memory.has_many_bytes.Goals as goal

pub returns-then-name-left : goal.returns-then-name-left
returns-then-name-left c =
    let xs = c.args.symbols.now in
    let here = name_bytes-here xs c.loop-k.k (symbol_seen c.at.result) c.at.ensures in
    sym (lt-ltb (2 ^ 23) (sum_by (λ (s : Symbol). length s.name + 1) xs) (omega (arith, here, c.loop-k.invariant, c.if-name-left.true)))

pub loop-k-preserved : goal.loop-k-preserved
loop-k-preserved c =
    let here = name_bytes-here c.args.symbols.now c.loop-k.k (symbol_seen c.at.result) c.at.ensures in
    omega (arith, here, c.loop-k.invariant, c.if-name-left.false)
