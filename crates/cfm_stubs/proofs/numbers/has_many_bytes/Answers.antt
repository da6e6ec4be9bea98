-- One more name comes, or there is no room for it.
use Rattle.std.proofs.Common.{◌^◌, length, sym, arith}
use Rattle.std.specs.List.{sum_by}
use Rattle.std.proofs.lemmas.Bool.{le-leb}
use Rattle.cfm_stubs.specs.Kept.Tables.{symbol_seen}
use Rattle.cfm_stubs.specs.Symbols.{Symbol}
use Rattle.cfm_stubs.proofs.NumberLemmas.{bytes-here}
use Rattle.cfm_stubs.proofs.numbers.has_many_bytes.Goals as goal

pub returns-then-name-left : goal.returns-then-name-left
returns-then-name-left c =
    let xs = c.args.symbols.now in
    let here = bytes-here xs c.loop-k.k (symbol_seen c.at.result) c.at.ensures in
    sym (le-leb (2 ^ 24) (sum_by (λ (s : Symbol). length s.name) xs) (omega (arith, here, c.loop-k.invariant)))

pub loop-k-preserved : goal.loop-k-preserved
loop-k-preserved c =
    let here = bytes-here c.args.symbols.now c.loop-k.k (symbol_seen c.at.result) c.at.ensures in
    omega (arith, here, c.loop-k.invariant)
