-- The name at a place decides, or those after it.
use Rattle.std.proofs.Common.{◌≡◌, ◌∙◌, ◌+◌, ◌||◌, true, false, drop, length, ap, sym, arith}
use Rattle.std.specs.List.{list_any}
use Rattle.std.proofs.lemmas.Bool.{le-leb, lt-leb}
use Rattle.cfm_stubs.specs.Kept.Tables.{symbol_seen}
use Rattle.cfm_stubs.specs.Stubs.{is_long}
use Rattle.cfm_stubs.proofs.NumberLemmas.{long-here}
use Rattle.cfm_stubs.proofs.numbers.has_long_name.Goals as goal

pub returns-then-name-ge-NAME_LIMIT : goal.returns-then-name-ge-NAME_LIMIT
returns-then-name-ge-NAME_LIMIT c =
    let xs = c.args.symbols.now in
    let s = symbol_seen c.at.result in
    let long : is_long s ≡ true = le-leb 65536 (length s.name) (omega arith) in
    sym (ap (λ b. b || list_any is_long (drop (c.loop-k.k + 1) xs)) long) ∙ sym (long-here xs c.loop-k.k s c.at.ensures) ∙ c.loop-k.invariant

pub loop-k-preserved : goal.loop-k-preserved
loop-k-preserved c =
    let xs = c.args.symbols.now in
    let s = symbol_seen c.at.result in
    let short : is_long s ≡ false = lt-leb 65536 (length s.name) (omega arith) in
    sym (ap (λ b. b || list_any is_long (drop (c.loop-k.k + 1) xs)) short) ∙ sym (long-here xs c.loop-k.k s c.at.ensures) ∙ c.loop-k.invariant
