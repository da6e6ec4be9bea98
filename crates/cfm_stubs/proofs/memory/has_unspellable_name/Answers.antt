-- The name at a place decides, or those after it.
use Rattle.std.proofs.Common.{◌≡◌, ◌∙◌, ◌+◌, ◌||◌, true, false, drop, ap, sym}
use Rattle.std.specs.List.{list_any}
use Rattle.cfm_stubs.specs.Kept.Tables.{symbol_seen}
use Rattle.cfm_stubs.specs.MemoryStubs.{is_unspellable}
use Rattle.cfm_stubs.proofs.MemorySteps.{unspellable-here}
use Rattle.cfm_stubs.proofs.memory.has_unspellable_name.Goals as goal

pub returns-then-is_unspellable : goal.returns-then-is_unspellable
returns-then-is_unspellable c =
    let xs = c.args.symbols.now in
    let s = symbol_seen c.at.result in
    let is : is_unspellable s ≡ true = sym c.if-is_unspellable.ensures in
    sym (ap (λ b. b || list_any is_unspellable (drop (c.loop-k.k + 1) xs)) is) ∙ sym (unspellable-here xs c.loop-k.k s c.at.ensures) ∙ c.loop-k.invariant

pub loop-k-preserved : goal.loop-k-preserved
loop-k-preserved c =
    let xs = c.args.symbols.now in
    let s = symbol_seen c.at.result in
    let is : is_unspellable s ≡ false = sym c.if-is_unspellable.ensures in
    sym (ap (λ b. b || list_any is_unspellable (drop (c.loop-k.k + 1) xs)) is) ∙ sym (unspellable-here xs c.loop-k.k s c.at.ensures) ∙ c.loop-k.invariant
