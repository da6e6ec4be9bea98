-- A name is a word if one is left of it.
use Rattle.std.proofs.Common.{◌≡◌, ◌∙◌, ◌||◌, true, false, length, nat_lt, not, sym, ap}
use Rattle.pef_lines.specs.Words.{is_word}
use Rattle.cfm_stubs.proofs.MemorySteps.{word-there}
use Rattle.cfm_stubs.proofs.memory.is_unspellable.Goals as goal

pub returns-then-is_none : goal.returns-then-is_none
returns-then-is_none c =
    let none : is_word c.args.name.now ≡ false = sym (word-there c.args.name.now c.last_word.result c.last_word.ensures) ∙ c.if-is_none.ensures in
    c.if-is_none.true ∙ sym (ap (λ b. not b || nat_lt 255 (length c.args.name.now)) none)

pub returns-else-is_none : goal.returns-else-is_none
returns-else-is_none c =
    let there : is_word c.args.name.now ≡ true = sym (word-there c.args.name.now c.last_word.result c.last_word.ensures) ∙ c.if-is_none.ensures in
    sym (ap (λ b. not b || nat_lt 255 (length c.args.name.now)) there)
