-- A name ends before the end of the bytes.
use Rattle.std.proofs.Common.{◌∙◌, sym, ap, rules}
use Rattle.pef_words.specs.Bytes.{name_at}
use Rattle.pef_inspect.proofs.ExtentLemmas.{name_at-inside}
use Rattle.pef_inspect.proofs.extents.name_end.Goals as goal

pub overflow_add-result : goal.overflow_add-result
overflow_add-result c =
    let inside = name_at-inside c.args.bytes.now c.args.from c.in_ok-name.name.now (ap (λ bytes. name_at bytes c.args.from) (sym c.new.ensures) ∙ sym c.in_ok-name.ensures) in
    search rules

pub overflow_add-result-2 : goal.overflow_add-result-2
overflow_add-result-2 c =
    let inside = name_at-inside c.args.bytes.now c.args.from c.in_ok-name.name.now (ap (λ bytes. name_at bytes c.args.from) (sym c.new.ensures) ∙ sym c.in_ok-name.ensures) in
    search rules
