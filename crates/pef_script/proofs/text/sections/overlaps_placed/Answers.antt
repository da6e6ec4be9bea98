-- The last fixup below the words' end overlaps them if any does.
use Rattle.std.proofs.Common.{◌≡◌, ℕ, ◌+◌, ◌*◌, [], ◌∷◌, ◌++◌, sym, ap, ◌∙◌}
use Rattle.pef_reloc.specs.declared.fixup.Base.{Base}
use Rattle.pef_script.proofs.TextProofs.Offsets.{entries_to, last_to, none_to}
use Rattle.pef_script.proofs.text.sections.overlaps_placed.Goals as goal

pub returns-in-Some : goal.returns-in-Some
returns-in-Some c =
    let es = c.args.bases.now.entries in
    let last : ℕ × Base = (c.in-Some.last.now, c.in-Some.field-0-1.now) in
    let is : entries_to (c.args.offset + 4 * c.args.count) es ≡ c.next_back.new.self ++ last ∷ [] = ap (λ n. entries_to (c.args.offset + 4 * n) es) (sym c.from.ensures) ∙ sym (c.range.ensures.between tt) ∙ c.in-Some.ensures.steps in
    let tells = last_to es c.next_back.new.self last c.args.offset c.args.count c.range.ensures.ordered is in
    rw (c.from-in-Some.ensures, c.from-in-Some-2.ensures, c.from-in-Some-3.ensures) (sym tells)

pub returns-in-None : goal.returns-in-None
returns-in-None c =
    let es = c.args.bases.now.entries in
    let none : entries_to (c.args.offset + 4 * c.args.count) es ≡ [] = ap (λ n. entries_to (c.args.offset + 4 * n) es) (sym c.from.ensures) ∙ sym (c.range.ensures.between tt) ∙ c.in-None.ensures.steps.0 in
    sym (none_to es c.args.offset c.args.count none)
