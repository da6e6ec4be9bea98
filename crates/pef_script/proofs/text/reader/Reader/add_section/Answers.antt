-- The name is new.
use Rattle.std.proofs.Common.{◌≡◌, List, false, is_some, sym, subst, ap, ◌∙◌}
use Rattle.std.specs.List.{IsDistinct}
use Rattle.std.specs.Str.{bytes_eq}
use Rattle.pef_script.specs.Script.{DescribedSection}
use Rattle.pef_script.specs.Text.SoFar.{is_repeated, number_of_name}
use Rattle.pef_script.proofs.TextProofs.Growing.{new_name}
use Rattle.pef_script.proofs.TextProofs.ListLemmas.{distinct_with, names_of}
use Rattle.pef_script.proofs.text.reader.Reader.add_section.Goals as goal

pub invariant_of-self-2-clause-distinct : goal.invariant_of-self-2-clause-distinct
invariant_of-self-2-clause-distinct c =
    let sections = c.args.self.now.sections.items in
    let name = c.args.header.name.now in
    let isnt : is_repeated (names_of sections) name ≡ false =
    ap (λ (s : List DescribedSection). is_repeated (names_of s) name) (sym c.deref.ensures.value)
    ∙ ap is_some (sym c.section_number.ensures.found) ∙ sym c.is_some.ensures ∙ c.if-is_some.false in
    let same = ap (λ (s : DescribedSection). number_of_name (names_of sections) s.header.name) c.new-section.ensures in
    subst (λ (s : List DescribedSection). IsDistinct bytes_eq (names_of s)) (sym c.in_ok-push.ensures.items)
    (distinct_with sections c.new-section.result c.args.self.now.distinct (same ∙ new_name (names_of sections) name isnt))
