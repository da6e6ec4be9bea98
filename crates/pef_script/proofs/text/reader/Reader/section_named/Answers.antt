-- The section that has the name is the only one.
use Rattle.std.proofs.Common.{◌≡◌, List, true, sym, ap, ◌∙◌, arith}
use Rattle.std.specs.Option.{ok_or}
use Rattle.pef_script.specs.declared.text.fault.LineFault.TheVariants.{UnknownName}
use Rattle.pef_script.specs.Script.{DescribedSection}
use Rattle.pef_script.proofs.TextProofs.ListLemmas.{is_named, named_is_number, named_is_there}
use Rattle.pef_script.proofs.text.reader.Reader.section_named.Goals as goal

pub returns-then-is_named-clause-found : goal.returns-then-is_named-clause-found
returns-then-is_named-clause-found c =
    let sections = c.args.self.now.sections.items in
    let named : is_named sections c.args.likely c.args.name.now ≡ true =
    ap (λ (s : List DescribedSection). is_named s c.args.likely c.args.name.now) (sym c.deref.ensures.value) ∙ sym c.is_named.ensures ∙ c.if-is_named.true in
    sym (ap (λ found. ok_or found (UnknownName c.args.at)) (named_is_number sections c.args.likely c.args.name.now c.args.self.now.distinct named))

pub returns-then-is_named-clause-below : goal.returns-then-is_named-clause-below
returns-then-is_named-clause-below c =
    let sections = c.args.self.now.sections.items in
    let named : is_named sections c.args.likely c.args.name.now ≡ true =
    ap (λ (s : List DescribedSection). is_named s c.args.likely c.args.name.now) (sym c.deref.ensures.value) ∙ sym c.is_named.ensures ∙ c.if-is_named.true in
    let there = named_is_there sections c.args.likely c.args.name.now named in
    omega (arith, there, c.args.self.now.sections.ok.0)
