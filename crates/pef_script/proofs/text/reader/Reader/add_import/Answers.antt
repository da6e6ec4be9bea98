-- The names of the table are those of the script, and the new one is after the others.
use Rattle.std.proofs.Common.{◌≡◌, not, if◌then◌else◌, Some, None, refl, sym, ap, ◌∙◌, subst}
use Rattle.std.proofs.lemmas.List.{map-append}
use Rattle.pef_words.specs.Refusals.{first_met}
use Rattle.pef_reloc.specs.Limits.{most_imports}
use Rattle.pef_script.specs.declared.text.fault.LineFault.TheVariants.{RepeatedName}
use Rattle.pef_script.specs.Text.Kept.Reader.{so_far}
use Rattle.pef_script.specs.Parts.{import_of, named}
use Rattle.pef_script.specs.Text.SoFar.{counted_name_tests}
use Rattle.pef_script.proofs.TextProofs.TableLemmas.{names_of_imports}
use Rattle.pef_script.proofs.text.reader.Reader.add_import.Goals as goal

pub returns : goal.returns
returns c =
    let s = so_far c.args.self.now in
    let entries = c.args.self.now.parts.imports.entries in
    let is_new = c.if-not-branch.false in
    let fresh = c.in_ok-declare.ensures.new ∙ ap not is_new in
    let unmet = subst (λ names. first_met (counted_name_tests s names most_imports c.args.name.now) ≡ None) (sym (names_of_imports entries))
    (c.in_ok-test_room.ensures.ok ∙ ap (λ repeated. if repeated then Some (RepeatedName 1) else None) fresh) in
    rw (unmet, c.in_ok-declare.ensures.added is_new, map-append (λ e. import_of (named e))) refl
