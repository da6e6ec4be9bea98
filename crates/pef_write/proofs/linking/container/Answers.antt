-- The bytes written are the container of the script.
use Rattle.std.proofs.Common.{◌∙◌, ◌<◌, ◌^◌, length, map, ap, ap₂, subst, sym, arith}
use Rattle.std.proofs.lemmas.List.{length-map}
use Rattle.pef_script.specs.declared.parts.Versions.{Versions}
use Rattle.pef_write.specs.Containers.{written_container}
use Rattle.pef_write.specs.Linked.{script_tables}
use Rattle.pef_write.specs.Loaders.{strings_of, written_loader}
use Rattle.pef_write.specs.Kept.Views.{program_entry}
use Rattle.pef_write.proofs.linking.container.Goals as goal

pub section_programs-requires : goal.section_programs-requires
section_programs-requires c = omega (arith, length-map c.args.programs.now (λ p. p.items), c.requires.few)

pub write_loader-requires-clause-fits : goal.write_loader-requires-clause-fits
write_loader-requires-clause-fits c =
    let own = ap (map program_entry) c.deref.ensures.value ∙ c.in_ok-own.ensures in
    subst (λ programs. length (written_loader (script_tables c.args.script.now programs)) < 2 ^ 32) (sym own) c.requires.loader

pub write_loader-requires-clause-strings : goal.write_loader-requires-clause-strings
write_loader-requires-clause-strings c =
    let own = ap (map program_entry) c.deref.ensures.value ∙ c.in_ok-own.ensures in
    subst (λ programs. length (strings_of (script_tables c.args.script.now programs)) < 2 ^ 24) (sym own) c.requires.strings

pub write_container-requires-clause-fits : goal.write_container-requires-clause-fits
write_container-requires-clause-fits c =
    let own = ap (map program_entry) c.deref.ensures.value ∙ c.in_ok-own.ensures in
    let loader = c.deref-3.ensures.value ∙ c.in_ok-loader.ensures ∙ ap (λ programs. written_loader (script_tables c.args.script.now programs)) own in
    let sections = c.deref-2.ensures.value ∙ c.in_ok-sections.ensures in
    let whole = ap (λ (versions : Versions). written_container versions c.deref-2.result.now c.deref-3.result.now) c.versions-versions.ensures ∙ ap₂ (written_container c.args.script.now.versions) sections loader in
    omega (arith, ap length whole, c.requires.container)

pub returns : goal.returns
returns c =
    let own = ap (map program_entry) c.deref.ensures.value ∙ c.in_ok-own.ensures in
    let loader = c.deref-3.ensures.value ∙ c.in_ok-loader.ensures ∙ ap (λ programs. written_loader (script_tables c.args.script.now programs)) own in
    let sections = c.deref-2.ensures.value ∙ c.in_ok-sections.ensures in
    c.in_ok-write_container.ensures ∙ ap (λ (versions : Versions). written_container versions c.deref-2.result.now c.deref-3.result.now) c.versions-versions.ensures ∙ ap₂ (written_container c.args.script.now.versions) sections loader
