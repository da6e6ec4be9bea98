-- There is room for the names, and the entries are those of the tables.
use Rattle.std.proofs.Common.{◌∙◌, ◌++◌, length, length-append, map, ap, ap₂, arith}
use Rattle.pef_script.specs.Script.{import_names, library_names}
use Rattle.pef_write.specs.Fields.{spelled}
use Rattle.pef_write.specs.Linked.{libraries_from}
use Rattle.pef_write.specs.Loaders.{library_fields, zero_ended}
use Rattle.pef_write.specs.Kept.Views.{program_entry}
use Rattle.pef_write.proofs.GatherLemmas.{entries_are}
use Rattle.pef_write.proofs.loader.put_entries.Goals as goal

pub put_libraries-requires-clause-strings : goal.put_libraries-requires-clause-strings
put_libraries-requires-clause-strings c =
    let s = c.args.script.now in
    omega (arith, ap length c.requires.first.1, length-append (zero_ended (library_names s)) (zero_ended (import_names s)))

pub put_imports-requires-clause-strings : goal.put_imports-requires-clause-strings
put_imports-requires-clause-strings c =
    let s = c.args.script.now in
    let names = c.in_ok-put_libraries.ensures.names ∙ ap (λ z. z ++ zero_ended (library_names s)) c.requires.first.1 in
    omega (arith, ap length names, length-append (zero_ended (library_names s)) (zero_ended (import_names s)))

pub returns-clause-entries : goal.returns-clause-entries
returns-clause-entries c =
    let s = c.args.script.now in
    let libraries = c.in_ok-put_libraries.ensures.names ∙ ap (λ z. z ++ zero_ended (library_names s)) c.requires.first.1 in
    let first = c.in_ok-put_libraries.ensures.entries ∙ ap₂ (λ z n. z ++ spelled (library_fields n (libraries_from s.imports 0 s.libraries))) c.requires.first.0 (ap length c.requires.first.1) in
    entries_are s (map program_entry c.args.programs.now) c.put_libraries.new.strings.items c.put_libraries.new.out.items c.put_imports.new.out.items c.put_relocations.new.out.items libraries first c.in_ok-put_imports.ensures.entries c.in_ok-put_relocations.ensures

pub returns-clause-names : goal.returns-clause-names
returns-clause-names c =
    let s = c.args.script.now in
    let libraries = c.in_ok-put_libraries.ensures.names ∙ ap (λ z. z ++ zero_ended (library_names s)) c.requires.first.1 in
    c.in_ok-put_imports.ensures.names ∙ ap (λ z. z ++ zero_ended (import_names s)) libraries
