-- The tables of a loader section, one after the other.
use Rattle.std.proofs.Common.{◌≡◌, ◌∙◌, ◌++◌, Bool, List, ap, map}
use Rattle.pef_words.specs.Findings.{all_met}
use Rattle.pef_views.specs.PartialViews.{partly}
use Rattle.pef_loader.specs.declared.fault.LoaderFault.{LoaderFault}
use Rattle.pef_loader.specs.Loader.{entry_tests}
use Rattle.pef_loader.specs.Partial.{export_table_tests, exports_findings, imports_findings, libraries_findings, relocations_findings, table_tests}
use Rattle.pef_loader.specs.PartialViews.{partly_loaded}
use Rattle.pef_inspect.specs.Findings.{loader_finding}
use Rattle.pef_inspect.proofs.Taking.{tables-parts, taken-two}
use Rattle.pef_inspect.proofs.rows.find_in_tables.Goals as goal

pub returns : goal.returns
returns g c =
    let f = loader_finding (partly c.args.container.now) in
    let l = partly_loaded c.args.loader.now in
    let taken = g.S.Findings.taken in
    let t0 = taken c.args.sink.now in
    let t1 = taken c.take_faults.new.sink in
    let t2 = taken c.find_in_libraries.new.sink in
    let t3 = taken c.find_in_imports.new.sink in
    let t4 = taken c.take_faults-2.new.sink in
    let t5 = taken c.find_in_relocations.new.sink in
    let t6 = taken c.take_faults-3.new.sink in
    let t7 = taken c.find_in_exports.new.sink in
    let tables = map f (all_met (table_tests l)) in
    let libraries = map f (libraries_findings l) in
    let imports = map f (imports_findings l) in
    let entries = map f (all_met (entry_tests l.sections l.header)) in
    let relocs = map f (relocations_findings l) in
    let table = map f (all_met (export_table_tests l)) in
    let exports = map f (exports_findings l) in
    let e1 : t1 ≡ t0 ++ tables = c.in_ok-take_faults.ensures ∙ ap (λ (tests : List (Bool × LoaderFault)). t0 ++ map f (all_met tests)) c.table_tests.ensures in
    let e4 : t4 ≡ t3 ++ entries = c.in_ok-take_faults-2.ensures ∙ ap (λ (tests : List (Bool × LoaderFault)). t3 ++ map f (all_met tests)) c.entry_tests.ensures in
    let e6 : t6 ≡ t5 ++ table = c.in_ok-take_faults-3.ensures ∙ ap (λ (tests : List (Bool × LoaderFault)). t5 ++ map f (all_met tests)) c.export_table_tests.ensures in
    taken-two t0 t1 t7 tables (libraries ++ (imports ++ (entries ++ (relocs ++ (table ++ exports))))) e1
    (taken-two t1 t2 t7 libraries (imports ++ (entries ++ (relocs ++ (table ++ exports)))) c.in_ok-find_in_libraries.ensures
    (taken-two t2 t3 t7 imports (entries ++ (relocs ++ (table ++ exports))) c.in_ok-find_in_imports.ensures
    (taken-two t3 t4 t7 entries (relocs ++ (table ++ exports)) e4
    (taken-two t4 t5 t7 relocs (table ++ exports) c.in_ok-find_in_relocations.ensures
    (taken-two t5 t6 t7 table exports e6 c.in_ok-find_in_exports.ensures)))))
    ∙ ap (λ xs. t0 ++ xs) (tables-parts f (all_met (table_tests l)) (libraries_findings l) (imports_findings l) (all_met (entry_tests l.sections l.header)) (relocations_findings l) (all_met (export_table_tests l)) (exports_findings l))
