-- The notes on the tables of a loader section, one after the other.
use Rattle.std.proofs.Common.{◌≡◌, ◌∙◌, ◌++◌, Bool, List, ap}
use Rattle.std.specs.Option.{option_to_list}
use Rattle.pef_words.specs.Findings.{all_among, all_met}
use Rattle.pef_views.specs.PartialViews.{partly}
use Rattle.pef_loader.specs.Header.{library_place, relocs_from}
use Rattle.pef_loader.specs.Partial.{exports_in, rows_in}
use Rattle.pef_loader.specs.PartialViews.{partly_loaded}
use Rattle.pef_inspect.specs.declared.finding.Finding.{Finding}
use Rattle.pef_inspect.specs.Oddities.{entry_notes, export_row, library_row, relocation_row, runs_reached, word_note}
use Rattle.pef_inspect.proofs.Taking.{taken-two}
use Rattle.pef_inspect.proofs.notes.find_in_loader.Goals as goal

pub returns : goal.returns
returns g c =
    let p = partly c.args.container.now in
    let l = partly_loaded c.args.loader.now in
    let taken = g.S.Findings.taken in
    let t0 = taken c.args.sink.now in
    let t1 = taken c.take_rows.new.sink in
    let t2 = taken c.take_met.new.sink in
    let t3 = taken c.take_rows-2.new.sink in
    let t4 = taken c.take_rows-3.new.sink in
    let t5 = taken c.take_rows-4.new.sink in
    let libraries = all_among (library_row p l) 0 (rows_in l (library_place 0) 24 l.header.library_count) in
    let entries = all_met (entry_notes p l) in
    let relocs = all_among (relocation_row p l) 0 (rows_in l (relocs_from l.header) 12 l.header.reloc_count) in
    let exports = all_among (export_row p l) 0 (exports_in l) in
    let words = all_among (λ k. option_to_list (word_note p l k)) 0 (runs_reached c.args.limits p l) in
    let e1 : t1 ≡ t0 ++ libraries = c.in_ok-take_rows.ensures ∙ ap (λ n. t0 ++ all_among (library_row p l) 0 n) c.libraries-libraries.ensures.value in
    let e2 : t2 ≡ t1 ++ entries = c.in_ok-take_met.ensures ∙ ap (λ (tests : List (Bool × Finding)). t1 ++ all_met tests) c.entry_notes.ensures in
    let e3 : t3 ≡ t2 ++ relocs = c.in_ok-take_rows-2.ensures ∙ ap (λ n. t2 ++ all_among (relocation_row p l) 0 n) c.relocations-relocations.ensures.value in
    let e4 : t4 ≡ t3 ++ exports = c.in_ok-take_rows-3.ensures ∙ ap (λ n. t3 ++ all_among (export_row p l) 0 n) c.exports-exports.ensures.value in
    let e5 : t5 ≡ t4 ++ words = c.in_ok-take_rows-4.ensures ∙ ap (λ n. t4 ++ all_among (λ k. option_to_list (word_note p l k)) 0 n) c.runs_within-programs.ensures.value in
    taken-two t0 t1 t5 libraries (entries ++ (relocs ++ (exports ++ words))) e1
    (taken-two t1 t2 t5 entries (relocs ++ (exports ++ words)) e2
    (taken-two t2 t3 t5 relocs (exports ++ words) e3
    (taken-two t3 t4 t5 exports words e4 e5)))
