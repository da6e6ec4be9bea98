-- The tables, one after the other.
use Rattle.std.proofs.Common.{◌≡◌, ◌∙◌, ◌++◌, ap}
use Rattle.pef_views.specs.PartialViews.{partly}
use Rattle.pef_loader.specs.PartialViews.{partly_loaded}
use Rattle.pef_inspect.specs.Zeros.{exports, imports, libraries, relocations, zero_notes, zero_rows}
use Rattle.pef_inspect.specs.declared.zeros.Table.{Table}
use Rattle.pef_inspect.proofs.Taking.{taken-two}
use Rattle.pef_inspect.proofs.zeros.find_zero_rows.Goals as goal

pub returns : goal.returns
unfolding zero_notes
returns g c =
    let p = partly c.args.container.now in
    let l = partly_loaded c.args.loader.now in
    let taken = g.S.Findings.taken in
    let t0 = taken c.args.sink.now in
    let t1 = taken c.find_in_table.new.sink in
    let t2 = taken c.find_in_table-2.new.sink in
    let t3 = taken c.find_in_table-3.new.sink in
    let t4 = taken c.find_in_table-4.new.sink in
    let a = zero_rows p (libraries l) in
    let b = zero_rows p (imports l) in
    let d = zero_rows p (relocations l) in
    let e = zero_rows p (exports l) in
    let e1 : t1 ≡ t0 ++ a = c.in_ok-find_in_table.ensures ∙ ap (λ (t : Table). t0 ++ zero_rows p t) c.libraries.ensures in
    let e2 : t2 ≡ t1 ++ b = c.in_ok-find_in_table-2.ensures ∙ ap (λ (t : Table). t1 ++ zero_rows p t) c.imports.ensures in
    let e3 : t3 ≡ t2 ++ d = c.in_ok-find_in_table-3.ensures ∙ ap (λ (t : Table). t2 ++ zero_rows p t) c.relocations.ensures in
    let e4 : t4 ≡ t3 ++ e = c.in_ok-find_in_table-4.ensures ∙ ap (λ (t : Table). t3 ++ zero_rows p t) c.exports.ensures in
    taken-two t0 t1 t4 a (b ++ (d ++ e)) e1 (taken-two t1 t2 t4 b (d ++ e) e2 (taken-two t2 t3 t4 d e e3 e4))
