-- The notes on the header, on the sections, and on the loader section.
use Rattle.std.proofs.Common.{◌≡◌, ◌∙◌, ◌++◌, Bool, List, ap}
use Rattle.pef_words.specs.Findings.{all_among, all_met}
use Rattle.pef_views.specs.declared.header.Header.{Header}
use Rattle.pef_views.specs.Partial.{sections_allowed}
use Rattle.pef_views.specs.PartialViews.{partly}
use Rattle.pef_loader.specs.Partial.{partial_of}
use Rattle.pef_inspect.specs.declared.finding.Finding.{Finding}
use Rattle.pef_inspect.specs.Oddities.{behind_notes, header_notes, section_row}
use Rattle.pef_inspect.proofs.Taking.{taken-two}
use Rattle.pef_inspect.proofs.notes.find_in_container.Goals as goal

pub returns : goal.returns
returns g c =
    let p = partly c.args.container.now in
    let taken = g.S.Findings.taken in
    let t0 = taken c.args.sink.now in
    let t1 = taken c.take_met.new.sink in
    let t2 = taken c.take_rows.new.sink in
    let t3 = taken c.find_behind.new.sink in
    let behind = c.in_ok-find_behind.ensures in
    let header = all_met (header_notes p) in
    let sections = all_among (section_row p) 0 p.header.section_count in
    let rest = behind_notes c.args.limits p (partial_of (sections_allowed p) p.loader) behind.answer in
    let e1 : t1 ≡ t0 ++ header = c.in_ok-take_met.ensures ∙ ap (λ (tests : List (Bool × Finding)). t0 ++ all_met tests) c.header_notes.ensures in
    let e2 : t2 ≡ t1 ++ sections = c.in_ok-take_rows.ensures ∙ ap (λ n. t1 ++ all_among (section_row p) 0 n) (c.from-count.ensures ∙ ap (λ (h : Header). h.section_count) c.header.ensures) in
    record {
      answer = behind.answer;
      exact = behind.exact;
      taken = taken-two t0 t1 t3 header (sections ++ rest) e1 (taken-two t1 t2 t3 sections rest e2 behind.taken);
    }
