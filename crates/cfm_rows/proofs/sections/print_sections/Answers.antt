-- Each section sends its object.
use Rattle.std.proofs.Common.{◌<◌, ◌≤◌, ◌==◌, ◌++◌, ℕ, List, Option, length, ap₂, arith}
use Rattle.std.proofs.lemmas.List.{at_drop_all}
use Rattle.cfm_prepare.specs.Fragments.{places_of}
use Rattle.pef_ports.proofs.Laws.Sending.{Sends-short, same_printed, same_short, sent-all, sent-nothing, sent-piece, sent-short}
use Rattle.pef_rows.specs.Objects.{separator}
use Rattle.pef_views.specs.declared.section.SectionHeader.{SectionHeader}
use Rattle.cfm_rows.specs.Sections.{bytes_shown, section_elements, section_object, sections_list}
use Rattle.cfm_rows.proofs.SectionLemmas.{sections-more}
use Rattle.cfm_rows.proofs.sections.print_sections.Goals as goal

pub loop-i-init : goal.loop-i-init
loop-i-init g c = sent-nothing (g.W.Sink.stream c.args.out.now) c.args.page.now.items (sections_list c.args.context.now c.args.place.connection.0 c.args.place.position (bytes_shown c.args.shown))

pub loop-i-preserved : goal.loop-i-preserved
loop-i-preserved g c =
    let s = c.args.context.now in
    let place = c.args.place in
    let shown = bytes_shown c.args.shown in
    let i = c.loop-i.i in
    let places = places_of s.present place.position in
    let x : ℕ × List ℕ = (c.in-Some.address, c.in-Some.bytes.now) in
    let under : i < length places = omega (arith, c.loop-i-test.true, c.section_count-i-end.ensures) in
    let next = sections-more s place.connection.0 place.position shown places i x under c.in-Some.ensures.section in
    let header = ap₂ (λ (n : List ℕ) (h : Option SectionHeader). separator (i == 0) ++ section_object n i h x.0 x.1 shown) c.name_of-fragment.ensures c.fragment_section_header.ensures in
    sent-piece _ c.loop-i.invariant next (same_printed header c.in_ok-print_element.ensures)

pub returns-in_err-print_element : goal.returns-in_err-print_element
returns-in_err-print_element g c =
    let s = c.args.context.now in
    let place = c.args.place in
    let shown = bytes_shown c.args.shown in
    let i = c.loop-i.i in
    let places = places_of s.present place.position in
    let x : ℕ × List ℕ = (c.in-Some.address, c.in-Some.bytes.now) in
    let under : i < length places = omega (arith, c.loop-i-test.true, c.section_count-i-end.ensures) in
    let next = sections-more s place.connection.0 place.position shown places i x under c.in-Some.ensures.section in
    let header = ap₂ (λ (n : List ℕ) (h : Option SectionHeader). separator (i == 0) ++ section_object n i h x.0 x.1 shown) c.name_of-fragment.ensures c.fragment_section_header.ensures in
    Sends-short _ c.from_residual.result _ c.from_residual.ensures.1 (sent-short _ c.loop-i.invariant next (same_short header c.in_err-print_element.ensures))

pub returns : goal.returns
returns g c =
    let s = c.args.context.now in
    let place = c.args.place in
    let shown = bytes_shown c.args.shown in
    let places = places_of s.present place.position in
    let past : length places ≤ c.loop-i.i = omega (arith, c.loop-i-test.false, c.section_count-i-end.ensures) in
    sent-all c.loop-i.invariant (at_drop_all (section_elements s place.connection.0 place.position shown c.loop-i.i) places c.loop-i.i past)
