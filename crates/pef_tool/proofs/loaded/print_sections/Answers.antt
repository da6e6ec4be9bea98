-- Each section sends its text.
use Rattle.std.proofs.Common.{◌+◌, ◌<◌, ◌++◌, drop, length, map, ap, ◌∙◌, arith}
use Rattle.std.proofs.lemmas.List.{at_drop_more}
use Rattle.cfm_memory.specs.declared.place.Place.{Place}
use Rattle.cfm_prepare.specs.Fragments.{places_of}
use Rattle.pef_ports.proofs.Laws.Sending.{Sends-short, sent-nothing, sent-piece, sent-short}
use Rattle.pef_tool.specs.Fragment.{PlacedSection, placed_section, section_text, sections_text}
use Rattle.pef_tool.proofs.LoadedLemmas.{held-section}
use Rattle.pef_tool.proofs.loaded.print_sections.Goals as goal

abbrev nowhere : Place
nowhere = record { address = 0; size = 0 }

pub loop-i-init : goal.loop-i-init
loop-i-init g c =
    let s = c.args.context.now in
    sent-nothing (g.W.Sink.stream c.args.out.now) c.args.page.now.items (sections_text 0 (map (placed_section s.memory) (places_of s.present c.args.position)))

pub returns-in_err-print_bytes : goal.returns-in_err-print_bytes
returns-in_err-print_bytes g c =
    let at = c.loop-i in
    let s = c.args.context.now in
    let places = places_of s.present c.args.position in
    let show = placed_section s.memory in
    let under : at.i < length places = omega (arith, c.loop-i-test.true, c.section_count-count.ensures) in
    let rest = sections_text (at.i + 1) (map show (drop (at.i + 1) places)) in
    let found = held-section s.memory places at.i nowhere c.in-Some.address c.in-Some.bytes.now under c.in-Some.ensures.section in
    let next = at_drop_more (λ ps. sections_text at.i (map show ps)) places at.i nowhere under ∙ ap (λ (x : PlacedSection). section_text at.i x ++ rest) found in
    Sends-short _ c.from_residual.result _ c.from_residual.ensures.1 (sent-short rest at.invariant next c.in_err-print_bytes.ensures)

pub loop-i-preserved : goal.loop-i-preserved
loop-i-preserved g c =
    let at = c.loop-i in
    let s = c.args.context.now in
    let places = places_of s.present c.args.position in
    let show = placed_section s.memory in
    let under : at.i < length places = omega (arith, c.loop-i-test.true, c.section_count-count.ensures) in
    let rest = sections_text (at.i + 1) (map show (drop (at.i + 1) places)) in
    let found = held-section s.memory places at.i nowhere c.in-Some.address c.in-Some.bytes.now under c.in-Some.ensures.section in
    let next = at_drop_more (λ ps. sections_text at.i (map show ps)) places at.i nowhere under ∙ ap (λ (x : PlacedSection). section_text at.i x ++ rest) found in
    sent-piece rest at.invariant next c.in_ok-print_bytes.ensures
