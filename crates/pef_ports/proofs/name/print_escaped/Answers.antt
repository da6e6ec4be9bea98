-- Each run of plain bytes is sent unchanged, and the byte after it as its text.
use Rattle.std.proofs.Common.{◌≡◌, ◌++◌, List, ℕ, length, sym, ap, ap₂, ◌∙◌, rules}
use Rattle.pef_ports.specs.Names.{name_text}
use Rattle.pef_ports.proofs.Laws.Sending.{Sends-short, sent-all, sent-nothing, sent-piece, sent-short}
use Rattle.pef_ports.proofs.NameLemmas.{no_text}
use Rattle.pef_ports.proofs.name.print_escaped.Goals as goal

pub loop-rest-init : goal.loop-rest-init
loop-rest-init g c = sent-nothing (g.W.Sink.stream c.args.out.now) c.args.page.now.items (name_text c.args.name.now)

pub returns-in_err-send : goal.returns-in_err-send
returns-in_err-send g c =
    let first = c.plain_len.ensures.text ∙ ap₂ (λ (t u : List ℕ). t ++ name_text u) (sym c.split_at.ensures.front) (sym c.split_at.ensures.back) in
    Sends-short _ c.from_residual.result _ c.from_residual.ensures.1 (sent-short (name_text c.split_at.result.1.now) c.loop-rest.invariant first c.in_err-send.ensures)

pub returns-in_default : goal.returns-in_default
returns-in_default g c =
    let first = c.plain_len.ensures.text ∙ ap₂ (λ (t u : List ℕ). t ++ name_text u) (sym c.split_at.ensures.front) (sym c.split_at.ensures.back) in
    sent-all (sent-piece (name_text c.split_at.result.1.now) c.loop-rest.invariant first c.in_ok-send.ensures) (no_text c.split_at.result.1.now c.in_default.ensures.cases)

pub returns-in_err-send-2 : goal.returns-in_err-send-2
returns-in_err-send-2 g c =
    let others = c.split_at.result.1.now in
    let after = name_text c.in-Some.after.now in
    let first = c.plain_len.ensures.text ∙ ap₂ (λ (t u : List ℕ). t ++ name_text u) (sym c.split_at.ensures.front) (sym c.split_at.ensures.back) in
    let byte = c.as_slice.ensures.value ∙ c.byte_text.ensures in
    let second : name_text others ≡ c.as_slice.result.now ++ after = ap name_text c.in-Some.ensures.cases.0 ∙ ap (λ (t : List ℕ). t ++ after) (sym byte) in
    Sends-short _ c.from_residual-in_err-send-2.result _ c.from_residual-in_err-send-2.ensures.1
    (sent-short after (sent-piece (name_text others) c.loop-rest.invariant first c.in_ok-send.ensures) second c.in_err-send-2.ensures)

pub loop-rest-preserved : goal.loop-rest-preserved
loop-rest-preserved g c =
    let others = c.split_at.result.1.now in
    let after = name_text c.in-Some.after.now in
    let first = c.plain_len.ensures.text ∙ ap₂ (λ (t u : List ℕ). t ++ name_text u) (sym c.split_at.ensures.front) (sym c.split_at.ensures.back) in
    let byte = c.as_slice.ensures.value ∙ c.byte_text.ensures in
    let second : name_text others ≡ c.as_slice.result.now ++ after = ap name_text c.in-Some.ensures.cases.0 ∙ ap (λ (t : List ℕ). t ++ after) (sym byte) in
    sent-piece after (sent-piece (name_text others) c.loop-rest.invariant first c.in_ok-send.ensures) second c.in_ok-send-2.ensures

pub returns : goal.returns
returns g c =
    let rest = c.loop-rest.rest.now in
    let none : length rest ≡ 0 = search rules in
    sent-all c.loop-rest.invariant (no_text rest none)
