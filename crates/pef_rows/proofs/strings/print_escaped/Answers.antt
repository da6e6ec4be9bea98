-- Each run of plain bytes is sent unchanged, and the byte after it as its character.
use Rattle.std.proofs.Common.{◌≡◌, ◌++◌, List, ℕ, length, sym, ap, ap₂, ◌∙◌, rules}
use Rattle.pef_rows.specs.Strings.{string_text}
use Rattle.pef_ports.proofs.Laws.Sending.{Sends-short, sent-all, sent-nothing, sent-piece, sent-short}
use Rattle.pef_rows.proofs.StringLemmas.{no_text}
use Rattle.pef_rows.proofs.strings.print_escaped.Goals as goal

pub loop-rest-init : goal.loop-rest-init
loop-rest-init g c = sent-nothing (g.W.Sink.stream c.args.out.now) c.args.page.now.items (string_text c.args.name.now)

pub returns-in_err-send : goal.returns-in_err-send
returns-in_err-send g c =
    let first = c.plain_len.ensures.text ∙ ap₂ (λ (t u : List ℕ). t ++ string_text u) (sym c.split_at.ensures.front) (sym c.split_at.ensures.back) in
    Sends-short _ c.from_residual.result _ c.from_residual.ensures.1 (sent-short (string_text c.split_at.result.1.now) c.loop-rest.invariant first c.in_err-send.ensures)

pub returns-in_default : goal.returns-in_default
returns-in_default g c =
    let first = c.plain_len.ensures.text ∙ ap₂ (λ (t u : List ℕ). t ++ string_text u) (sym c.split_at.ensures.front) (sym c.split_at.ensures.back) in
    sent-all (sent-piece (string_text c.split_at.result.1.now) c.loop-rest.invariant first c.in_ok-send.ensures) (no_text c.split_at.result.1.now c.in_default.ensures.cases)

pub returns-in_err-print_byte : goal.returns-in_err-print_byte
returns-in_err-print_byte g c =
    let after = string_text c.in-Some.after.now in
    let first = c.plain_len.ensures.text ∙ ap₂ (λ (t u : List ℕ). t ++ string_text u) (sym c.split_at.ensures.front) (sym c.split_at.ensures.back) in
    Sends-short _ c.from_residual-in_err-print_byte.result _ c.from_residual-in_err-print_byte.ensures.1
    (sent-short after (sent-piece (string_text c.split_at.result.1.now) c.loop-rest.invariant first c.in_ok-send.ensures) (ap string_text c.in-Some.ensures.cases.0) c.in_err-print_byte.ensures)

pub loop-rest-preserved : goal.loop-rest-preserved
loop-rest-preserved g c =
    let after = string_text c.in-Some.after.now in
    let first = c.plain_len.ensures.text ∙ ap₂ (λ (t u : List ℕ). t ++ string_text u) (sym c.split_at.ensures.front) (sym c.split_at.ensures.back) in
    sent-piece after (sent-piece (string_text c.split_at.result.1.now) c.loop-rest.invariant first c.in_ok-send.ensures) (ap string_text c.in-Some.ensures.cases.0) c.in_ok-print_byte.ensures

pub returns : goal.returns
returns g c =
    let rest = c.loop-rest.rest.now in
    let none : length rest ≡ 0 = search rules in
    sent-all c.loop-rest.invariant (no_text rest none)
