-- Each character sends its units.
use Rattle.std.proofs.Common.{ap, length, List, ℕ, [], ◌∷◌, ◌≡◌, refl}
use Rattle.std.specs.Str.{chars}
use Rattle.pef_rows.specs.Unicode.{characters_string}
use Rattle.pef_rows.proofs.UnicodeLemmas.{next_character}
use Rattle.pef_ports.proofs.Laws.Sending.{Sends-short, sent-all, sent-nothing, sent-piece, sent-short}
use Rattle.pef_rows.proofs.unicode.print_characters.Goals as goal

pub loop-c-init : goal.loop-c-init
loop-c-init g c = rw (c.into_iter-c-iterator.ensures.into_iter_gives, c.chars-c-items.ensures.rest) record {
  sent = sent-nothing (g.W.Sink.stream c.args.out.now) c.args.page.now.items (characters_string (chars c.args.text.now));
  utf8 = c.utf8.text;
}

pub loop-c-preserved : goal.loop-c-preserved
loop-c-preserved g c =
    let next = next_character _ _ _ c.loop-c.invariant.utf8 c.in-Some.ensures.steps.0 c.in-Some.ensures.steps.2 in
    record {
      sent = sent-piece _ c.loop-c.invariant.sent (ap characters_string next.chars_are) c.in_ok-print_character.ensures;
      utf8 = next.utf8;
    }

pub returns-in_err-print_character : goal.returns-in_err-print_character
returns-in_err-print_character g c =
    let next = next_character _ _ _ c.loop-c.invariant.utf8 c.in-Some.ensures.steps.0 c.in-Some.ensures.steps.2 in
    Sends-short _ c.from_residual.result _ c.from_residual.ensures.1 (sent-short _ c.loop-c.invariant.sent (ap characters_string next.chars_are) c.in_err-print_character.ensures)

none-left : (rest : List ℕ) → length rest ≡ 0 → characters_string (chars rest) ≡ []
unfolding chars
none-left [] none = refl
none-left (b ∷ rest) none = absurd (cc)

pub returns : goal.returns
returns g c = sent-all c.loop-c.invariant.sent (none-left _ c.in-None.ensures.steps.0.0)
