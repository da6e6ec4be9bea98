-- A byte is printed unchanged, or as `%` and two digits.
use Rattle.std.proofs.Common.{◌/◌, ◌∷◌, ◌∙◌, [], List, ap, sym, ℕ}
use Rattle.pef_ports.specs.Text.{hex_digit}
use Rattle.pef_tool.specs.Kept.Spelling.{after}
use Rattle.pef_tool.proofs.SpellingLemmas.{byte-escaped, byte-plain}
use Rattle.pef_tool.proofs.spelling.after_printed.Goals as goal

pub returns-then-is_plain_byte : goal.returns-then-is_plain_byte
returns-then-is_plain_byte c =
    let text = c.args.text.now in
    c.after_all.ensures
    ∙ ap (λ (n : ℕ). after (n ∷ []) text) c.from.ensures
    ∙ ap (λ (bytes : List ℕ). after bytes text) (sym (byte-plain c.args.b c.if-is_plain_byte.ensures))

pub returns-else-is_plain_byte : goal.returns-else-is_plain_byte
returns-else-is_plain_byte c =
    let text = c.args.text.now in
    let high = c.hex_digit.ensures in
    let low = c.hex_digit-else-is_plain_byte.ensures in
    c.after_all-else-is_plain_byte.ensures
    ∙ ap (λ (n : ℕ). after (n ∷ c.hex_digit.result ∷ c.hex_digit-else-is_plain_byte.result ∷ []) text) c.from-else-is_plain_byte.ensures
    ∙ ap (λ (n : ℕ). after (37 ∷ n ∷ c.hex_digit-else-is_plain_byte.result ∷ []) text) high
    ∙ ap (λ (n : ℕ). after (37 ∷ hex_digit (c.args.b / 16) ∷ n ∷ []) text) low
    ∙ ap (λ (bytes : List ℕ). after bytes text) (sym (byte-escaped c.args.b c.if-is_plain_byte.ensures))
