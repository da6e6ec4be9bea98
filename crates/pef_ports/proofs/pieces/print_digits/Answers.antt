-- The digits are those of the bytes of the number.
use Rattle.std.proofs.Common.{◌≡◌, List, ℕ, ◌++◌, subst, ap, ap₂, ◌∙◌}
use Rattle.byteorder.specs.Endian.{big_bytes}
use Rattle.pef_ports.specs.Sent.{Sends}
use Rattle.pef_ports.specs.Text.{digits_text, hex_text, without_zeros}
use Rattle.pef_ports.proofs.pieces.print_digits.Goals as goal

pub returns : goal.returns
unfolding digits_text
returns g c =
    let stream = g.W.Sink.stream in
    let digits : c.as_slice.result.now ≡ hex_text (big_bytes 8 c.args.n) = c.as_slice.ensures.value ∙ c.push_hex.ensures.text ∙ ap₂ (λ (a : List ℕ) (b : List ℕ). a ++ hex_text b) c.new-digits.ensures c.to_be_bytes.ensures in
    let P : List ℕ → Type 0 = λ text. Sends c.send.result (stream c.args.out.now) (stream c.send.new.out) c.args.page.now.items c.send.new.page.items text in
    subst P (c.without_zeros.ensures ∙ ap without_zeros digits) c.send.ensures
