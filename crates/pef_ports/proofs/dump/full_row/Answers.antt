-- The digits of the address and of the four groups, one by one.
use Rattle.std.proofs.Common.{◌≡◌, take, drop, rules}
use Rattle.pef_ports.specs.Text.{hex_text, row_text, word_text}
use Rattle.pef_ports.proofs.TextLemmas.{row_of, row_of-sixteen}
use Rattle.pef_ports.proofs.dump.full_row.Goals as goal

pub returns : goal.returns
returns c =
    let bytes = c.args.bytes.now in
    let at : c.word_digits-at.result ≡ word_text c.args.address = search rules in
    let a : c.word_digits-a.result ≡ hex_text (take 4 bytes) = search rules in
    let b : c.word_digits-b.result ≡ hex_text (take 4 (drop 4 bytes)) = search rules in
    let d : c.word_digits-c.result ≡ hex_text (take 4 (drop 8 bytes)) = search rules in
    let e : c.word_digits-d.result ≡ hex_text (drop 4 (drop 8 bytes)) = search rules in
    let all : row_of c.word_digits-at.result c.word_digits-a.result c.word_digits-b.result c.word_digits-c.result c.word_digits-d.result ≡ row_text c.args.address bytes = rw (at, a, b, d, e) (row_of-sixteen c.args.address bytes c.requires) in
    all
