use Rattle.std.proofs.Common.{arith, inl, inr, sym, ◌∙◌, ◌≡◌, length}
use Rattle.pef_ports.proofs.TextLemmas.{dump_text-last}
use Rattle.pef_ports.proofs.dump.print_rows.Goals as goal

pub returns-else-bytes-eq-FOUR_ROWS : goal.returns-else-bytes-eq-FOUR_ROWS
returns-else-bytes-eq-FOUR_ROWS g c =
    let other = c.if-bytes-eq-FOUR_ROWS.false in
    let one : length c.args.bytes.now ≡ 16 = elim c.requires.rows [ inl one ↦ one | inr four ↦ absurd (other four) ] in
    rw (dump_text-last c.args.address c.args.bytes.now (omega (arith, one)) (omega (arith, one)) ∙ sym c.full_row.ensures) c.send.ensures
