-- Each byte adds its two digits.
use Rattle.std.proofs.Common.{append_assoc, arith}
use Rattle.pef_ports.proofs.TextLemmas.{hex_text-more}
use Rattle.pef_ports.proofs.line.push_each.Goals as goal

pub loop-b-preserved : goal.loop-b-preserved
loop-b-preserved c = record {
  text = rw (c.push_text.ensures.text, c.loop-b.invariant.text, c.high.ensures, c.low.ensures, hex_text-more c.args.bytes.now c.loop-b.b-index c.loop-b-test.true) (simp append_assoc);
  len = omega (arith, c.push_text.ensures.len, c.loop-b.invariant.len);
}
