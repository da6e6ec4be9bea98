use Rattle.pef_cert.proofs.RegisterLemmas.{not_rising, not_used, registers-say}
use Rattle.pef_cert.proofs.registers.registers_hold.Goals as goal

pub returns-then-not-are_rising : goal.returns-then-not-are_rising
returns-then-not-are_rising c = not_rising c.args.fixups.now c.args.registers.now c.if-not-are_rising.ensures

pub returns-then-not-all_used : goal.returns-then-not-all_used
returns-then-not-all_used c = not_used c.args.fixups.now c.args.registers.now c.if-not-all_used.ensures

pub returns : goal.returns
returns c = registers-say c.args.fixups.now c.args.registers.now c.all_registered.result c.if-not-are_rising.ensures c.if-not-all_used.ensures c.all_registered.ensures
