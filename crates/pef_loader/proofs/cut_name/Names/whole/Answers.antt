-- A name that begins before the last zero byte ends at the first one from there on.
use Rattle.std.proofs.Common.{sym, arith}
use Rattle.pef_loader.specs.Kept.Marks.{IsFirstZero}
use Rattle.pef_loader.proofs.MarkLemmas.{ends-inside, name-to, no-name}
use Rattle.pef_loader.proofs.cut_name.Names.whole.Goals.{in-Some, in-None+in_ok-end-in-None}
use Rattle.pef_loader.proofs.cut_name.Names.whole.Goals as goal

pub known_end-requires-clause-inside : goal.known_end-requires-clause-inside
known_end-requires-clause-inside c =
    let inside = ends-inside c.args.self.now.cut.bytes.now c.args.self.now.end c.args.self.now.ended in
    omega (arith, c.if-from-self.false)

pub zero_between-requires-clause-order : goal.zero_between-requires-clause-order
zero_between-requires-clause-order c =
    let inside = ends-inside c.args.self.now.cut.bytes.now c.args.self.now.end c.args.self.now.ended in
    omega (arith, c.if-from-self.false, c.len.ensures)

pub returns-in_err-end-in-None : goal.returns-in_err-end-in-None
returns-in_err-end-in-None c =
    rw c.from_residual.ensures (sym (no-name c.args.self.now.cut.bytes.now c.args.from (λ k low high inside. c.in_err-end-in-None.ensures k low (omega (arith, c.len.ensures)) inside)))

pub returns : goal.returns
returns c =
    let bytes = c.args.self.now.cut.bytes.now in
    let is : IsFirstZero bytes c.args.from c.match-known_end.end = elim c.match-known_end.branch [
      | in-Some w ↦ rw w.end-is w.in-Some.ensures
      | in-None+in_ok-end-in-None w ↦ rw w.end-is w.in_ok-end-in-None.ensures.0
    ] in
    rw c.bytes.ensures (sym (name-to bytes c.args.from c.match-known_end.end is))
