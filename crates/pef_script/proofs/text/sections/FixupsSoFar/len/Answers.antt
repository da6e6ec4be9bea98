-- An order has as many fixups as the list.
use Rattle.std.proofs.Common.{◌≡◌, [], length, ap, inl, inr, arith}
use Rattle.pef_script.proofs.TextProofs.Sorting.{length-fold}
use Rattle.pef_script.proofs.text.sections.FixupsSoFar.len.Goals as goal

pub returns-in-Rising-clause-is : goal.returns-in-Rising-clause-is
returns-in-Rising-clause-is c =
    let fixups = c.self.inside.fixups.items in
    elim c.in-Rising.is as (λ _. c.len-in-Rising.result ≡ length c.args.self.now) [
      | inl rising ↦ (let is = ap length (rw rising.1 at c.self.view_is) in omega (arith, is))
      | inr marked ↦ (let is = ap length (rw marked.1 at c.self.view_is) in let as_long = length-fold [] fixups in omega (arith, is, as_long))
    ]
