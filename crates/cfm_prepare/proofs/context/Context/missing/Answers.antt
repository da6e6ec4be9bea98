-- The root is in the store, and what is missing is told or refused there.
use Rattle.std.proofs.Common.{sym}
use Rattle.std.proofs.lemmas.Result.{err_from_is_err_and}
use Rattle.cfm_closure.specs.Faults.{FailsAs}
use Rattle.cfm_closure.specs.Missing.{missing_of}
use Rattle.cfm_prepare.specs.Lacking.{IsRoot}
use Rattle.cfm_prepare.proofs.context.Context.missing.Goals as goal

pub returns-in_err-libraries-clause-refused : goal.returns-in_err-libraries-clause-refused
returns-in_err-libraries-clause-refused c =
    let p = err_from_is_err_and c.from_residual.result c.from_residual.ensures.1 in
    let root : IsRoot c.args.self.now c.args.name.now = record { root = c.in-Some.root; is = rw (← c.self.view_is) (sym c.in-Some.ensures.place) } in
    let fails : FailsAs c.in_err-libraries.field-0.0 (missing_of c.args.self.now.pairs c.in-Some.root) = rw (← c.self.view_is) c.in_err-libraries.ensures.answer in
    rw (p.1, p.2) (root, fails)

pub returns-clause-lacks : goal.returns-clause-lacks
returns-clause-lacks c =
    let root : IsRoot c.args.self.now c.args.name.now = record { root = c.in-Some.root; is = rw (← c.self.view_is) (sym c.in-Some.ensures.place) } in
    record { of = root; is = rw (← c.self.view_is) c.in_ok-libraries.ensures.answer }
