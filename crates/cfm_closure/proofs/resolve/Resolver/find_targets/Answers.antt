-- The next import that is refused is the first.
use Rattle.std.proofs.Common.{◌<◌, Ok, Option, sym, ap, ◌∙◌, subst, arith}
use Rattle.std.specs.Result.{result_err}
use Rattle.std.proofs.lemmas.Result.{err_from_is_err_and}
use Rattle.pef_words.specs.Refusals.{unless}
use Rattle.pef_words.proofs.Laws.Refusals.{first_among-here}
use Rattle.cfm_closure.specs.Faults.{FailsAs}
use Rattle.cfm_closure.specs.Fragments.{import_count}
use Rattle.cfm_closure.specs.declared.targets.Target.{Target}
use Rattle.cfm_closure.proofs.PathLemmas.{Fails-also}
use Rattle.cfm_closure.specs.Closures.{import_refusal, imports_refusal}
use Rattle.cfm_closure.specs.Kept.Targets.{Ordered}
use Rattle.cfm_closure.specs.Targets.{target_of}
use Rattle.cfm_closure.proofs.resolve.Resolver.find_targets.Goals as goal

pub returns-in_err-resolve-clause-answer : goal.returns-in_err-resolve-clause-answer
returns-in_err-resolve-clause-answer c =
    let pairs = c.args.bindings.now.pairs in
    let count = c.imports-j-end.ensures in
    let under : c.loop-j.j < import_count pairs c.args.p = omega arith in
    let e = c.in_err-resolve.field-0.0 in
    let fails = subst (λ (o : Ordered). FailsAs {A = Option Target} e (target_of o.pairs c.args.p c.loop-j.j)) c.loop-j.invariant.keeps.same c.in_err-resolve.ensures.answer in
    let p = err_from_is_err_and c.from_residual.result c.from_residual.ensures.1 in
    rw (p.1, p.2) (Fails-also e (target_of pairs c.args.p c.loop-j.j) (unless (imports_refusal pairs c.args.p) (Ok (tt {0})))
    (λ r refused. ap (λ o. unless o (Ok (tt {0})))
    (sym c.loop-j.invariant.rest ∙ first_among-here (import_refusal pairs c.args.p) c.loop-j.j (import_count pairs c.args.p) r under (ap result_err refused)))
    fails)
