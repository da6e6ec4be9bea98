use Rattle.std.proofs.Common.{◌+◌, ◌∙◌, ap, arith}
use Rattle.pef_cert.specs.Extension.{extension}
use Rattle.pef_plan.specs.declared.runs.run.Run.TheVariants.{Skip}
use Rattle.pef_plan.proofs.RunsProofs.RunFacts.{one_goes}
use Rattle.pef_plan.proofs.SkipFacts.{skip_unit, skip_worth}
use Rattle.pef_plan.proofs.skips.single_skip.Goals as goal

pub returns-clause-chosen : goal.returns-clause-chosen
returns-clause-chosen c =
    let a = c.args in
    let r = c.requires in
    let n = c.place_after-next.ensures in
    record {
      goes = one_goes a.known a.here (Skip a.words a.section) a.here.first.offset c.place_after-next.result r.here ((r.holds, r.words), r.from) (skip_unit a.here a.words a.section r.base) n.left n.position
          (let e = n.import_index in omega (arith, e)) n.c n.d;
      worth = λ l agrees. skip_worth l a.here c.place_after-next.result c.value-value.result n.left n.position n.c n.d (c.value-value.ensures.is l agrees ∙ ap (λ p. extension l a.here.others.now (p + 4) a.here.place.c a.here.place.d) c.from-position.ensures);
    }
