use Rattle.std.proofs.Common.{◌+◌, ◌*◌, ◌<◌, length, subst, sym}
use Rattle.pef_plan.proofs.RunsProofs.PlaceLemmas.{place_under}
use Rattle.pef_plan.proofs.runs.suffix.SolvedSuffix.place.Goals as goal

pub returns-clause-inside : goal.returns-clause-inside
returns-clause-inside c =
    let r = length c.args.self.registers.now + 1 in
    subst (λ n. c.args.c * n + c.args.d < r * r) (sym c.classes.ensures) (place_under r c.args.c c.args.d c.requires.c c.requires.d)
