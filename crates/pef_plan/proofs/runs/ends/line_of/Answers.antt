use Rattle.std.proofs.Common.{◌∙◌, ◌*◌, ap, arith, drop, take}
use Rattle.std.proofs.lemmas.List.{get_or-drop, get_or-take, length-drop}
use Rattle.std.specs.Prelude.{slice_index}
use Rattle.pef_plan.proofs.RunsProofs.PlaceLemmas.{line_inside}
use Rattle.pef_plan.proofs.runs.ends.line_of.Goals as goal

pub split_at-requires : goal.split_at-requires
split_at-requires c =
    let low = line_inside c.args.classes c.args.class c.requires.class in
    let row = c.requires.row in
    omega (arith, low, row)

pub split_at-requires-2 : goal.split_at-requires-2
split_at-requires-2 c =
    let low = line_inside c.args.classes c.args.class c.requires.class in
    let row = c.requires.row in
    rw c.split_at.ensures.back (let left = length-drop (c.args.class * c.args.classes) c.args.row.now in omega (arith, low, row, left))

pub returns-clause-is : goal.returns-clause-is
returns-clause-is c = λ d under.
    ap (λ line. slice_index line d) (c.split_at-2.ensures.front ∙ ap (take c.args.classes) c.split_at.ensures.back)
    ∙ (get_or-take c.args.classes (drop (c.args.class * c.args.classes) c.args.row.now) d 0 under
    ∙ get_or-drop (c.args.class * c.args.classes) c.args.row.now d 0)
