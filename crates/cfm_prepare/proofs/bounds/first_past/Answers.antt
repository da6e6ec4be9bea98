-- The first for which not enough is left is the one that passes the bound.
use Rattle.cfm_prepare.specs.Fragments.{new_among}
use Rattle.cfm_prepare.specs.Kept.Bounds.{weight_of}
use Rattle.cfm_prepare.proofs.BoundLemmas.{past-some, within-none}
use Rattle.cfm_prepare.proofs.bounds.first_past.Goals as goal

pub returns-in-Some-clause-past : goal.returns-in-Some-clause-past
returns-in-Some-clause-past c =
    past-some c.args.most c.in-Some.most (weight_of c.args.measure c.args.closure.now.pairs) (new_among c.args.present.now.items c.args.closure.now.order) c.first_past_of.result c.in-Some.is c.first_past_of.ensures.first

pub returns-in-Some-clause-within : goal.returns-in-Some-clause-within
returns-in-Some-clause-within c =
    within-none c.args.most c.in-Some.most (weight_of c.args.measure c.args.closure.now.pairs) (new_among c.args.present.now.items c.args.closure.now.order) c.first_past_of.result c.in-Some.is c.first_past_of.ensures.first
