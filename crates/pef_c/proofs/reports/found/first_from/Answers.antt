-- The places in the rest, from where it begins.
use Rattle.std.proofs.Common.{◌∙◌, sym, arith}
use Rattle.pef_c.proofs.FoundLemmas.{first_moved, follows, none_moved}
use Rattle.pef_c.proofs.reports.found.first_from.Goals as goal

pub overflow_add-result : goal.overflow_add-result
overflow_add-result c =
    let f = follows _ 0 c.in-Some.place _ (sym c.new.ensures.places ∙ c.in-Some.ensures.steps) in
    omega (arith, f.at_is, f.within)

pub returns-in-Some : goal.returns-in-Some
returns-in-Some c = rw (← c.split_at.ensures.back) (first_moved _ c.args.from c.in-Some.place _ (sym c.new.ensures.places ∙ c.in-Some.ensures.steps))

pub returns-in-None : goal.returns-in-None
returns-in-None c = rw (← c.split_at.ensures.back) (none_moved _ c.args.from (sym c.new.ensures.places ∙ c.in-None.ensures.steps.0))
