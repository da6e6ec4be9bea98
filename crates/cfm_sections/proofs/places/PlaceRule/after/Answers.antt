-- The addresses after the first ones, or none.
use Rattle.std.proofs.Common.{ap, drop, ◌∙◌}
use Rattle.std.proofs.lemmas.List.{drop_min}
use Rattle.cfm_memory.specs.Extents.{at_given}
use Rattle.cfm_sections.proofs.places.PlaceRule.after.Goals as goal

pub returns-in-Given : goal.returns-in-Given
returns-in-Given c = rw c.in-Given.is (ap at_given (c.split_at.ensures.back ∙ ap (λ n. drop n c.in-Given.addresses.now) c.min.ensures ∙ drop_min c.args.count c.in-Given.addresses.now))
