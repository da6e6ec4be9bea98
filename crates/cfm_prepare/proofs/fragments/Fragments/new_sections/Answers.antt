-- The new fragments are of the closure.
use Rattle.std.proofs.Common.{◌∙◌}
use Rattle.cfm_prepare.proofs.BegunLemmas.{are-members}
use Rattle.cfm_prepare.proofs.fragments.Fragments.new_sections.Goals as goal

pub new_sections-requires : goal.new_sections-requires
new_sections-requires c = are-members c.self.inside.present.items c.order.result.now c.args.closure.now.order c.deref.result.now c.order.ensures.order (c.deref.ensures.value ∙ c.in_ok-new.ensures)
