use Rattle.cfm_memory.specs.Extents.{ArePlacedWith}
use Rattle.pef_views.specs.Views.{contained}
use Rattle.cfm_sections.specs.Begun.{placed_at}
use Rattle.cfm_sections.specs.Rules.{rule_of}
use Rattle.cfm_sections.specs.Images.{extents_from}
use Rattle.cfm_sections.proofs.places.place_each.Given as goal

abbrev pub invariant-loop-i : goal.invariant-loop-i
invariant-loop-i l = ArePlacedWith (rule_of l.rule) l.fn.memory (extents_from (contained l.container) 0 l.i) (placed_at (contained l.container)) l.places.items l.memory
