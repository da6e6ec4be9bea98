use Rattle.std.proofs.Common.{◌≡◌, take}
use Rattle.cfm_memory.specs.Extents.{rule_after}
use Rattle.cfm_prepare.specs.Kept.Begun.{HavePlacedWith}
use Rattle.cfm_prepare.specs.Kept.Ready.{place_count}
use Rattle.cfm_sections.specs.Rules.{rule_of}
use Rattle.cfm_prepare.proofs.preparation.Preparation.place.Given as goal

abbrev pub invariant-loop-position : goal.invariant-loop-position
invariant-loop-position l = (all : HavePlacedWith (rule_of l.self.rule) l.self.closure.now.pairs l.fn.memory l.fn.present.items (take l.position-index l.self.new.now) l.present.items l.memory) × (rule_of l.rule ≡ rule_after (rule_of l.self.rule) (place_count all.have.fresh))
