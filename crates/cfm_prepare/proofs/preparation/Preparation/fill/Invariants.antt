use Rattle.std.proofs.Common.{◌≡◌, drop}
use Rattle.cfm_prepare.specs.Fragments.{Present, first_bad_image, section_filled}
use Rattle.cfm_prepare.specs.Kept.Begun.{section_placed}
use Rattle.cfm_prepare.specs.Kept.Ready.{found_in}
use Rattle.cfm_prepare.proofs.StepLemmas.{AreChanged}
use Rattle.cfm_prepare.proofs.preparation.Preparation.fill.Given as goal

abbrev pub invariant-loop-position : goal.invariant-loop-position
invariant-loop-position l =
    (first_bad_image l.self.closure.now.pairs (drop l.position-index (found_in l.present.items l.self.new.now)) ≡ first_bad_image l.self.closure.now.pairs (found_in l.present.items l.self.new.now))
    × AreChanged l.fn.memory l.memory (found_in l.present.items l.self.new.now) (λ (f : Present). section_placed l.self.closure.now.pairs f.position) (λ (f : Present). section_filled l.self.closure.now.pairs f.position) l.position-index
