use Rattle.std.proofs.Common.{◌≡◌, drop}
use Rattle.cfm_prepare.specs.Addresses.{first_bad_program, section_of}
use Rattle.cfm_prepare.specs.Fragments.{Present, section_filled}
use Rattle.cfm_prepare.specs.Kept.Ready.{found_in}
use Rattle.cfm_prepare.proofs.StepLemmas.{AreChanged}
use Rattle.cfm_prepare.proofs.preparation.Preparation.relocate.Given as goal

abbrev pub invariant-loop-position : goal.invariant-loop-position
invariant-loop-position l =
    (first_bad_program l.self.closure.now.pairs l.present.items (drop l.position-index (found_in l.present.items l.self.new.now)) ≡ first_bad_program l.self.closure.now.pairs l.present.items (found_in l.present.items l.self.new.now))
    × AreChanged l.fn.memory l.memory (found_in l.present.items l.self.new.now) (λ (f : Present). section_filled l.self.closure.now.pairs f.position) (section_of l.self.closure.now.pairs l.present.items) l.position-index
