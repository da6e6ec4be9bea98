-- The programs left decide.
use Rattle.std.proofs.Common.{◌≡◌, ◌-◌}
use Rattle.pef_words.specs.Refusals.{first_among}
use Rattle.pef_loader.specs.Views.{loaded}
use Rattle.pef_views.specs.Views.{contained}
use Rattle.pef_listing.specs.Listed.{program_refusal, programs_fault}
use Rattle.pef_listing.proofs.listing.test_programs.Given as goal

abbrev pub invariant-loop-k : goal.invariant-loop-k
invariant-loop-k l =
    first_among (program_refusal (contained l.container) (loaded l.loader)) l.k ((loaded l.loader).header.reloc_count - l.k) ≡ programs_fault (contained l.container) (loaded l.loader)
