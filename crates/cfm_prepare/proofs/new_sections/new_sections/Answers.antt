-- One fragment more.
use Rattle.std.proofs.Common.{◌≡◌, ℕ, List, Some, drop, get_or, ◌++◌, ◌+◌, ◌∙◌, sym}
use Rattle.std.proofs.lemmas.List.{at_drop_more}
use Rattle.cfm_closure.specs.Fragments.{container_at}
use Rattle.pef_views.specs.Views.{contained}
use Rattle.cfm_prepare.specs.NewSections.{new_sections_of}
use Rattle.cfm_prepare.proofs.NewLemmas.{fragments-next}
use Rattle.cfm_prepare.proofs.new_sections.new_sections.Goals as goal

pub loop-position-preserved : goal.loop-position-preserved
loop-position-preserved c =
    let at = c.loop-position in
    let pairs = c.args.closure.now.pairs in
    let g = c.args.granule.bytes in
    let new = c.args.new.now in
    let i = at.position-index in
    let is : container_at pairs (get_or new i 0) ≡ Some (contained c.container.result) = c.container.ensures in
    let whole = at_drop_more (λ (ps : List ℕ). at.sections.items ++ new_sections_of pairs g ps) new i 0 c.loop-position-test.true in
    fragments-next pairs g (get_or new i 0) (contained c.container.result) (drop (i + 1) new) at.sections.items c.append.new.sections.items (new_sections_of pairs g new) is c.in_ok-append.ensures (sym whole ∙ at.invariant)
