-- The words of the program rise from the place on.
use Rattle.std.proofs.Common.{ℕ, List, [], ◌∙◌, ap, subst}
use Rattle.std.specs.Option.{option_map_or}
use Rattle.pef_loader.specs.PartialViews.{partly_loaded}
use Rattle.pef_reloc.specs.Left.{fixups_left}
use Rattle.pef_reloc.specs.Traces.{fixups_of}
use Rattle.pef_reloc.specs.declared.verifying.Sizes.{Sizes}
use Rattle.pef_inspect.specs.Kept.Rising.{Follow}
use Rattle.pef_inspect.specs.Twice.{section_at, words_in}
use Rattle.pef_inspect.proofs.RisingLemmas.{follow_rising}
use Rattle.pef_inspect.proofs.twice.Words.end_after.Goals as goal

pub returns : goal.returns
returns c before are =
    let run = c.in-Some.run' in
    let l = partly_loaded c.args.self.loader.now in
    let section = section_at l c.args.k in
    subst (λ words. Follow before words (run.section, c.in_ok-end.end))
    (ap (λ s. words_in s (fixups_left c.fixups.result)) c.in-Some.ensures.section
    ∙ (ap (λ fixups. words_in section fixups) c.fixups.ensures
    ∙ ap (λ seen. option_map_or (λ (r : Sizes × List ℕ). words_in section (fixups_of r.1)) seen []) c.in-Some.ensures.seen))
    (follow_rising run.section (fixups_left c.fixups.result) before c.in_ok-first.first c.in_ok-end.end (c.in_ok-first.ensures before are) c.in_ok-end.ensures)
