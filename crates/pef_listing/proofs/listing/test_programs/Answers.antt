-- A program without a refusal is passed over, and the first one with a refusal ends the search.
use Rattle.std.proofs.Common.{◌∙◌, ◌-◌, ◌<◌, ◌≤◌, sym, arith}
use Rattle.std.proofs.lemmas.Result.{err_from_is_err_and}
use Rattle.pef_words.proofs.Laws.Refusals.{first_among-here, first_among-next, first_among-none}
use Rattle.pef_loader.specs.Views.{loaded}
use Rattle.pef_views.specs.Views.{contained}
use Rattle.pef_listing.specs.Listed.{program_refusal}
use Rattle.pef_listing.proofs.PartLemmas.{all_readable}
use Rattle.pef_listing.proofs.listing.test_programs.Goals as goal

pub loop-k-preserved : goal.loop-k-preserved
loop-k-preserved c =
    let under : c.loop-k.k < (loaded c.args.loader.now).header.reloc_count = omega (arith, c.relocs-k-end.ensures.count) in
    sym (first_among-next (program_refusal (contained c.args.container.now) (loaded c.args.loader.now)) _ _ under (sym c.in_ok-test_program.ensures)) ∙ c.loop-k.invariant

pub returns-in_err-test_program-clause-refused : goal.returns-in_err-test_program-clause-refused
returns-in_err-test_program-clause-refused c =
    let under : c.loop-k.k < (loaded c.args.loader.now).header.reloc_count = omega (arith, c.relocs-k-end.ensures.count) in
    let p = err_from_is_err_and c.from_residual.result c.from_residual.ensures.1 in
    rw (p.1, p.2) (sym (first_among-here (program_refusal (contained c.args.container.now) (loaded c.args.loader.now)) _ _ _ under (sym c.in_err-test_program.ensures)) ∙ c.loop-k.invariant)

pub returns-clause-readable : goal.returns-clause-readable
returns-clause-readable c =
    let container = contained c.args.container.now in
    let loader = loaded c.args.loader.now in
    let past : loader.header.reloc_count ≤ c.loop-k.k = omega (arith, c.loop-k-test.false, c.relocs-k-end.ensures.count) in
    let none = first_among-none (program_refusal container loader) c.loop-k.k (loader.header.reloc_count - c.loop-k.k) (λ j low high. absurd (omega arith)) in
    all_readable container loader (sym c.loop-k.invariant ∙ none)
