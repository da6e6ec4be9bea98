-- The values of the options are those of the rows.
use Rattle.std.proofs.Common.{codes, sym, ap, ap₂, ◌∙◌}
use Rattle.clap.specs.Matches.{found_of}
use Rattle.clap.specs.Walk.{rows_of}
use Rattle.pef_request.specs.Arguments.{is_set}
use Rattle.pef_request.specs.Stubs.{stub_symbols}
use Rattle.pef_request.proofs.LineLemmas.{all_in_rows, first_in_rows}
use Rattle.pef_request.proofs.RequestLemmas.{stubs_by_values}
use Rattle.pef_request.proofs.stubs.stubs_request.Goals as goal

pub returns : goal.returns
returns c =
    let found = found_of c.args.operands.now in
    let memory = c.is_set-memory.result in
    let first = c.get_str-first.ensures ∙ first_in_rows found (codes "first") in
    let step = c.get_str-step.ensures ∙ first_in_rows found (codes "step") in
    let words_is = sym (c.in-Some.ensures ∙ all_in_rows found (codes "[NAME=]FILE")) in
    let memory_is = c.is_set-memory.ensures ∙ ap is_set (c.get_str.ensures ∙ first_in_rows found (codes "memory")) in
    let symbols_is = sym (c.in-Some-stub_symbols.ensures ∙ ap₂ (stub_symbols memory) first step) in
    let no_weak_is = c.is_set-no_weak.ensures ∙ ap is_set (c.get_str-2.ensures ∙ first_in_rows found (codes "no-weak")) in
    let out_is = c.get_str-3.ensures ∙ first_in_rows found (codes "out") in
    rw (c.in_ok-files.ensures, no_weak_is, out_is) (stubs_by_values (rows_of found) _ memory c.in-Some-stub_symbols.symbols words_is memory_is symbols_is)
