-- The values of the options are those of the rows.
use Rattle.std.proofs.Common.{[], codes, sym, ap, ap₂, ◌∙◌, unwrap_or}
use Rattle.clap.specs.Matches.{found_of}
use Rattle.clap.specs.Walk.{rows_of}
use Rattle.pef_request.specs.Arguments.{is_set}
use Rattle.pef_request.specs.Prepare.{prepared_form, stubbed}
use Rattle.pef_request.specs.Requests.{form_of}
use Rattle.pef_request.proofs.LineLemmas.{all_in_rows, first_in_rows}
use Rattle.pef_request.proofs.RequestLemmas.{prepare_by_values}
use Rattle.pef_request.proofs.prepare.prepare_request.Goals as goal

pub returns : goal.returns
returns c =
    let found = found_of c.args.operands.now in
    let json = c.is_set-json.result in
    let bytes = c.is_set-bytes.result in
    let words_is = sym (c.in-Some.ensures ∙ all_in_rows found (codes "[NAME=]FILE")) in
    let json_is = c.is_set-json.ensures ∙ ap is_set (c.get_str.ensures ∙ first_in_rows found (codes "json")) in
    let bytes_is = c.is_set-bytes.ensures ∙ ap is_set (c.get_str-2.ensures ∙ first_in_rows found (codes "bytes")) in
    let out = c.get_str-out.ensures ∙ first_in_rows found (codes "out") in
    let form_is = sym (c.in-Some-prepared_form.ensures ∙ ap (prepared_form json bytes) out) in
    let no_stubs_is = c.is_set-no_stubs.ensures ∙ ap is_set (c.get_str-3.ensures ∙ first_in_rows found (codes "no-stubs")) in
    let no_weak_is = c.is_set-no_weak.ensures ∙ ap is_set (c.get_str-4.ensures ∙ first_in_rows found (codes "no-weak")) in
    let stubs_is = c.stubbed.ensures ∙ ap₂ stubbed no_stubs_is no_weak_is in
    let libraries_is = c.in_ok-libraries.ensures ∙ ap (λ texts. unwrap_or texts []) (c.get_strs-2.ensures ∙ all_in_rows found (codes "library")) in
    let folders_is = c.in_ok-folders.ensures ∙ ap (λ texts. unwrap_or texts []) (c.get_strs-3.ensures ∙ all_in_rows found (codes "folder")) in
    let root_is = c.get_str-5.ensures ∙ first_in_rows found (codes "root") in
    rw (c.in_ok-files.ensures, libraries_is, folders_is, root_is, stubs_is)
    (prepare_by_values (rows_of found) _ json bytes (form_of c.in-Some-prepared_form.form) words_is json_is bytes_is form_is)
