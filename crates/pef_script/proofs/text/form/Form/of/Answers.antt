-- A form with another first word is passed over.
use Rattle.std.proofs.Common.{◌≡◌, ◌+◌, false, ◌∷◌, drop, get_or, refl, sym, ap, ◌∙◌, arith}
use Rattle.std.specs.Str.{bytes_eq}
use Rattle.std.proofs.lemmas.List.{drop_more}
use Rattle.pef_script.specs.declared.text.form.Form.{Form}
use Rattle.pef_script.specs.declared.text.form.Form.TheVariants.{Versions}
use Rattle.pef_script.specs.Text.Forms.{FormRow, all_forms, form_among, row_of}
use Rattle.pef_script.proofs.text.form.Form.of.Goals as goal

pub loop-form-preserved : goal.loop-form-preserved
loop-form-preserved c =
    let i = c.loop-form.form-index in
    let word = c.args.first_word.now in
    let here : Form = get_or all_forms i Versions in
    let first = ap (λ (row : FormRow). row.first_word) c.row.ensures in
    let unlike : bytes_eq word (row_of here).first_word ≡ false = rw (← first) (sym c.spells.ensures ∙ c.if-spells.false) in
    let step : form_among (here ∷ drop (i + 1) all_forms) word ≡ form_among (drop (i + 1) all_forms) word = rw unlike refl in
    sym step ∙ ap (λ forms. form_among forms word) (sym (drop_more all_forms i Versions (omega arith))) ∙ c.loop-form.invariant
