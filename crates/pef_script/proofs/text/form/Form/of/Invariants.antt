use Rattle.std.proofs.Common.{◌≡◌, drop}
use Rattle.pef_script.specs.Text.Forms.{all_forms, form_among}
use Rattle.pef_script.proofs.text.form.Form.of.Given as goal

-- the forms left decide
abbrev pub invariant-loop-form : goal.invariant-loop-form
invariant-loop-form l = form_among (drop l.form-index all_forms) l.first_word ≡ form_among all_forms l.first_word
