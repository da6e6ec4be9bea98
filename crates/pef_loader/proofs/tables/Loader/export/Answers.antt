-- Each export below their count is there, with a name.
use Rattle.std.proofs.Common.{◌∙◌, ap, refl, sym, arith}
use Rattle.std.proofs.lemmas.Bool.{le-ltb}
use Rattle.pef_hash.specs.Exports.{entry_of, name_of}
use Rattle.pef_loader.specs.Export.{export_in}
use Rattle.pef_loader.specs.Loader.{export_of}
use Rattle.pef_loader.specs.Views.{loaded}
use Rattle.pef_loader.proofs.Loaders.{export_is, export_with}
use Rattle.pef_loader.proofs.tables.Loader.export.Goals as goal

pub returns-then-i-self-clause-value : goal.returns-then-i-self-clause-value
unfolding export_of export_in entry_of
returns-then-i-self-clause-value c = rw (le-ltb c.args.i c.args.self.now.tables.header.export_count (omega arith)) refl

pub returns-in_err-export-clause-there : goal.returns-in_err-export-clause-there
returns-in_err-export-clause-there c =
    let is = export_is (loaded c.args.self.now) c.args.i c.args.self.now.accepted (omega arith) in
    let nowhere = c.in_err-export.ensures ∙ ap (λ t. entry_of t c.args.i) c.args.self.now.tabled ∙ is.1 in
    absurd (cc)

pub returns-in_err-name-clause-there : goal.returns-in_err-name-clause-there
returns-in_err-name-clause-there c =
    let is = export_is (loaded c.args.self.now) c.args.i c.args.self.now.accepted (omega arith) in
    let nowhere = c.in_err-name.ensures ∙ ap (λ t. name_of t c.args.i) c.args.self.now.tabled ∙ is.2.named in
    absurd (cc)

pub returns-clause-value : goal.returns-clause-value
unfolding export_of export_in
returns-clause-value c =
    let at = c.in_ok-export.ensures ∙ ap (λ t. entry_of t c.args.i) c.args.self.now.tabled in
    let named = c.in_ok-name.ensures ∙ ap (λ t. name_of t c.args.i) c.args.self.now.tabled in
    rw (← at, ← named) refl

pub returns-clause-section : goal.returns-clause-section
returns-clause-section c =
    let at = c.in_ok-export.ensures ∙ ap (λ t. entry_of t c.args.i) c.args.self.now.tabled in
    (export_with (loaded c.args.self.now) c.args.i c.in_ok-export.export c.args.self.now.accepted (omega arith) (sym at)).section
