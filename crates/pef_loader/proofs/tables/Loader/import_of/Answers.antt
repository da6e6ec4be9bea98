-- Each import below their count is there, with a name.
use Rattle.std.proofs.Common.{◌∙◌, ap₂, sym}
use Rattle.pef_words.specs.Bytes.{name_at}
use Rattle.pef_loader.specs.Views.{loaded}
use Rattle.pef_loader.proofs.Loaders.{import_is, import_with, owner-below}
use Rattle.pef_loader.proofs.tables.Loader.import_of.Goals as goal

pub returns-in_err-import-clause-there : goal.returns-in_err-import-clause-there
returns-in_err-import-clause-there c =
    let is = import_is (loaded c.args.self.now) c.args.j c.args.self.now.accepted c.requires.place in
    let nowhere = c.in_err-import.ensures ∙ is.1 in
    absurd (cc)

pub returns-in_err-whole-clause-there : goal.returns-in_err-whole-clause-there
returns-in_err-whole-clause-there c =
    let is = import_with (loaded c.args.self.now) c.args.j c.in_ok-import.import c.args.self.now.accepted c.requires.place (sym c.in_ok-import.ensures) in
    let nowhere = c.in_err-whole.ensures ∙ ap₂ name_at c.args.self.now.named c.name.ensures ∙ is.named in
    absurd (cc)

pub returns-clause-library : goal.returns-clause-library
returns-clause-library c = owner-below c.args.self.now.tables.cut.bytes.now c.args.self.now.tables.header c.args.j _ c.requires.library
