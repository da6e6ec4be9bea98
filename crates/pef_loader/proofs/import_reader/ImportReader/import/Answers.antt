-- Each import below their count has a library and a name.
use Rattle.std.proofs.Common.{◌∙◌, ap, ap₂, sym, arith}
use Rattle.pef_words.specs.Bytes.{name_at}
use Rattle.pef_loader.specs.Views.{loaded}
use Rattle.pef_loader.proofs.Loaders.{import_is, import_owned, import_with, owner-below}
use Rattle.pef_loader.proofs.import_reader.ImportReader.import.Goals as goal

pub returns-in_err-library-clause-there : goal.returns-in_err-library-clause-there
returns-in_err-library-clause-there c =
    let is = import_owned (loaded c.args.self.now.loader) c.args.j c.args.self.now.loader.accepted (omega (arith, c.imports.ensures.count)) in
    let nowhere = c.in_err-library.ensures.value ∙ is.1 in
    absurd (cc)

pub returns-in_err-library-clause-value : goal.returns-in_err-library-clause-value
returns-in_err-library-clause-value c =
    let is = import_owned (loaded c.args.self.now.loader) c.args.j c.args.self.now.loader.accepted (omega (arith, c.imports.ensures.count)) in
    let nowhere = c.in_err-library.ensures.value ∙ is.1 in
    absurd (cc)

pub returns-in_err-import-clause-there : goal.returns-in_err-import-clause-there
returns-in_err-import-clause-there c =
    let is = import_is (loaded c.args.self.now.loader) c.args.j c.args.self.now.loader.accepted (omega (arith, c.imports.ensures.count)) in
    let nowhere = c.in_err-import.ensures ∙ is.1 in
    absurd (cc)

pub returns-clause-library : goal.returns-clause-library
returns-clause-library c = owner-below c.args.self.now.loader.tables.cut.bytes.now c.args.self.now.loader.tables.header c.args.j _ (sym c.in_ok-library.ensures.value)

pub returns-in_err-name-clause-there : goal.returns-in_err-name-clause-there
returns-in_err-name-clause-there c =
    let l = c.args.self.now.loader in
    let is = import_with (loaded l) c.args.j c.in_ok-import.import l.accepted (omega (arith, c.imports.ensures.count)) (sym c.in_ok-import.ensures) in
    let bytes = c.owner.new.self.named ∙ ap (λ l. l.tables.cut.bytes.now) c.owner.ensures.same in
    let nowhere = c.in_err-name.ensures.value ∙ ap₂ name_at bytes c.name.ensures ∙ is.named in
    absurd (cc)
