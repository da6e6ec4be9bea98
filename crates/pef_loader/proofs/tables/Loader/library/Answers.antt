-- Each library below their count is there, with a name.
use Rattle.std.proofs.Common.{◌∙◌, ap₂, refl, sym, arith}
use Rattle.std.proofs.lemmas.Bool.{lt-ltb}
use Rattle.pef_words.specs.Bytes.{name_at}
use Rattle.pef_loader.specs.Library.{library_in}
use Rattle.pef_loader.specs.Loader.{library_of}
use Rattle.pef_loader.specs.Views.{loaded}
use Rattle.pef_loader.proofs.Loaders.{library_is, library_with}
use Rattle.pef_loader.proofs.tables.Loader.library.Goals as goal

pub returns-in_err-library-clause-there : goal.returns-in_err-library-clause-there
returns-in_err-library-clause-there c =
    let is = library_is (loaded c.args.self.now) c.args.i c.args.self.now.accepted (omega arith) in
    let nowhere = c.in_err-library.ensures ∙ is.1 in
    absurd (cc)

pub returns-in_err-whole-clause-there : goal.returns-in_err-whole-clause-there
returns-in_err-whole-clause-there c =
    let is = library_with (loaded c.args.self.now) c.args.i c.in_ok-library.library c.args.self.now.accepted (omega arith) (sym c.in_ok-library.ensures) in
    let nowhere = c.in_err-whole.ensures ∙ ap₂ name_at c.args.self.now.named c.name.ensures ∙ is.named in
    absurd (cc)

pub returns-clause-range : goal.returns-clause-range
returns-clause-range c = (library_with (loaded c.args.self.now) c.args.i c.in_ok-library.library c.args.self.now.accepted (omega arith) (sym c.in_ok-library.ensures)).range

pub returns-clause-value : goal.returns-clause-value
unfolding library_of library_in
returns-clause-value c =
    let l = loaded c.args.self.now in
    let named = c.in_ok-whole.ensures ∙ ap₂ name_at c.args.self.now.named c.name.ensures in
    rw (lt-ltb c.args.i l.header.library_count (omega arith), ← c.in_ok-library.ensures, ← named) refl
