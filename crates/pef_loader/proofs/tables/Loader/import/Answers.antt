-- Each import below their count has a library.
use Rattle.std.proofs.Common.{◌∙◌, arith}
use Rattle.pef_loader.specs.Views.{loaded}
use Rattle.pef_loader.proofs.Loaders.{import_owned}
use Rattle.pef_loader.proofs.tables.Loader.import.Goals as goal

pub returns-in_err-library-clause-there : goal.returns-in_err-library-clause-there
returns-in_err-library-clause-there c =
    let is = import_owned (loaded c.args.self.now) c.args.j c.args.self.now.accepted (omega arith) in
    let nowhere = c.in_err-library.ensures.value ∙ is.1 in
    absurd (cc)
