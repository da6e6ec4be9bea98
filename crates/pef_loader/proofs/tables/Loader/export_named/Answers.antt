-- What is found is one of the exports.
use Rattle.std.proofs.Common.{◌∙◌, ap, sym}
use Rattle.pef_hash.specs.Exports.{export_named}
use Rattle.pef_loader.specs.Loader.{named_of}
use Rattle.pef_loader.specs.Views.{loaded}
use Rattle.pef_loader.proofs.Loaders.{named-below}
use Rattle.pef_loader.proofs.tables.Loader.export_named.Goals as goal

pub returns-clause-below : goal.returns-clause-below
unfolding named_of
returns-clause-below c =
    named-below (loaded c.args.self.now) c.args.name.now c.find.result (sym (c.find.ensures ∙ ap (λ t. export_named t c.args.name.now) c.args.self.now.tabled))
