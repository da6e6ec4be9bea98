-- The entry goes last.
use Rattle.std.proofs.Common.{◌∙◌, List, [], ◌∷◌, ◌++◌, map, ap}
use Rattle.cfm_closure.specs.declared.missing.MissingLibrary.{MissingLibrary}
use Rattle.cfm_closure.specs.Kept.Notes.{name_pair}
use Rattle.cfm_closure.specs.Missing.{Missing, noted}
use Rattle.cfm_store.specs.Stores.{place_of}
use Rattle.cfm_closure.specs.Views.{missing_seen}
use Rattle.cfm_closure.proofs.NotedLemmas.{noted-new}
use Rattle.cfm_closure.proofs.notes.Notes.append.Goals as goal

pub returns-clause-ok : goal.returns-clause-ok
returns-clause-ok c =
    let none = ap (λ (ms : List Missing). place_of (map name_pair ms) c.args.library.name.now) c.self.view_is ∙ c.requires in
    ap (map missing_seen) (c.in_ok-push.ensures.items ∙ ap (λ (items : List MissingLibrary). items ++ c.args.library ∷ []) c.in_ok-reserve.ensures.items)
    ∙ noted-new c.self.inside.libraries.items c.args.library none
    ∙ ap (λ (ms : List Missing). noted ms (missing_seen c.args.library)) c.self.view_is
