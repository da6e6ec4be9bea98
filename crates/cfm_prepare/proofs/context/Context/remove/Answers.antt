-- The store alone changes.
use Rattle.std.proofs.Common.{List, ap, sym}
use Rattle.cfm_store.specs.Stores.{Pair}
use Rattle.cfm_prepare.specs.Contexts.{ContextState}
use Rattle.cfm_prepare.specs.Made.{choices_of}
use Rattle.cfm_prepare.proofs.context.Context.remove.Goals as goal
use Rattle.cfm_prepare.proofs.context.Context.remove.Goals.{in-Ok, in-Err-OutOfMemory}

pub returns-clause-removed : goal.returns-clause-removed
returns-clause-removed c =
    let fragments = c.self.inside.fragments in
    let connections = c.self.inside.connections in
    let whole : List Pair → ContextState = λ pairs. record { bounds = (choices_of c.self.inside.options).bounds; pairs = pairs; memory = fragments.memory; given = connections.given; connections = connections.items; present = fragments.present } in
    elim c.match-remove.branch [
      | in-Ok w ↦ rw w.result-is (rw (← c.self.view_is) (record {
        unused = record { root = c.in-Some.place; is = sym c.in-Some.ensures.place; absent = sym c.if-has.ensures };
        unnamed = c.names_library.ensures.no c.if-names_library.false;
        is = ap whole w.in-Ok.ensures.ok;
      }))
      | in-Err-OutOfMemory w ↦ rw w.result-is tt
    ]
