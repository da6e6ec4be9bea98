-- The row of the fragment has the target.
use Rattle.std.proofs.Common.{map}
use Rattle.cfm_store.specs.Seen.{place_seen}
use Rattle.cfm_closure.specs.Kept.Resolutions.{meant}
use Rattle.cfm_closure.proofs.NoteLemmas.{are-noted, keeps-noted, known-in, same-noted}
use Rattle.cfm_closure.proofs.bindings.Bindings.note.Goals as goal

pub invariant_of-self : goal.invariant_of-self
invariant_of-self c =
    let there = rw (← c.self.view_is) at c.requires.place in
    let import = rw (← c.self.view_is) at c.requires.import in
    let right = rw (← c.self.view_is) at c.requires.right in
    are-noted (map place_seen c.self.inside.pairs.items) c.self.inside.fragments c.self.inside.order.items c.self.invariant c.args.p there
    c.value_mut-fragment.result.now c.value_mut-fragment.ensures.value c.args.j (meant c.args.resolution) import c.note.new.self c.note.ensures right

pub returns-clause-keeps : goal.returns-clause-keeps
returns-clause-keeps c =
    let there = rw (← c.self.view_is) at c.requires.place in
    let import = rw (← c.self.view_is) at c.requires.import in
    rw (← c.self.view_is) (keeps-noted (map place_seen c.self.inside.pairs.items) c.self.inside.fragments c.self.inside.order.items c.self.invariant c.args.p there
    c.value_mut-fragment.result.now c.value_mut-fragment.ensures.value c.args.j (meant c.args.resolution) import c.note.new.self c.note.ensures)

pub returns-clause-known : goal.returns-clause-known
returns-clause-known c =
    let there = rw (← c.self.view_is) at c.requires.place in
    let import = rw (← c.self.view_is) at c.requires.import in
    known-in (map place_seen c.self.inside.pairs.items) c.self.inside.fragments c.self.inside.order.items c.self.invariant c.args.p there
    c.value_mut-fragment.result.now c.value_mut-fragment.ensures.value c.args.j (meant c.args.resolution) import c.note.new.self c.note.ensures

-- a target that is known is this one
pub note-requires-clause-right : goal.note-requires-clause-right
note-requires-clause-right c =
    let there = rw (← c.self.view_is) at c.requires.place in
    let right = rw (← c.self.view_is) at c.requires.right in
    same-noted (map place_seen c.self.inside.pairs.items) c.self.inside.fragments c.self.inside.order.items c.self.invariant c.args.p there
    c.value_mut-fragment.result.now c.value_mut-fragment.ensures.value c.args.j (meant c.args.resolution) right
