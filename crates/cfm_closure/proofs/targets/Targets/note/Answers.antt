-- It is known for the import, and for no other. In a row that is shared it was known before.
use Rattle.std.proofs.Common.{Some, option_map, sym, subst, ◌∙◌}
use Rattle.std.proofs.lemmas.List.{map-set}
use Rattle.cfm_closure.specs.Kept.Resolutions.{meant}
use Rattle.cfm_closure.specs.Kept.Targets.{AllKnown}
use Rattle.cfm_closure.proofs.NoteLemmas.{set-known}
use Rattle.cfm_closure.proofs.targets.Targets.note.Goals as goal

pub returns-in-Shared : goal.returns-in-Shared
returns-in-Shared c =
    let known = subst AllKnown (rw c.in-Shared.is at c.self.view_is) (rw c.in-Shared.is at c.self.invariant) in
    c.self.view_is ∙ sym (set-known c.args.self.now c.args.j (meant c.args.resolution) (known c.args.j c.requires.import) c.requires.right)

pub returns : goal.returns
returns c = rw (← c.self.view_is, c.in-Own.is) (map-set (option_map meant) c.in-Own.known.items c.args.j (Some c.args.resolution))
