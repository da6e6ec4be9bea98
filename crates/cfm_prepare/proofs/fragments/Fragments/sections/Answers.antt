-- The places are those of a fragment that is present, so they are held.
use Rattle.std.proofs.Common.{List, sym, subst}
use Rattle.cfm_memory.specs.Extents.{AreHeld}
use Rattle.cfm_memory.specs.declared.place.Place.{Place}
use Rattle.cfm_prepare.proofs.ReadyLemmas.{places-held}
use Rattle.cfm_prepare.proofs.fragments.Fragments.sections.Goals as goal

pub invariant_of-result : goal.invariant_of-result
invariant_of-result c =
    let m = c.self.inside.memory in
    let P : List Place → Type 0 = λ ps. AreHeld m ps in
    record { held = subst P (sym c.places.ensures) (places-held m c.self.inside.present.items c.args.position c.self.invariant.held) }
