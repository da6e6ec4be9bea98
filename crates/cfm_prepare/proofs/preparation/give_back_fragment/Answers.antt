-- The fragment is in memory, so its sections can be released.
use Rattle.std.proofs.Common.{◌≡◌, ◌++◌, List, sym, ap, subst, ◌∙◌}
use Rattle.cfm_memory.specs.Extents.{AreApart, AreHeld, given_back}
use Rattle.cfm_memory.specs.Instances.{Layout}
use Rattle.cfm_memory.specs.declared.place.Place.{Place}
use Rattle.cfm_prepare.specs.Fragments.{Present}
use Rattle.cfm_prepare.specs.Kept.Ready.{AreReady}
use Rattle.cfm_prepare.proofs.ReadyLemmas.{held-there, own-there, ready-without}
use Rattle.cfm_prepare.proofs.preparation.give_back_fragment.Goals as goal

pub give_back-requires-clause-held : goal.give_back-requires-clause-held
give_back-requires-clause-held c =
    let m = c.args.memory.now in
    let taken = c.in-Some.ensures.taken in
    let f : Present = record { position = c.args.position; places = c.in-Some.places.items } in
    let P : List Place → Type 0 = λ ps. AreHeld m ps in
    let R : List Present → Type 0 = λ fs. AreReady m fs in
    subst P (sym c.deref.ensures.value) (held-there m taken.front f taken.back (subst R taken.was c.requires.ready))

pub give_back-requires-clause-apart : goal.give_back-requires-clause-apart
give_back-requires-clause-apart c =
    let m = c.args.memory.now in
    let taken = c.in-Some.ensures.taken in
    let f : Present = record { position = c.args.position; places = c.in-Some.places.items } in
    let P : List Place → Type 0 = λ ps. AreApart ps in
    let R : List Present → Type 0 = λ fs. AreReady m fs in
    subst P (sym c.deref.ensures.value) (own-there m taken.front f taken.back (subst R taken.was c.requires.ready))

pub returns-in-Some-clause-ready : goal.returns-in-Some-clause-ready
returns-in-Some-clause-ready c =
    let m = c.args.memory.now in
    let taken = c.in-Some.ensures.taken in
    let f : Present = record { position = c.args.position; places = c.in-Some.places.items } in
    let given : c.give_back.new.memory ≡ given_back m f.places = c.give_back.ensures ∙ ap (given_back m) c.deref.ensures.value in
    let R : List Present → Type 0 = λ fs. AreReady m fs in
    let L : Layout → Type 0 = λ k. AreReady k (taken.front ++ taken.back) in
    let Q : List Present → Type 0 = λ fs. AreReady c.give_back.new.memory fs in
    subst Q (sym taken.is) (subst L (sym given) (ready-without m taken.front f taken.back (subst R taken.was c.requires.ready)))
