-- The table has the place of the entry that has the name.
use Rattle.std.proofs.Common.{◌∙◌, ◌&&◌, not, List, map, sym, ap, arith}
use Rattle.cfm_closure.specs.declared.missing.MissingLibrary.{MissingLibrary}
use Rattle.cfm_closure.specs.Kept.Notes.{name_pair}
use Rattle.cfm_closure.specs.Missing.{Missing, noted}
use Rattle.cfm_store.specs.Stores.{place_of}
use Rattle.cfm_closure.specs.Views.{missing_seen}
use Rattle.cfm_closure.proofs.NotedLemmas.{known-inside, named-set, noted-same, noted-stricter}
use Rattle.cfm_closure.proofs.notes.Notes.note.Goals as goal

pub index-requires : goal.index-requires
index-requires c =
    let is = sym (c.in-Some.ensures ∙ c.get.ensures.value ∙ c.self.invariant c.args.library.name.now) in
    let under = known-inside c.self.inside.libraries.items c.args.library c.in-Some.at c.args.library is in
    omega (arith, under, c.self.inside.libraries.ok.0)

pub index_mut-requires : goal.index_mut-requires
index_mut-requires c =
    let is = sym (c.in-Some.ensures ∙ c.get.ensures.value ∙ c.self.invariant c.args.library.name.now) in
    let under = known-inside c.self.inside.libraries.items c.args.library c.in-Some.at c.args.library is in
    omega (arith, under, c.self.inside.libraries.ok.0)

pub invariant_of-self : goal.invariant_of-self
invariant_of-self c =
    let is = sym (c.in-Some.ensures ∙ c.get.ensures.value ∙ c.self.invariant c.args.library.name.now) in
    named-set c.self.inside.libraries.items c.args.library c.in-Some.at c.args.library is c.self.inside.places.entries c.self.invariant

pub append-requires : goal.append-requires
append-requires c =
    sym (ap (λ (ms : List Missing). place_of (map name_pair ms) c.args.library.name.now) c.self.view_is)
    ∙ sym (c.in_default.ensures ∙ c.get.ensures.value ∙ c.self.invariant c.args.library.name.now)

pub returns-then-not-is_stricter-clause-ok : goal.returns-then-not-is_stricter-clause-ok
returns-then-not-is_stricter-clause-ok c =
    let is = sym (c.in-Some.ensures ∙ c.get.ensures.value ∙ c.self.invariant c.args.library.name.now) in
    let d = c.index.result.now in
    let stays = ap (λ (x : MissingLibrary). x.weak && not c.args.library.weak) (sym c.index.ensures) ∙ sym c.if-not-is_stricter.ensures in
    rw (← c.self.view_is) (noted-same c.self.inside.libraries.items c.args.library c.in-Some.at d is stays)

pub returns-clause-ok : goal.returns-clause-ok
returns-clause-ok c =
    let is = sym (c.in-Some.ensures ∙ c.get.ensures.value ∙ c.self.invariant c.args.library.name.now) in
    let d = c.index.result.now in
    let stricter = ap (λ (x : MissingLibrary). x.weak && not c.args.library.weak) (sym c.index.ensures) ∙ sym c.if-not-is_stricter.ensures in
    noted-stricter c.self.inside.libraries.items c.args.library c.in-Some.at d is stricter
    ∙ ap (λ (ms : List Missing). noted ms (missing_seen c.args.library)) c.self.view_is
