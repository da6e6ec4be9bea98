-- The place that was found is free, and no pair has the name.
use Rattle.std.proofs.Common.{◌∙◌, sym}
use Rattle.cfm_store.proofs.PlaceLemmas.{free_for-is}
use Rattle.cfm_store.proofs.store.Store.put.Goals as goal

pub fill-requires-clause-place : goal.fill-requires-clause-place
fill-requires-clause-place c = (free_for-is c.args.self.now c.args.name.now c.in-Some.place (sym c.free_place.ensures ∙ c.in-Some.is)).inside

pub fill-requires-clause-free : goal.fill-requires-clause-free
fill-requires-clause-free c = (free_for-is c.args.self.now c.args.name.now c.in-Some.place (sym c.free_place.ensures ∙ c.in-Some.is)).free

pub fill-requires-clause-name : goal.fill-requires-clause-name
fill-requires-clause-name c = (free_for-is c.args.self.now c.args.name.now c.in-Some.place (sym c.free_place.ensures ∙ c.in-Some.is)).none
