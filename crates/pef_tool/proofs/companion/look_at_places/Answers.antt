-- A place without a companion is passed over.
use Rattle.std.proofs.Common.{List, ℕ, None, Some, ap, inl, inr, map, refl, subst, sym}
use Rattle.std.proofs.lemmas.List.{at_drop_more, drop_all}
use Rattle.pef_ports.specs.Ports.{FilesPort}
use Rattle.pef_tool.specs.Companions.{Looks}
use Rattle.pef_tool.specs.Kept.Inspecting.{companion_seen, place_seen}
use Rattle.pef_tool.specs.declared.companion.CompanionPlace.{CompanionPlace}
use Rattle.pef_tool.proofs.companion.look_at_places.Goals as goal

pub loop-place-init : goal.loop-place-init
loop-place-init g c = λ own last companion looks. looks

pub loop-place-preserved : goal.loop-place-preserved
loop-place-preserved g c =
    let port : FilesPort _ = record { state = g.F.Files.state; reason = g.F.Files.reason; was_read = g.F.Files.was_read; was_written = g.F.Files.was_written } in
    let seen : CompanionPlace → List ℕ = place_seen c.args.path.folder.now c.args.path.name.now in
    let at = c.loop-place in
    λ own last companion looks.
    let P : List (List ℕ) → Type 0 = λ (places : List (List ℕ)). Looks port own at.files last places companion in
    at.invariant own last companion
    (subst P (sym (at_drop_more (map seen) c.args.places.now at.place-index _ c.loop-place-test.true)) (inr (c.look_at.new.files, c.in-None.ensures own, looks)))

pub returns-in-Some : goal.returns-in-Some
returns-in-Some g c =
    let port : FilesPort _ = record { state = g.F.Files.state; reason = g.F.Files.reason; was_read = g.F.Files.was_read; was_written = g.F.Files.was_written } in
    let seen : CompanionPlace → List ℕ = place_seen c.args.path.folder.now c.args.path.name.now in
    let at = c.loop-place in
    λ own.
    let found = companion_seen own c.in-Some.companion in
    let P : List (List ℕ) → Type 0 = λ (places : List (List ℕ)). Looks port own at.files c.look_at.new.files places (Some found) in
    at.invariant own c.look_at.new.files (Some found)
    (subst P (sym (at_drop_more (map seen) c.args.places.now at.place-index _ c.loop-place-test.true)) (inl (found, c.in-Some.ensures own, refl)))

pub returns : goal.returns
returns g c =
    let port : FilesPort _ = record { state = g.F.Files.state; reason = g.F.Files.reason; was_read = g.F.Files.was_read; was_written = g.F.Files.was_written } in
    let seen : CompanionPlace → List ℕ = place_seen c.args.path.folder.now c.args.path.name.now in
    let at = c.loop-place in
    λ own.
    let P : List (List ℕ) → Type 0 = λ (places : List (List ℕ)). Looks port own at.files at.files places None in
    at.invariant own at.files None (subst P (sym (ap (map seen) (drop_all at.place-index c.args.places.now c.loop-place-test.false))) (refl, refl))
