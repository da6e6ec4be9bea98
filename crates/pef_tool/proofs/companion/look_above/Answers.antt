-- A place without a companion is passed over.
use Rattle.std.proofs.Common.{List, ℕ, Some, arith, inl, inr, refl, subst, sym}
use Rattle.pef_ports.specs.Ports.{FilesPort}
use Rattle.pef_tool.specs.Companions.{Looks}
use Rattle.pef_tool.specs.Kept.Inspecting.{companion_seen}
use Rattle.pef_tool.proofs.companion.look_above.Goals as goal

pub returns-in-Some-look_at_mirror : goal.returns-in-Some-look_at_mirror
returns-in-Some-look_at_mirror g c =
    let port : FilesPort _ = record { state = g.F.Files.state; reason = g.F.Files.reason; was_read = g.F.Files.was_read; was_written = g.F.Files.was_written } in
    let at = c.loop-end in
    λ own.
    let found = companion_seen own c.in-Some-look_at_mirror.companion in
    let P : List (List ℕ) → Type 0 = λ (places : List (List ℕ)). Looks port own at.files c.look_at_mirror.new.files places (Some found) in
    at.invariant.looks own c.look_at_mirror.new.files (Some found)
    (subst P (sym (c.in-Some.ensures.places c.args.path.name.now)) (inl (found, c.in-Some-look_at_mirror.ensures own, refl)))

pub loop-end-preserved : goal.loop-end-preserved
loop-end-preserved g c =
    let port : FilesPort _ = record { state = g.F.Files.state; reason = g.F.Files.reason; was_read = g.F.Files.was_read; was_written = g.F.Files.was_written } in
    let at = c.loop-end in
    record {
      inside = omega (arith, at.invariant.inside, c.in-Some.ensures.before);
      looks = λ own last companion looks.
          let P : List (List ℕ) → Type 0 = λ (places : List (List ℕ)). Looks port own at.files last places companion in
          at.invariant.looks own last companion
          (subst P (sym (c.in-Some.ensures.places c.args.path.name.now)) (inr (c.look_at_mirror.new.files, c.in-None.ensures own, looks)));
    }
