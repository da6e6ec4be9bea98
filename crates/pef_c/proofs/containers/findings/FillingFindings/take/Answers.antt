-- The finding fills the next place.
use Rattle.std.proofs.Common.{◌≡◌, ◌≤◌, ◌+◌, ◌++◌, ◌∷◌, [], drop, length, slice_set, arith, ap, ◌∙◌}
use Rattle.std.specs.Prelude.{map}
use Rattle.std.proofs.lemmas.List.{length-map, map-append}
use Rattle.pef_c.specs.Containers.Findings.{finding_row}
use Rattle.pef_c.specs.Containers.Fillings.{start_of}
use Rattle.pef_c.specs.Containers.Told.{told_items}
use Rattle.pef_c.proofs.ContainerProofs.WrittenLemmas.{start_same, written_next}
use Rattle.pef_c.proofs.containers.findings.FillingFindings.take.Goals as goal

pub invariant_of-self-then-count-places-clause-filled : goal.invariant_of-self-then-count-places-clause-filled
invariant_of-self-then-count-places-clause-filled c =
    let s = c.args.self.now in
    let rows = map finding_row (told_items s.taken) in
    let none = c.if-skip-gt0.false in
    let skipped = s.skipped in
    let len = length-map (told_items s.taken) finding_row in
    let passed : s.from ≤ length rows = omega (arith, none, skipped, len) in
    let more : map finding_row (told_items c.and.result) ≡ rows ++ finding_row c.args.finding ∷ [] = ap (map finding_row) c.and.ensures ∙ map-append finding_row (told_items s.taken) (c.args.finding ∷ []) in
    let same : told_items c.and-then-count-places.result ++ drop (s.count + 1) (slice_set s.places.now s.count c.finding_given.result) ≡ start_of s =
    rw c.and-then-count-places.ensures (start_same (told_items s.were) s.places.now s.count _ _ c.if-count-places.true) in
    rw (same, more, c.finding_given.ensures) (written_next rows (start_of s) s.places.now s.from s.count (finding_row c.args.finding) passed c.if-count-places.true s.filled)
