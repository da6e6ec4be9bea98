use Rattle.std.proofs.Common.{ℕ, ◌≡◌, ◌+◌, ◌*◌, ◌<◌, length, ap, arith, rules, slice_index, refl, ◌∙◌}
use Rattle.std.proofs.lemmas.Grind.{common_steps}
use Rattle.pef_cert.specs.declared.claim.Claim.{Claim}
use Rattle.pef_cert.specs.Kept.Claims.{Shaped}
use Rattle.pef_cert.proofs.ClaimLemmas.{kept_under, label-kept, place_under}
use Rattle.pef_cert.proofs.claim.Claim.label.Goals as goal

-- the place in the row is inside it
inside : (w r n c d : ℕ) → n ≡ r → w ≡ r * r → c < r → d < r → c * n + d < w
inside w r n c d is wide under_c under_d =
    let low = place_under r c d under_c under_d in
    let same = ap (λ m. c * m + d) is in
    omega (arith, low, same)

-- and the place in all kept rows is inside them
in_values : (s : Claim) (row n c d : ℕ) → Shaped s → row < length s.kept.ends.now → n ≡ length s.registers.now + 1 → c < length s.registers.now + 1 → d < length s.registers.now + 1 → row * s.kept.width + (c * n + d) < length s.kept.values.now
in_values s row n c d shaped under is under_c under_d =
    let place = inside s.kept.width (length s.registers.now + 1) n c d is shaped.width under_c under_d in
    let low = kept_under s.kept.width (length s.kept.ends.now) row (c * n + d) under place in
    omega (arith, low, shaped.full.full)

pub bounds-self-row : goal.bounds-self-row
bounds-self-row c = in_values c.args.self c.args.row c.classes.result c.args.c c.args.d c.requires.shaped c.requires.row c.classes.ensures c.requires.c c.requires.d

pub offset_bounds-self-row : goal.offset_bounds-self-row
offset_bounds-self-row c =
    let low = in_values c.args.self c.args.row c.classes.result c.args.c c.args.d c.requires.shaped c.requires.row c.classes.ensures c.requires.c c.requires.d in
    first_of (omega (arith, low), grind (arith, common_steps, low), search (rules, low))

pub returns : goal.returns
returns c = λ j row under.
    let s = c.args.self in
    let r : ℕ = length s.registers.now + 1 in
    let place = inside s.kept.width r r c.args.c c.args.d refl c.requires.shaped.width c.requires.c c.requires.d in
    ap (λ n. slice_index s.kept.values.now (c.args.row * s.kept.width + (c.args.c * n + c.args.d))) c.classes.ensures
    ∙ label-kept s.kept.width c.args.row j (length s.fixups.now) (c.args.c * r + c.args.d) s.kept.ends.now s.kept.values.now c.requires.shaped.full row under place
