-- One byte more is shown.
use Rattle.std.proofs.Common.{◌≡◌, ℕ, zero, suc, ◌+◌, ◌<◌, ◌≤◌, List, [], ◌∷◌, ◌++◌, ap, ap₂, ◌∙◌, drop, get_or, length, map, refl, slice_set, subst, take, arith}
use Rattle.std.proofs.lemmas.List.{take_all}
use Rattle.pef_faults.specs.Notes.Excerpts.{shown_bytes, visible, zeros}
use Rattle.pef_faults.proofs.notes.excerpt.shown_bytes.Goals as goal

shown_more : (part room : List ℕ) (i : ℕ) → i < length part → length part ≤ length room
    → slice_set (map visible (take i part) ++ drop i room) i (visible (get_or part i 0)) ≡ map visible (take (suc i) part) ++ drop (suc i) room
shown_more [] room i under fits = search arith
shown_more (b ∷ part) [] i under fits = search arith
shown_more (b ∷ part) (z ∷ room) zero under fits = refl
shown_more (b ∷ part) (z ∷ room) (suc i) under fits = ap (λ bytes. visible b ∷ bytes) (shown_more part room i (omega (arith, under)) (omega (arith, fits)))

pub loop-i-init : goal.loop-i-init
unfolding zeros
loop-i-init c = refl

pub loop-i-preserved : goal.loop-i-preserved
unfolding zeros
loop-i-preserved c =
    let part = c.args.window.now in
    let i = c.loop-i.i in
    let more = ap₂ (λ bytes byte. slice_set bytes i byte) c.loop-i.invariant c.visible.ensures ∙ shown_more part zeros i c.loop-i-test.true c.requires in
    let next : suc i ≡ i + 1 = omega arith in
    subst (λ k. slice_set c.loop-i.bytes i c.visible.result ≡ map visible (take k part) ++ drop k zeros) next more

pub returns : goal.returns
unfolding shown_bytes zeros
returns c =
    let part = c.args.window.now in
    let end : c.loop-i.i ≡ length part = omega (arith, c.loop-i-test.false) in
    let whole = ap₂ (λ bytes room. map visible bytes ++ room) (take_all c.loop-i.i part c.loop-i-test.false) (ap (λ k. drop k zeros) end) in
    c.loop-i.invariant ∙ whole
