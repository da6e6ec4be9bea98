-- The best skip at a fixup is the least skip there.
use Rattle.std.proofs.Common.{◌≡◌, ℕ, suc, ◌+◌, ◌*◌, ◌<◌, ◌⊎◌, inl, inr, List, [], ◌∷◌, ◌++◌, length, Some, ap, ap₂, sym, ◌∙◌, subst, arith}
use Rattle.pef_reloc.specs.declared.fixup.Base.TheVariants.{Section}
use Rattle.pef_reloc.specs.declared.fixup.Fixup.{Fixup}
use Rattle.pef_reloc.specs.Steps.{added, row}
use Rattle.pef_cert.specs.Labels.{Labels, class_of}
use Rattle.pef_cert.specs.Extension.{extension, skips_at}
use Rattle.pef_cert.proofs.Laws.{AtMost, skip-is, skip-most}
use Rattle.pef_plan.specs.declared.runs.suffix.SolvedSuffix.{SolvedSuffix}
use Rattle.pef_plan.specs.declared.runs.state.OpenState.{OpenState}
use Rattle.pef_plan.specs.declared.runs.run.Run.TheVariants.{Skip}
use Rattle.pef_plan.specs.declared.runs.state.PlanState.{PlanState}
use Rattle.pef_plan.specs.Runs.Places.{HereOf, extension_in}
use Rattle.pef_plan.specs.Runs.Runs.{EndOf, Ends, Holds, unit}
use Rattle.pef_plan.specs.Runs.Tables.{Agrees}
use Rattle.pef_plan.proofs.RunsProofs.RunFacts.{units_skip}

one_row : (p k : ℕ) (f : Fixup) (rest : List Fixup) → f ≡ added p (Section k) → f ∷ rest ≡ row 1 p 4 (Section k) ++ rest
unfolding row
one_row p k f rest is = ap (λ g. g ∷ rest) is

low_skip : (l : Labels) (k : SolvedSuffix) (h : OpenState) (words section value first : ℕ) → HereOf k h → h.first.base ≡ Section section → class_of l.registers section ≡ h.place.d → first ≡ 1 + extension l h.others.now (h.first.offset + 4) h.place.c h.place.d → (value ≡ first) ⊎ EndOf l (Skip words section) h h.first.offset value → AtMost (skips_at l h.first h.others.now h.place.c h.place.d) value
low_skip l k h words section value first here base of is (inl same) =
    let end : h.first.offset + 4 ≡ h.first.offset + 4 * 1 = omega arith in
    let worth : value ≡ 1 + extension l h.others.now (h.first.offset + 4 * 1) h.place.c h.place.d = same ∙ (is ∙ ap (λ p. 1 + extension l h.others.now p h.place.c h.place.d) end) in
    let word : h.first ≡ added h.first.offset (Section section) = (λ i. record { offset = h.first.offset; base = base i }) in
    subst (λ (v : ℕ). AtMost (skips_at l h.first h.others.now h.place.c h.place.d) v) (sym worth)
    (skip-most l 63 h.first.offset h.place.c h.place.d section 0 (h.first ∷ h.others.now) h.others.now (omega arith) of (one_row h.first.offset section h.first h.others.now word))
low_skip l k h words section value first here base of is (inr end) =
    subst (λ (v : ℕ). AtMost (skips_at l h.first h.others.now h.place.c h.place.d) v) (sym end.is)
    (skip-most l 63 h.first.offset h.place.c h.place.d section end.more (h.first ∷ h.others.now) end.left end.under of
    (sym here.parts ∙ (end.parts ∙ ap (λ fs. fs ++ end.left) (sym (units_skip (suc end.more) h.first.offset h.place.import_index words section)))))

pub best_skip-is : (l : Labels) (k : SolvedSuffix) (h : OpenState) (words section value first : ℕ) → HereOf k h → Agrees l k h.others.now → h.first.base ≡ Section section → Holds k.registers.now section h.place.d → first ≡ 1 + extension l h.others.now (h.first.offset + 4) h.place.c h.place.d → (value ≡ first) ⊎ EndOf l (Skip words section) h h.first.offset value → Ends l (Skip words section) h h.first.offset value → skips_at l h.first h.others.now h.place.c h.place.d ≡ Some value
best_skip-is l k h words section value first here agrees base holds is attained ends =
    let same = agrees.same.registers_are in
    let of : class_of l.registers section ≡ h.place.d = ap (λ rs. class_of rs section) same ∙ holds.0 in
    let counts : h.place.d < length l.registers = (let e = ap length same in let u = holds.1 in omega (arith, e, u)) in
    let least = low_skip l k h words section value first here base of is attained in
    let skipped = skip-is l 63 h.first.offset h.place.c h.place.d section least.value (h.first ∷ h.others.now) of counts least.is in
    let low = ends skipped.count skipped.left skipped.under (here.parts ∙ (skipped.words ∙ ap (λ fs. fs ++ skipped.left) (units_skip (suc skipped.count) h.first.offset h.place.import_index words section))) in
    let worth = skipped.is in
    let high = least.low in
    let equal : least.value ≡ value = omega (arith, low, worth, high) in
    least.is ∙ ap Some equal

-- the best skip has at least one halfword
pub skip_some : (l : Labels) (h : OpenState) (words section value first after : ℕ) → first ≡ 1 + after → (value ≡ first) ⊎ EndOf l (Skip words section) h h.first.offset value → 0 < value
skip_some l h words section value first after is (inl same) = omega (arith, is, same)
skip_some l h words section value first after is (inr end) = let worth = end.is in omega (arith, worth)

pub skip_unit : (h : OpenState) (words section : ℕ) → h.first.base ≡ Section section → h.first ∷ [] ≡ unit (Skip words section) h.first.offset h.place.import_index
skip_unit h words section base =
    let word : h.first ≡ added h.first.offset (Section section) = (λ i. record { offset = h.first.offset; base = base i }) in
    ap (λ f. f ∷ []) word

pub skip_worth : (l : Labels) (h : OpenState) (q : PlanState) (value : ℕ) → q.left.now ≡ h.others.now → q.position ≡ h.first.offset + 4 → q.c ≡ h.place.c → q.d ≡ h.place.d → value ≡ extension l h.others.now (h.first.offset + 4) h.place.c h.place.d → 1 + value ≡ 1 + extension_in l q
skip_worth l h q value left position c d is =
    ap (λ n. 1 + n) (is
    ∙ (ap (λ fs. extension l fs (h.first.offset + 4) h.place.c h.place.d) (sym left)
    ∙ (ap (λ p. extension l q.left.now p h.place.c h.place.d) (sym position)
    ∙ ap₂ (λ x y. extension l q.left.now q.position x y) (sym c) (sym d))))
