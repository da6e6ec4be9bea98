-- Lines and columns of numbers that were lowered to the values of runs.
use Rattle.std.proofs.Common.{◌≡◌, ℕ, ◌+◌, ◌<◌, ◌≤◌, ◌∷◌, ◌∙◌, List, length, slice_index, refl, true, ap, sym, subst, arith}
use Rattle.std.specs.Prelude.{slice_set}
use Rattle.std.proofs.lemmas.List.{get_or-set_other, get_or-set_same}
use Rattle.pef_reloc.specs.declared.fixup.Base.TheVariants.{Section}
use Rattle.pef_cert.specs.Labels.{Labels, class_of}
use Rattle.pef_cert.specs.LabelTests.{second_test}
use Rattle.pef_plan.specs.declared.runs.suffix.SolvedSuffix.{SolvedSuffix}
use Rattle.pef_plan.specs.declared.runs.state.FixupState.{FixupState}
use Rattle.pef_plan.specs.declared.runs.state.OpenState.{OpenState}
use Rattle.pef_plan.specs.declared.runs.run.Run.TheVariants.{WordsOfC}
use Rattle.pef_plan.specs.declared.runs.ends.RunEnds.{RunEnds}
use Rattle.pef_plan.specs.Kept.Rows.{Adds, AddsInBoth, AddsInC, state_of}
use Rattle.pef_plan.specs.Runs.Ends.{EndsAt}
use Rattle.pef_plan.specs.Runs.Places.{AtOf, Counts, Led}
use Rattle.pef_plan.specs.Runs.Tables.{Agrees, number_in, place_of}
use Rattle.pef_plan.specs.Windows.Windows.{Bests, BestsOfTwo, WindowOf, Windowed}
use Rattle.pef_plan.proofs.DirectLemmas.{adds-lower, here-of, in_c-lower}
use Rattle.pef_plan.proofs.RunTests.{spaced_met, words_c_met, words_d_met}
use Rattle.pef_plan.proofs.RunsProofs.PlaceLemmas.{same_place}
use Rattle.pef_plan.proofs.RunsProofs.EndBest.{RunBest, spaced_best, words_c_best, words_d_best}

-- the class of the fixup's section is one of the registers'
pub class_inside : (k : SolvedSuffix) (a : FixupState) (section class : ℕ) → AtOf k a → a.first.base ≡ Section section → class_of k.registers.now section ≡ class → class < length k.registers.now
class_inside k a section class at base is =
    let counts = subst (λ b. Counts k.registers.now b) base at.counts.0 in
    omega (arith, counts, is)

-- a number of a line after runs of words
pub words_best : (k : SolvedSuffix) (a : FixupState) (section class d first value : ℕ) (e : RunEnds) → AtOf k a → a.first.base ≡ Section section → class_of k.registers.now section ≡ class → d < length k.registers.now + 1 → EndsAt k a.others.now (a.first ∷ a.others.now) e → Bests e.words.in_c d first value → RunBest k (state_of a class d) (WordsOfC section) first value
words_best k a section class d first value e at base is under ends bests =
    let inside = class_inside k a section class at base is in
    words_c_best k (state_of a class d) section first value e.words.in_c (here-of k a class d at (omega (arith, inside)) under) refl ((is, inside), refl) base ends.words.in_c bests

-- a number of a line after runs of words and of pairs
pub adds-in_c : (k : SolvedSuffix) (a : FixupState) (section class d first between value : ℕ) (e : RunEnds) → AtOf k a → a.first.base ≡ Section section → class_of k.registers.now section ≡ class → d < length k.registers.now + 1 → EndsAt k a.others.now (a.first ∷ a.others.now) e
    → Adds k (state_of a class d) 1 first → Bests e.words.in_c d first between → value ≤ between → Led k (state_of a class d) value
    → ((l : Labels) (n : ℕ) → Agrees l k a.others.now → n ≤ value → second_test l n section class d a.first a.others.now ≡ true)
    → AddsInC k (state_of a class d) section value
adds-in_c k a section class d first between value e at base is under ends adds bests less led pairs =
    let h : OpenState = state_of a class d in
    let inside = class_inside k a section class at base is in
    let here = here-of k a class d at (omega (arith, inside)) under in
    let best = words_best k a section class d first between e at base is under ends bests in
    let better = best.better in
    record {
      adds = adds-lower k h 1 first value adds led (omega (arith, better, less));
      in_c = λ l n agrees low same. record {
        words = words_c_met l k h section n here refl (best.ends l n agrees (omega (arith, low, less)));
        second = pairs l n agrees low;
      };
    }

-- a number of a column after runs of words, and of words a word apart
pub adds-in_d : (k : SolvedSuffix) (a : FixupState) (section class c first value : ℕ) (e : RunEnds) → AtOf k a → a.first.base ≡ Section section → class_of k.registers.now section ≡ class → c < length k.registers.now + 1 → EndsAt k a.others.now (a.first ∷ a.others.now) e
    → AddsInC k (state_of a c class) section first → BestsOfTwo e.words.in_d e.words.spaced c first value → AddsInBoth k (state_of a c class) section value
adds-in_d k a section class c first value e at base is under ends adds two =
    let h : OpenState = state_of a c class in
    let inside = class_inside k a section class at base is in
    let here = here-of k a c class at under (omega (arith, inside)) in
    let one = words_d_best k h section first two.between e.words.in_d here refl ((is, inside), refl) base ends.words.in_d two.one in
    let other = spaced_best k h section two.between value e.words.spaced here refl ((is, inside), refl) base (is, inside) ends.words.spaced two.other in
    let less = one.better in
    let better = other.better in
    record {
      first = in_c-lower k h section first value adds (other.led (one.led adds.adds.led)) (omega (arith, less, better));
      in_d = λ l n agrees low same. record {
        words = words_d_met l k h section n here refl (one.ends l n agrees (omega (arith, low, better)));
        spaced = spaced_met l k h section n here refl (other.ends l n agrees low);
      };
    }

-- a number that is written to a row is there, and the others stay
pub set_there : (r : ℕ) (row : List ℕ) (place p q x : ℕ) → place ≡ place_of r p q → place < length row → number_in r (slice_set row place x) p q ≡ x
set_there r row place p q x is inside = ap (slice_index (slice_set row place x)) (sym is) ∙ get_or-set_same row place x 0 inside

pub set_elsewhere : (r : ℕ) (row : List ℕ) (place p q c d x : ℕ) → place ≡ place_of r p q → q < r → d < r → ((c ≡ p) × (d ≡ q) → ⊥) → number_in r (slice_set row place x) c d ≡ number_in r row c d
set_elsewhere r row place p q c d x is under_q under_d away =
    get_or-set_other row place (place_of r c d) x 0 (λ same. away (same_place r c d p q under_d under_q (same ∙ is)))

-- the least of a number and two windows' rows is at most the number
pub bests-better : (w v : Windowed) (i first value : ℕ) (rows others : List (List ℕ)) (width limit width' limit' : ℕ) → WindowOf width limit rows w → WindowOf width' limit' others v → BestsOfTwo w v i first value → value ≤ first
bests-better w v i first value rows others width limit width' limit' one other two =
    let less = (two.one width limit rows one).first_is in
    let better = (two.other width' limit' others other).first_is in
    omega (arith, less, better)

-- the least of the numbers of a row's line, which were copied before they were lowered
pub bests-in_line : (w : Windowed) (row copied line : List ℕ) (count r class : ℕ) → count ≡ r → length copied ≡ count
    → ((d : ℕ) → d < count → slice_index copied d ≡ number_in count row class d) → ((d : ℕ) → d < length copied → Bests w d (slice_index copied d) (slice_index line d))
    → (d : ℕ) → d < r → Bests w d (number_in r row class d) (slice_index line d)
bests-in_line w row copied line count r class same len is bests d under =
    subst (λ n. Bests w d n (slice_index line d)) (is d (omega (arith, under, same)) ∙ ap (λ n. number_in n row class d) same) (bests d (omega (arith, under, same, len)))
