-- A window's best value is that of a run at a fixup.
use Rattle.std.proofs.Common.{◌≡◌, ℕ, ◌+◌, ◌*◌, ◌<◌, ◌≤◌, ◌⊎◌, inl, inr, List, [], ◌∷◌, length, refl, ap, sym, ◌∙◌, subst, arith}
use Rattle.pef_reloc.specs.declared.fixup.Base.{Base}
use Rattle.pef_reloc.specs.declared.fixup.Base.TheVariants.{Section, Import}
use Rattle.pef_reloc.specs.declared.fixup.Fixup.{Fixup}
use Rattle.pef_cert.specs.Labels.{Labels, class_of, classes}
use Rattle.pef_plan.specs.declared.runs.suffix.SolvedSuffix.{SolvedSuffix}
use Rattle.pef_plan.specs.declared.runs.state.OpenState.{OpenState}
use Rattle.pef_plan.specs.declared.runs.run.Run.{Run}
use Rattle.pef_plan.specs.declared.runs.run.Run.TheVariants.{WordsOfC, WordsOfD, Spaced, Pairs, SpacedPairs, Imports, Skip}
use Rattle.pef_plan.specs.declared.runs.ends.RunEnds.{RunEnds}
use Rattle.pef_plan.specs.Runs.Runs.{EndAmong, EndOf, Ends, EndsFrom, Holds, NextBase, RunBegins, RunOf, limit, stride, units}
use Rattle.pef_plan.specs.Runs.Ends.{EndRows, EndsAt, FarPairsAt, FarPairsKept, Holding, ImportsAt, ImportsKept, PairsAt, PairsKept, SpacedAt, SpacedKept, WordsOfCAt, WordsOfCKept, WordsOfDAt, WordsOfDKept, place_in, window_of}
use Rattle.pef_plan.specs.Runs.Places.{HereOf, Led}
use Rattle.pef_plan.specs.Runs.Tables.{Agrees, place_of}
use Rattle.pef_plan.specs.Windows.Windows.{BestOf, Bests, IsOne, Windowed}
use Rattle.pef_plan.proofs.RunsProofs.EndLemmas.{as_c, as_d, as_far, as_pairs, as_skip, as_spaced, best-led, best_end, best_ends, end_as, ends_as}
use Rattle.pef_plan.proofs.WindowsProofs.WindowLemmas.{each-lower}
use Rattle.pef_plan.proofs.RunsProofs.PlaceLemmas.{place_under}

-- a value is the better of a first one and the ends of a run at a fixup
pub record RunBest (k : SolvedSuffix) (h : OpenState) (r : Run) (first value : ℕ) : Type 0 where
  pub better : value ≤ first
  pub led : Led k h first → Led k h value
  pub one : (l : Labels) → Agrees l k h.others.now → (value ≡ first) ⊎ EndOf l r h h.place.position value
  pub ends : (l : Labels) (low : ℕ) → Agrees l k h.others.now → low ≤ value → Ends l r h h.place.position low

run_best : (k : SolvedSuffix) (h : OpenState) (r kept : Run) (m first value i : ℕ) (rows : List (List ℕ)) → HereOf k h → h.place.position ≡ h.first.offset → RunOf k.registers.now r h.place h.place.position → ((j : ℕ) → units kept j h.first.offset m ≡ units r j h.first.offset h.place.import_index) → stride kept ≡ stride r
    → ((l : Labels) → Agrees l k h.others.now → EndRows l kept (limit r) (h.first ∷ h.others.now) h.first.offset m h.place.c h.place.d i rows) → BestOf first rows i value → RunBest k h r first value
run_best k h r kept m first value i all here at of same wide rows best = record {
  better = best.first_is;
  led = λ led. best-led k h r first value i all of led best end;
  one = λ l agrees. elim best.one [
    | inl is ↦ inl is
    | inr one ↦ inr (end l agrees one)
  ];
  ends = λ l low agrees least.
      subst (λ (p : ℕ). EndsFrom l r low (limit r) h.place.left.now p h.place.import_index h.place.c h.place.d) (sym at)
      (subst (λ (fs : List Fixup). EndsFrom l r low (limit r) fs h.first.offset h.place.import_index h.place.c h.place.d) (sym here.parts)
      (ends_as l kept r low (limit r) (h.first ∷ h.others.now) h.first.offset m h.place.import_index h.place.c h.place.d same wide
      (best_ends l kept low (limit r) (h.first ∷ h.others.now) h.first.offset m h.place.c h.place.d i all (rows l agrees) (each-lower 1 value low all i best.each least))));
}
  where
    end : (l : Labels) → Agrees l k h.others.now → IsOne 1 value all i → EndOf l r h h.place.position value
    end l agrees one =
        subst (λ (p : ℕ). EndAmong l r (limit r) h.place.left.now p h.place.import_index h.place.c h.place.d value) (sym at)
        (subst (λ (fs : List Fixup). EndAmong l r (limit r) fs h.first.offset h.place.import_index h.place.c h.place.d value) (sym here.parts)
        (end_as l kept r (limit r) (h.first ∷ h.others.now) h.first.offset m h.place.import_index h.place.c h.place.d value same wide
        (best_end l kept value (limit r) (h.first ∷ h.others.now) h.first.offset m h.place.c h.place.d i all (rows l agrees) one)))

under_c : (l : Labels) (k : SolvedSuffix) (h : OpenState) → HereOf k h → Agrees l k h.others.now → h.place.c < classes l
under_c l k h here agrees = let e = ap length agrees.same.registers_are in let u = here.c in omega (arith, e, u)

under_d : (l : Labels) (k : SolvedSuffix) (h : OpenState) → HereOf k h → Agrees l k h.others.now → h.place.d < classes l
under_d l k h here agrees = let e = ap length agrees.same.registers_are in let u = here.d in omega (arith, e, u)

same_classes : (l : Labels) (k : SolvedSuffix) (h : OpenState) → Agrees l k h.others.now → classes l ≡ length k.registers.now + 1
same_classes l k h agrees = ap (λ rs. length rs + 1) agrees.same.registers_are

-- a register has the class of a section that it holds
held_class : (l : Labels) (k : SolvedSuffix) (h : OpenState) (section class : ℕ) → Agrees l k h.others.now → Holds k.registers.now section class → class ≡ class_of l.registers section
held_class l k h section class agrees holds = sym (ap (λ rs. class_of rs section) agrees.same.registers_are ∙ holds.0)

import_rows : (k : SolvedSuffix) (h : OpenState) (import : ℕ) (rows : List (List ℕ)) (l : Labels) → HereOf k h → h.first.base ≡ Import import → Agrees l k h.others.now → ImportsKept l (h.first ∷ h.others.now) rows → EndRows l Imports 512 (h.first ∷ h.others.now) h.first.offset import h.place.c h.place.d (place_of (length k.registers.now + 1) h.place.c h.place.d) rows
import_rows k h import rows l here base agrees kept =
    subst (λ (n : ℕ). EndRows l Imports 512 (h.first ∷ h.others.now) h.first.offset import h.place.c h.place.d (place_of n h.place.c h.place.d) rows) (same_classes l k h agrees)
    (subst (λ (b : Base). ImportsAt l h.first.offset (h.first ∷ h.others.now) rows b) base kept h.place.c h.place.d (under_c l k h here agrees) (under_d l k h here agrees))

pub words_c_best : (k : SolvedSuffix) (h : OpenState) (section first value : ℕ) (w : Windowed) → HereOf k h → h.place.position ≡ h.first.offset → RunOf k.registers.now (WordsOfC section) h.place h.place.position → h.first.base ≡ Section section → Holding (λ l. Agrees l k h.others.now) (length k.registers.now + 1) 512 (λ l rows. WordsOfCKept l (h.first ∷ h.others.now) rows) w → Bests w h.place.d first value → RunBest k h (WordsOfC section) first value
words_c_best k h section first value w here at of base held bests =
    run_best k h (WordsOfC section) (WordsOfD section) 0 first value h.place.d held.rows here at of (as_c section h.first.offset h.place.import_index) refl
    (λ l agrees. subst (λ (b : Base). WordsOfCAt l h.first.offset (h.first ∷ h.others.now) held.rows b) base (held.kept l agrees) h.place.c h.place.d (held_class l k h section h.place.c agrees of.0) (under_d l k h here agrees))
    (bests (length k.registers.now + 1) 512 held.rows held.is)

pub words_d_best : (k : SolvedSuffix) (h : OpenState) (section first value : ℕ) (w : Windowed) → HereOf k h → h.place.position ≡ h.first.offset → RunOf k.registers.now (WordsOfD section) h.place h.place.position → h.first.base ≡ Section section → Holding (λ l. Agrees l k h.others.now) (length k.registers.now + 1) 512 (λ l rows. WordsOfDKept 512 l (h.first ∷ h.others.now) rows) w → Bests w h.place.c first value → RunBest k h (WordsOfD section) first value
words_d_best k h section first value w here at of base held bests =
    run_best k h (WordsOfD section) (WordsOfD section) 0 first value h.place.c held.rows here at of (as_d section h.first.offset h.place.import_index) refl
    (λ l agrees. subst (λ (b : Base). WordsOfDAt 512 l h.first.offset (h.first ∷ h.others.now) held.rows b) base (held.kept l agrees) h.place.c h.place.d (under_c l k h here agrees) (held_class l k h section h.place.d agrees of.0))
    (bests (length k.registers.now + 1) 512 held.rows held.is)

pub skips_best : (k : SolvedSuffix) (h : OpenState) (words section first value : ℕ) (w : Windowed) → HereOf k h → h.place.position ≡ h.first.offset → RunOf k.registers.now (Skip words section) h.place h.place.position → h.first.base ≡ Section section → Holds k.registers.now section h.place.d → Holding (λ l. Agrees l k h.others.now) (length k.registers.now + 1) 63 (λ l rows. WordsOfDKept 63 l (h.first ∷ h.others.now) rows) w → Bests w h.place.c first value → RunBest k h (Skip words section) first value
skips_best k h words section first value w here at of base holds held bests =
    run_best k h (Skip words section) (WordsOfD section) 0 first value h.place.c held.rows here at of (as_skip words section h.first.offset h.place.import_index) refl
    (λ l agrees. subst (λ (b : Base). WordsOfDAt 63 l h.first.offset (h.first ∷ h.others.now) held.rows b) base (held.kept l agrees) h.place.c h.place.d (under_c l k h here agrees) (held_class l k h section h.place.d agrees holds))
    (bests (length k.registers.now + 1) 63 held.rows held.is)

pub spaced_best : (k : SolvedSuffix) (h : OpenState) (section first value : ℕ) (w : Windowed) → HereOf k h → h.place.position ≡ h.first.offset → RunOf k.registers.now (Spaced section) h.place h.place.position → h.first.base ≡ Section section → Holds k.registers.now section h.place.d → Holding (λ l. Agrees l k h.others.now) (length k.registers.now + 1) 512 (λ l rows. SpacedKept l (h.first ∷ h.others.now) rows) w → Bests w h.place.c first value → RunBest k h (Spaced section) first value
spaced_best k h section first value w here at of base holds held bests =
    run_best k h (Spaced section) (Spaced section) 0 first value h.place.c held.rows here at of (as_spaced section h.first.offset h.place.import_index) refl
    (λ l agrees. subst (λ (b : Base). SpacedAt l h.first.offset (h.first ∷ h.others.now) held.rows b) base (held.kept l agrees) h.place.c h.place.d (under_c l k h here agrees) (held_class l k h section h.place.d agrees holds))
    (bests (length k.registers.now + 1) 512 held.rows held.is)

pair_rows : (l : Labels) (f : Fixup) (others : List Fixup) (j s c d : ℕ) (rows : List (List ℕ)) → f.base ≡ Section j → NextBase (Section s) others → PairsKept l (f ∷ others) rows → c ≡ class_of l.registers j → d ≡ class_of l.registers s → EndRows l (Pairs j s) 512 (f ∷ others) f.offset 0 c d 0 rows
pair_rows l f [] j s c d rows base next kept is_c is_d = absurd next
pair_rows l f (g ∷ rest) j s c d rows base next kept is_c is_d =
    subst (λ (b : Base). PairsAt l f.offset (f ∷ g ∷ rest) rows (Section j) b) next (subst (λ (b : Base). PairsAt l f.offset (f ∷ g ∷ rest) rows b g.base) base kept) c d is_c is_d

far_pair_rows : (l : Labels) (f : Fixup) (others : List Fixup) (j s c d : ℕ) (rows : List (List ℕ)) → f.base ≡ Section j → NextBase (Section s) others → FarPairsKept l (f ∷ others) rows → c ≡ class_of l.registers j → d ≡ class_of l.registers s → EndRows l (SpacedPairs j s) 512 (f ∷ others) f.offset 0 c d 0 rows
far_pair_rows l f [] j s c d rows base next kept is_c is_d = absurd next
far_pair_rows l f (g ∷ rest) j s c d rows base next kept is_c is_d =
    subst (λ (b : Base). FarPairsAt l f.offset (f ∷ g ∷ rest) rows (Section j) b) next (subst (λ (b : Base). FarPairsAt l f.offset (f ∷ g ∷ rest) rows b g.base) base kept) c d is_c is_d

pairs_best : (k : SolvedSuffix) (h : OpenState) (j s first value : ℕ) (w : Windowed) → HereOf k h → h.place.position ≡ h.first.offset → RunOf k.registers.now (Pairs j s) h.place h.place.position → h.first.base ≡ Section j → NextBase (Section s) h.others.now → Holding (λ l. Agrees l k h.others.now) 1 512 (λ l rows. PairsKept l (h.first ∷ h.others.now) rows) w → Bests w 0 first value → RunBest k h (Pairs j s) first value
pairs_best k h j s first value w here at of base next held bests =
    run_best k h (Pairs j s) (Pairs j s) 0 first value 0 held.rows here at of (as_pairs j s h.first.offset h.place.import_index) refl
    (λ l agrees. pair_rows l h.first h.others.now j s h.place.c h.place.d held.rows base next (held.kept l agrees) (held_class l k h j h.place.c agrees of.0.0) (held_class l k h s h.place.d agrees of.0.1))
    (bests 1 512 held.rows held.is)

far_pairs_best : (k : SolvedSuffix) (h : OpenState) (j s first value : ℕ) (w : Windowed) → HereOf k h → h.place.position ≡ h.first.offset → RunOf k.registers.now (SpacedPairs j s) h.place h.place.position → h.first.base ≡ Section j → NextBase (Section s) h.others.now → Holding (λ l. Agrees l k h.others.now) 1 512 (λ l rows. FarPairsKept l (h.first ∷ h.others.now) rows) w → Bests w 0 first value → RunBest k h (SpacedPairs j s) first value
far_pairs_best k h j s first value w here at of base next held bests =
    run_best k h (SpacedPairs j s) (SpacedPairs j s) 0 first value 0 held.rows here at of (as_far j s h.first.offset h.place.import_index) refl
    (λ l agrees. far_pair_rows l h.first h.others.now j s h.place.c h.place.d held.rows base next (held.kept l agrees) (held_class l k h j h.place.c agrees of.0.0) (held_class l k h s h.place.d agrees of.0.1))
    (bests 1 512 held.rows held.is)

imports_best : (k : SolvedSuffix) (h : OpenState) (import first value : ℕ) (w : Windowed) → HereOf k h → h.place.position ≡ h.first.offset → RunOf k.registers.now Imports h.place h.place.position → h.first.base ≡ Import import → import ≡ h.place.import_index → Holding (λ l. Agrees l k h.others.now) ((length k.registers.now + 1) * (length k.registers.now + 1)) 512 (λ l rows. ImportsKept l (h.first ∷ h.others.now) rows) w → Bests w (place_of (length k.registers.now + 1) h.place.c h.place.d) first value → RunBest k h Imports first value
imports_best k h import first value w here at of base next held bests =
    run_best k h Imports Imports import first value (place_of (length k.registers.now + 1) h.place.c h.place.d) held.rows here at of (λ j. ap (λ m. units Imports j h.first.offset m) next) refl
    (λ l agrees. import_rows k h import held.rows l here base agrees (held.kept l agrees))
    (bests ((length k.registers.now + 1) * (length k.registers.now + 1)) 512 held.rows held.is)

by_run : (k : SolvedSuffix) (h : OpenState) (r : Run) (first value : ℕ) (e : RunEnds) → HereOf k h → h.place.position ≡ h.first.offset → RunOf k.registers.now r h.place h.place.position → RunBegins r h.place.import_index h.first.base h.others.now → EndsAt k h.others.now (h.first ∷ h.others.now) e → Bests (window_of e r) (place_in (length k.registers.now + 1) r h.place.c h.place.d) first value → RunBest k h r first value
by_run k h (WordsOfC section) first value e here at of begins ends bests = words_c_best k h section first value e.words.in_c here at of begins ends.words.in_c bests
by_run k h (WordsOfD section) first value e here at of begins ends bests = words_d_best k h section first value e.words.in_d here at of begins ends.words.in_d bests
by_run k h (Spaced section) first value e here at of begins ends bests = spaced_best k h section first value e.words.spaced here at of begins of.0 ends.words.spaced bests
by_run k h (Pairs j s) first value e here at of begins ends bests = pairs_best k h j s first value e.pairs.here here at of begins.0 begins.1 ends.pairs.here bests
by_run k h (SpacedPairs j s) first value e here at of begins ends bests = far_pairs_best k h j s first value e.far_pairs.here here at of begins.0 begins.1 ends.far_pairs.here bests
by_run k h Imports first value e here at of begins ends bests = imports_best k h h.place.import_index first value e.imports here at of begins refl ends.imports bests
by_run k h (Skip words section) first value e here at of begins ends bests = skips_best k h words section first value e.words.skips here at of begins of.0.0 ends.words.skips bests

-- the same for the window that belongs to a run
pub run_low : (k : SolvedSuffix) (h : OpenState) (r : Run) (first value i : ℕ) (e : RunEnds) (w : Windowed) → HereOf k h → h.place.position ≡ h.first.offset → RunOf k.registers.now r h.place h.place.position → RunBegins r h.place.import_index h.first.base h.others.now → EndsAt k h.others.now (h.first ∷ h.others.now) e → i ≡ place_in (length k.registers.now + 1) r h.place.c h.place.d → w ≡ window_of e r → Bests w i first value → RunBest k h r first value
run_low k h r first value i e w here at of begins ends place is bests =
    by_run k h r first value e here at of begins ends
    (subst (λ (x : Windowed). Bests x (place_in (length k.registers.now + 1) r h.place.c h.place.d) first value) is
    (subst (λ (n : ℕ). Bests w n first value) place bests))

-- the place is in the window's rows
pub place_inside : (k : SolvedSuffix) (h : OpenState) (r : Run) (e : RunEnds) → HereOf k h → EndsAt k h.others.now (h.first ∷ h.others.now) e → place_in (length k.registers.now + 1) r h.place.c h.place.d < (window_of e r).width
place_inside k h (WordsOfC section) e here ends = omega (arith, here.d, ends.words.in_c.is.width_is)
place_inside k h (WordsOfD section) e here ends = omega (arith, here.c, ends.words.in_d.is.width_is)
place_inside k h (Spaced section) e here ends = omega (arith, here.c, ends.words.spaced.is.width_is)
place_inside k h (Pairs j s) e here ends = omega (arith, ends.pairs.here.is.width_is)
place_inside k h (SpacedPairs j s) e here ends = omega (arith, ends.far_pairs.here.is.width_is)
place_inside k h Imports e here ends = let low = place_under (length k.registers.now + 1) h.place.c h.place.d here.c here.d in omega (arith, low, ends.imports.is.width_is)
place_inside k h (Skip words section) e here ends = omega (arith, here.c, ends.words.skips.is.width_is)
