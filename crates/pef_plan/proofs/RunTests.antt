-- Runs against the tests of a label.
use Rattle.std.proofs.Common.{◌≡◌, ℕ, suc, ◌+◌, ◌<◌, ◌≤◌, refl, true, ◌==◌, List, ◌∷◌, ◌++◌, ap, ◌∙◌, subst}
use Rattle.std.proofs.lemmas.Bool.{and_from, le-leb, lt-leb}
use Rattle.pef_reloc.specs.declared.fixup.Base.TheVariants.{Section, Import}
use Rattle.pef_reloc.specs.declared.fixup.Fixup.{Fixup}
use Rattle.pef_cert.specs.Labels.{Labels, class_of}
use Rattle.pef_cert.specs.Extension.{extension}
use Rattle.pef_cert.specs.LabelTests.{base_test, import_cost, numbered_test, row_test}
use Rattle.pef_cert.proofs.Laws.{asked-met, import_tests-met, numbered_test-met, pairs_test-met, row_test-met, section_tests-met}
use Rattle.pef_plan.specs.declared.runs.suffix.SolvedSuffix.{SolvedSuffix}
use Rattle.pef_plan.specs.declared.runs.state.OpenState.{OpenState}
use Rattle.pef_plan.specs.declared.runs.run.Run.{Run}
use Rattle.pef_plan.specs.declared.runs.run.Run.TheVariants.{WordsOfC, WordsOfD, Spaced, Pairs, SpacedPairs, Imports}
use Rattle.pef_plan.specs.Runs.Places.{HereOf, bound_of}
use Rattle.pef_plan.specs.Runs.Runs.{Ends, EndsFrom, limit}
use Rattle.pef_words.proofs.Laws.Tests.{or_either}
use Rattle.pef_plan.specs.Kept.Met.{MetInC, MetInD, PairsMet}
use Rattle.pef_plan.proofs.RunsProofs.RunFacts.{units_c, units_d, units_far, units_imports, units_pairs, units_spaced}

-- the ends of a run that begins at the fixup
ends_here : (l : Labels) (k : SolvedSuffix) (h : OpenState) (r : Run) (value : ℕ) → HereOf k h → h.place.position ≡ h.first.offset → Ends l r h h.place.position value → EndsFrom l r value (limit r) (h.first ∷ h.others.now) h.first.offset h.place.import_index h.place.c h.place.d
ends_here l k h r value here at ends =
    subst (λ (p : ℕ). EndsFrom l r value (limit r) (h.first ∷ h.others.now) p h.place.import_index h.place.c h.place.d) at
    (subst (λ (fs : List Fixup). EndsFrom l r value (limit r) fs h.place.position h.place.import_index h.place.c h.place.d) here.parts ends)

-- the test of each kind of run that begins at the fixup
pub words_c_met : (l : Labels) (k : SolvedSuffix) (h : OpenState) (section n : ℕ) → HereOf k h → h.place.position ≡ h.first.offset → Ends l (WordsOfC section) h h.place.position n → row_test l n 4 (Section section) h.place.c h.place.d 512 h.first.offset (h.first ∷ h.others.now) ≡ true
words_c_met l k h section n here at ends = row_test-met l n 4 (Section section) _ _ 512 _ _ (λ j left under is.
    ends_here l k h (WordsOfC section) n here at ends j left under (is ∙ ap (λ fs. fs ++ left) (units_c (suc j) h.first.offset h.place.import_index section)))

pub words_d_met : (l : Labels) (k : SolvedSuffix) (h : OpenState) (section n : ℕ) → HereOf k h → h.place.position ≡ h.first.offset → Ends l (WordsOfD section) h h.place.position n → row_test l n 4 (Section section) h.place.c h.place.d 512 h.first.offset (h.first ∷ h.others.now) ≡ true
words_d_met l k h section n here at ends = row_test-met l n 4 (Section section) _ _ 512 _ _ (λ j left under is.
    ends_here l k h (WordsOfD section) n here at ends j left under (is ∙ ap (λ fs. fs ++ left) (units_d (suc j) h.first.offset h.place.import_index section)))

pub spaced_met : (l : Labels) (k : SolvedSuffix) (h : OpenState) (section n : ℕ) → HereOf k h → h.place.position ≡ h.first.offset → Ends l (Spaced section) h h.place.position n → row_test l n 8 (Section section) h.place.c h.place.d 512 h.first.offset (h.first ∷ h.others.now) ≡ true
spaced_met l k h section n here at ends = row_test-met l n 8 (Section section) _ _ 512 _ _ (λ j left under is.
    ends_here l k h (Spaced section) n here at ends j left under (is ∙ ap (λ fs. fs ++ left) (units_spaced (suc j) h.first.offset h.place.import_index section)))

pub pairs_met : (l : Labels) (k : SolvedSuffix) (h : OpenState) (first second n : ℕ) → HereOf k h → h.place.position ≡ h.first.offset → Ends l (Pairs first second) h h.place.position n → Ends l (SpacedPairs first second) h h.place.position n → PairsMet l h first second n
pairs_met l k h first second n here at near far =
    asked-met (class_of l.registers second == h.place.d) _ (λ is.
    and_from _ _
    (pairs_test-met l n 8 (Section first) (Section second) _ _ 512 _ _ (λ j left under is.
    ends_here l k h (Pairs first second) n here at near j left under (is ∙ ap (λ fs. fs ++ left) (units_pairs (suc j) h.first.offset h.place.import_index first second))))
    (pairs_test-met l n 12 (Section first) (Section second) _ _ 512 _ _ (λ j left under is.
    ends_here l k h (SpacedPairs first second) n here at far j left under (is ∙ ap (λ fs. fs ++ left) (units_far (suc j) h.first.offset h.place.import_index first second)))))

pub imports_met : (l : Labels) (k : SolvedSuffix) (h : OpenState) (import n : ℕ) → HereOf k h → h.place.position ≡ h.first.offset → h.place.import_index ≡ import → Ends l Imports h h.place.position n → numbered_test l n h.place.c h.place.d 512 h.first.offset import (h.first ∷ h.others.now) ≡ true
imports_met l k h import n here at next ends =
    subst (λ (m : ℕ). numbered_test l n h.place.c h.place.d 512 h.first.offset m (h.first ∷ h.others.now) ≡ true) next
    (numbered_test-met l n _ _ 512 _ _ _ (λ j left under is.
    ends_here l k h Imports n here at ends j left under (is ∙ ap (λ fs. fs ++ left) (units_imports (suc j) h.first.offset h.place.import_index))))

-- the bound of a choice above the label is its value
pub bound-above : (label value : ℕ) → label < value → bound_of label value ≡ value
bound-above label value above = rw (lt-leb value label above) refl

-- all runs that can begin by adding a section
pub section_met : (l : Labels) (h : OpenState) (index k value : ℕ) → value ≤ 1 + extension l h.others.now (h.first.offset + 4) h.place.c h.place.d → ((class_of l.registers k == h.place.c) ≡ true → MetInC l h k value) → ((class_of l.registers k == h.place.d) ≡ true → MetInD l h k value) → base_test l value index h.first h.others.now h.place.c h.place.d (Section k) ≡ true
section_met l h index k value low in_c in_d =
    section_tests-met l value index k h.first h.others.now h.place.c h.place.d (record {
      single = le-leb value (1 + extension l h.others.now (h.first.offset + 4) h.place.c h.place.d) low;
      words = or_either (class_of l.registers k == h.place.c) (class_of l.registers k == h.place.d) _ (λ is. (in_c is).words) (λ is. (in_d is).words);
      spaced = λ is. (in_d is).spaced;
      second = λ is. (in_c is).second;
    })

-- all runs that can begin by adding an import
pub import_met : (l : Labels) (h : OpenState) (k value : ℕ) → value ≤ import_cost k + extension l h.others.now (h.first.offset + 4) h.place.c h.place.d → ((k == h.place.import_index) ≡ true → numbered_test l value h.place.c h.place.d 512 h.first.offset k (h.first ∷ h.others.now) ≡ true) → base_test l value h.place.import_index h.first h.others.now h.place.c h.place.d (Import k) ≡ true
import_met l h k value low run =
    import_tests-met l value h.place.import_index k h.first h.others.now h.place.c h.place.d (record { single = low; imports = run })
