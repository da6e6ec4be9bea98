-- The values at a fixup, and the least skips there.
use Rattle.std.proofs.Common.{◌≡◌, ℕ, ◌+◌, ◌*◌, ◌≤◌, ◌⊎◌, Bool, true, false, cond, nat_lt, List, ◌∷◌, length, Some, refl, ap, ap₂, sym, ◌∙◌, subst, arith}
use Rattle.std.proofs.lemmas.Bool.{lt-ltb, ltb-true}
use Rattle.pef_reloc.specs.declared.fixup.Base.{Base}
use Rattle.pef_reloc.specs.declared.fixup.Base.TheVariants.{Import, Section}
use Rattle.pef_reloc.specs.declared.instr.Instr.TheVariants.{LgByImport, SmByImport, SmBySection}
use Rattle.pef_reloc.specs.Fixups.{base_fits}
use Rattle.pef_reloc.specs.Limits.{most_imports, most_sections}
use Rattle.pef_reloc.specs.Steps.{State, added, next_state}
use Rattle.pef_reloc.proofs.Laws.{fixup_fits-parts}
use Rattle.pef_reloc.specs.declared.fixup.Fixup.{Fixup}
use Rattle.pef_cert.specs.Labels.{Labels, class_of}
use Rattle.pef_cert.specs.Extension.{extension, extension_at, skips_at}
use Rattle.pef_plan.specs.declared.runs.suffix.SolvedSuffix.{SolvedSuffix}
use Rattle.pef_plan.specs.declared.runs.state.OpenState.{OpenState}
use Rattle.pef_plan.specs.declared.runs.run.Run.TheVariants.{Skip}
use Rattle.pef_plan.specs.declared.runs.state.FixupState.{FixupState}
use Rattle.pef_plan.specs.Runs.Runs.{EndOf, Ends, Holds}
use Rattle.pef_plan.specs.Runs.Leads.{LeadsWithin}
use Rattle.pef_plan.specs.Runs.Places.{AtOf, HereOf, InPlace, Led}
use Rattle.pef_plan.specs.Kept.Rows.{DirectIs}
use Rattle.pef_plan.specs.Runs.Tables.{Agrees}
use Rattle.pef_cert.specs.LabelTests.{base_test}
use Rattle.pef_plan.proofs.RowLemmas.{With}
use Rattle.pef_plan.proofs.SkipFacts.{best_skip-is}

-- the best skip at a fixup is the least skip there
pub skip_is : (k : SolvedSuffix) (h : OpenState) (section first value : ℕ) (l : Labels) → HereOf k h → h.first.base ≡ Section section → Holds k.registers.now section h.place.d → h.first.offset ≡ h.place.position → ((l : Labels) → Agrees l k h.others.now → first ≡ 1 + extension l h.others.now (h.first.offset + 4) h.place.c h.place.d)
    → ((l : Labels) → Agrees l k h.others.now → (value ≡ first) ⊎ EndOf l (Skip 0 section) h h.place.position value) → ((l : Labels) (low : ℕ) → Agrees l k h.others.now → low ≤ value → Ends l (Skip 0 section) h h.place.position low) → Agrees l k h.others.now → skips_at l h.first h.others.now h.place.c h.place.d ≡ Some value
skip_is k h section first value l here base holds from is one ends agrees =
    best_skip-is l k h 0 section value first here agrees base holds (is l agrees)
    (subst (λ (p : ℕ). (value ≡ first) ⊎ EndOf l (Skip 0 section) h p value) (sym from) (one l agrees))
    (subst (λ (p : ℕ). Ends l (Skip 0 section) h p value) (sym from) (ends l value agrees (omega arith)))

-- the extension after the first fixup, from a state at it
after_first : (l : Labels) (k : SolvedSuffix) (h : OpenState) (s t : State) → Agrees l k h.others.now → h.place.position ≡ h.first.offset → InPlace k.registers.now h.place s → t.position ≡ s.position + 4 → t.c ≡ s.c → t.d ≡ s.d → extension_at l h.others.now t ≡ extension l h.others.now (h.first.offset + 4) h.place.c h.place.d
after_first l k h s t agrees at in_place position c d =
    let same = agrees.same.registers_are in
    let there : t.position ≡ h.first.offset + 4 = position ∙ ap (λ p. p + 4) (in_place.position ∙ at) in
    ap (λ p. extension l h.others.now p (class_of l.registers t.c) (class_of l.registers t.d)) there
    ∙ ap₂ (λ x y. extension l h.others.now (h.first.offset + 4) x y) (ap (class_of l.registers) c ∙ (ap (λ rs. class_of rs s.c) same ∙ in_place.c)) (ap (class_of l.registers) d ∙ (ap (λ rs. class_of rs s.d) same ∙ in_place.d))

-- the instruction that adds a base once
added_first : (k : SolvedSuffix) (h : OpenState) (b : Base) (p : ℕ) → HereOf k h → h.first.base ≡ b → p ≡ h.first.offset → h.place.left.now ≡ added p b ∷ h.others.now
added_first k h b p here base at =
    let word : h.first ≡ added h.first.offset b = (λ i. record { offset = h.first.offset; base = base i }) in
    here.parts ∙ ap (λ f. f ∷ h.others.now) (word ∙ ap (λ n. added n b) (sym at))

base_of : (k : SolvedSuffix) (h : OpenState) (b : Base) → HereOf k h → h.first.base ≡ b → base_fits b ≡ true
base_of k h b here base = subst (λ (x : Base). base_fits x ≡ true) base (fixup_fits-parts h.first here.fit.0).base

-- the instruction leads on within its halfwords plus the extension after it: for a section, and for an import
pub section_led : (k : SolvedSuffix) (h : OpenState) (section value : ℕ) → HereOf k h → h.place.position ≡ h.first.offset → h.first.base ≡ Section section → ((l : Labels) → Agrees l k h.others.now → value ≡ 1 + extension l h.others.now (h.first.offset + 4) h.place.c h.place.d) → Led k h value
section_led k h section value here at base is l s agrees in_place =
    let low = ltb-true section most_sections (base_of k h (Section section) here base) in
    let behind = after_first l k h s (next_state (SmBySection section) s) agrees at in_place refl refl refl in
    let worth = is l agrees in
    record {
      instr = SmBySection section;
      left = h.others.now;
      flat = lt-ltb section 512 (omega (arith, low));
      delivers = record { is = added_first k h (Section section) s.position here base (in_place.position ∙ at) };
      falls = omega (arith, behind, worth);
    }

pub import_by : (k : SolvedSuffix) (h : OpenState) (import value : ℕ) (small : Bool) → HereOf k h → h.place.position ≡ h.first.offset → h.first.base ≡ Import import → nat_lt import 512 ≡ small → ((l : Labels) → Agrees l k h.others.now → value ≡ cond small 1 2 + extension l h.others.now (h.first.offset + 4) h.place.c h.place.d) → Led k h value
import_by k h import value true here at base small is l s agrees in_place =
    let behind = after_first l k h s (next_state (SmByImport import) s) agrees at in_place refl refl refl in
    let worth = is l agrees in
    record {
      instr = SmByImport import;
      left = h.others.now;
      flat = small;
      delivers = record { is = added_first k h (Import import) s.position here base (in_place.position ∙ at) };
      falls = omega (arith, behind, worth);
    }
import_by k h import value false here at base small is l s agrees in_place =
    let low = ltb-true import most_imports (base_of k h (Import import) here base) in
    let behind = after_first l k h s (next_state (LgByImport import) s) agrees at in_place refl refl refl in
    let worth = is l agrees in
    record {
      instr = LgByImport import;
      left = h.others.now;
      flat = lt-ltb import 0x4000000 (omega (arith, low));
      delivers = record { is = added_first k h (Import import) s.position here base (in_place.position ∙ at) };
      falls = omega (arith, behind, worth);
    }

-- the value with the registers in two classes
pub low-is : (k : SolvedSuffix) (a : FixupState) (c d : ℕ) (h : OpenState) (value : ℕ) → AtOf k a → With a c d h → Led k h value → ((l : Labels) (n : ℕ) → Agrees l k h.others.now → n ≤ value → base_test l n h.place.import_index h.first h.others.now h.place.c h.place.d h.first.base ≡ true) → value ≤ 4 * length h.others.now + 4 → DirectIs k a c d value
low-is k a c d h value at w led least small = record {
  least = λ l n agrees low.
      subst (λ (m : ℕ). base_test l n m a.first a.others.now c d a.first.base ≡ true) w.import_index
      (subst (λ (f : Fixup). base_test l n h.place.import_index f a.others.now c d f.base ≡ true) w.first
      (subst (λ (fs : List Fixup). base_test l n h.place.import_index h.first fs c d h.first.base ≡ true) w.others
      (subst (λ (e : ℕ). base_test l n h.place.import_index h.first h.others.now e d h.first.base ≡ true) w.c_is
      (subst (λ (e : ℕ). base_test l n h.place.import_index h.first h.others.now h.place.c e h.first.base ≡ true) w.d_is
      (least l n (subst (λ (fs : List Fixup). Agrees l k fs) (sym w.others) agrees) low)))));
  led = λ l s agrees here c_is d_is.
      let same = agrees.same.registers_are in
      subst (λ (fs : List Fixup). LeadsWithin l s fs value) (w.left ∙ at.parts)
      (led l s (subst (λ (fs : List Fixup). Agrees l k fs) (sym w.others) agrees) (record {
        position = here.position ∙ sym w.position;
        import_index = here.index_is ∙ sym w.import_index;
        c = ap (λ rs. class_of rs s.c) (sym same) ∙ (c_is ∙ sym w.c_is);
        d = ap (λ rs. class_of rs s.d) (sym same) ∙ (d_is ∙ sym w.d_is);
      }));
  small = (let e = ap length w.others in omega (arith, small, e));
}
