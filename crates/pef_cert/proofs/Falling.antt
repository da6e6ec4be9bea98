-- The extension falls by at most the length of an instruction, along every instruction that fits, isn't
-- a repeat and adds exactly the next fixups.
use Rattle.std.proofs.Common.{◌≡◌, ◌≢◌, ℕ, zero, suc, ◌+◌, ◌-◌, ◌*◌, ◌%◌, ◌<◌, ◌≤◌, inl, inr, true, ◌==◌, nat_le, List, [], ◌∷◌, ◌++◌, length, refl, ap, sym, ◌∙◌, subst, arith, eq-eqb, length-append}
use Rattle.std.specs.List.{AllByRecursion}
use Rattle.std.proofs.lemmas.Bool.{and_parts, leb-true}
use Rattle.std.proofs.lemmas.Bool.Decides.{eqb_tells}
use Rattle.pef_reloc.specs.declared.fixup.Base.TheVariants.{Section}
use Rattle.pef_reloc.specs.declared.fixup.Fixup.{Fixup}
use Rattle.pef_reloc.specs.declared.instr.Instr.{Instr}
use Rattle.pef_reloc.specs.declared.instr.Instr.TheVariants.{BySectDWithSkip, BySectC, BySectD, TVector12, TVector8, VTable8, ImportRun, SmByImport, SmSetSectC, SmSetSectD, SmBySection, IncrPosition, SmRepeat, SetPosition, LgByImport, LgRepeat, LgBySection, LgSetSectC, LgSetSectD}
use Rattle.pef_reloc.specs.Deliveries.{Delivers, index_after, index_past, is_flat_instr, passes_on}
use Rattle.pef_reloc.specs.Instrs.{instr_length}
use Rattle.pef_reloc.specs.Steps.{State, added, additions, next_state, numbered, pairs, row}
use Rattle.pef_reloc.proofs.Laws.{first_addition, index_kept}
use Rattle.pef_cert.specs.Labels.{Labels, class_of, classes}
use Rattle.pef_cert.specs.Extension.{change, extension, extension_at, offer_at}
use Rattle.pef_cert.specs.Feasible.{FeasibleFrom}
use Rattle.pef_cert.proofs.ClassLemmas.{Numbers, RegisteredBase, class_of-below}
use Rattle.pef_cert.proofs.ExtensionLemmas.{extension-away, extension-end, extension-here, skip-most}
use Rattle.pef_cert.proofs.LabelFacts.{Stands, extension-label, extension-set_c, extension-set_d, label-extension, label-offer, offer-most}
use Rattle.pef_cert.proofs.MinimaLemmas.{AtMost, Moved, far, late, moved-is, moved-late, moved-near, moved-skip, near, skips}

-- labels in order from some fixups on, with the import index there
pub record World (l : Labels) (index : ℕ) (fixups : List Fixup) : Type 0 where
  pub numbers : Numbers l
  pub registered : AllByRecursion (λ f. RegisteredBase l.registers f.base) fixups
  pub feasible : FeasibleFrom l index fixups

pub world-first : (l : Labels) (index : ℕ) (f : Fixup) (rest : List Fixup) → World l index (f ∷ rest) → Stands l index f rest
world-first l index f rest w = record { numbers = w.numbers; here = w.registered.0; feasible = w.feasible.0 }

pub world-next : (l : Labels) (index : ℕ) (f : Fixup) (rest : List Fixup) → World l index (f ∷ rest) → World l (index_past f.base index) rest
world-next l index f rest w = record { numbers = w.numbers; registered = w.registered.1; feasible = w.feasible.1 }

pub world-after : (l : Labels) (index : ℕ) (made left : List Fixup) → World l index (made ++ left) → World l (index_after made index) left
world-after l index [] left w = w
world-after l index (f ∷ made) left w = world-after l (index_past f.base index) made left (world-next l index f (made ++ left) w)

-- a move
moved_by : (l : Labels) (f : Fixup) (rest : List Fixup) (index p e c d x : ℕ) → Stands l index f rest → c < classes l → d < classes l → e ≤ 4096 → p ≢ f.offset → p + e ≢ f.offset → Moved (f.offset - (p + e)) (l.label (length (f ∷ rest)) c d) (offer_at l f rest c d) x → extension l (f ∷ rest) p c d ≤ 1 + x
moved_by l f rest index p e c d x stands under_c under_d short away off (far is) =
    let most = extension-label l f rest p c d in omega (arith, most, is)
moved_by l f rest index p e c d x stands under_c under_d short away off (near after before is) =
    let most = extension-label l f rest p c d in omega (arith, most, is)
moved_by l f rest index p e c d x stands under_c under_d short away off (skips after before even is) =
    rw (extension-away l f rest p c d away)
    (moved-late (f.offset - p) (l.label (length (f ∷ rest)) c d) (offer_at l f rest c d) x (omega arith) (omega arith) (record { value = x; is = is; low = omega arith }))
moved_by l f rest index p e c d x stands under_c under_d short away off (late w after before is sum) =
    let most = extension-label l f rest p c d in
    let low = label-offer l index f rest c d w stands under_c under_d is in
    omega (arith, most, low, sum)

falls_moving : (l : Labels) (f : Fixup) (rest : List Fixup) (index p e c d : ℕ) → Stands l index f rest → c < classes l → d < classes l → e ≤ 4096 → extension l (f ∷ rest) p c d ≤ 1 + extension l (f ∷ rest) (p + e) c d
falls_moving l f rest index p e c d stands under_c under_d short =
    elim (eqb_tells p f.offset) [
      | inl here ↦
          (let low = label-extension l index f rest (p + e) c d stands under_c under_d in
          let is = extension-here l f rest p c d here.1 in
          omega (arith, low, is))
      | inr away ↦ elim (eqb_tells (p + e) f.offset) [
        | inl lands ↦
            (let at = lands.1 in
            let apart = away.1 in
            let is = extension-here l f rest (p + e) c d lands.1 in
            let was = extension-away l f rest p c d away.1 in
            let most = moved-near (f.offset - p) (l.label (length (f ∷ rest)) c d) (offer_at l f rest c d) (omega arith) (omega arith) in
            omega (arith, is, was, most))
        | inr off ↦ rw (extension-away l f rest (p + e) c d off.1)
            (moved_by l f rest index p e c d _ stands under_c under_d short away.1 off.1 (moved-is (f.offset - (p + e)) (l.label (length (f ∷ rest)) c d) (offer_at l f rest c d)))
      ]
    ]

-- the statement to prove for an instruction
abbrev pub Falls : Labels → Instr → State → List Fixup → List Fixup → Type 0
Falls l x s fixups left = extension_at l fixups s ≤ instr_length x + extension_at l left (next_state x s)

-- an instruction that adds nothing leaves all fixups
falls_same : (l : Labels) (x : Instr) (s : State) (f : Fixup) (rest left : List Fixup) → Delivers x s (f ∷ rest) left → additions x s ≡ [] → Falls l x s (f ∷ rest) (f ∷ rest) → Falls l x s (f ∷ rest) left
falls_same l x s f rest left delivers none falls =
    subst (λ (fs : List Fixup). Falls l x s (f ∷ rest) fs) (delivers.is ∙ ap (λ made. made ++ left) none) falls

-- an instruction that begins to add at its position
falls_adding : (l : Labels) (x : Instr) (s : State) (f a : Fixup) (rest left more : List Fixup) → Stands l s.import_index f rest → is_flat_instr x ≡ true → Delivers x s (f ∷ rest) left → additions x s ≡ a ∷ more → passes_on x ≡ 0 → Falls l x s (f ∷ rest) left
falls_adding l x s f a rest left more stands flat delivers some at_once =
    let made : f ∷ rest ≡ a ∷ (more ++ left) = delivers.is ∙ ap (λ made. made ++ left) some in
    let first : f ≡ a = cc in
    let shorter : length left < length (f ∷ rest) = omega (arith, ap length made, length-append more left) in
    let here : s.position ≡ f.offset = omega (arith, first_addition x s a more some, at_once, ap (λ (g : Fixup). g.offset) first) in
    let is = extension-here l f rest s.position (class_of l.registers s.c) (class_of l.registers s.d) here in
    let falls = stands.feasible.adds x s left (record { position = here; index_is = refl }) flat delivers shorter in
    omega (arith, is, falls)

quarter : (u : ℕ) → ((4 * u) % 4 == 0) ≡ true
quarter u = eq-eqb ((4 * u) % 4) 0 (omega arith)

-- a skip that adds after the position
falls_skipping : (l : Labels) (u t : ℕ) (s : State) (f : Fixup) (rest left : List Fixup) → Stands l s.import_index f rest → suc u ≤ 255 → suc t ≤ 63 → Delivers (BySectDWithSkip (suc u) (suc t)) s (f ∷ rest) left → Falls l (BySectDWithSkip (suc u) (suc t)) s (f ∷ rest) left
unfolding row
falls_skipping l u t s f rest left stands near_enough few delivers =
    let word : f ≡ added (s.position + 4 * suc u) (Section s.d) = (let whole = delivers.is in cc) in
    let here : s.position + 4 * suc u ≡ f.offset = sym (ap (λ (g : Fixup). g.offset) word) in
    let c : ℕ = class_of l.registers s.c in
    let d : ℕ = class_of l.registers s.d in
    let words : f ∷ rest ≡ row (suc t) f.offset 4 (Section s.d) ++ left = delivers.is ∙ ap (λ p. row (suc t) p 4 (Section s.d) ++ left) here in
    let skip = skip-most l 63 f.offset c d s.d t (f ∷ rest) left (omega arith) refl words in
    let offer = offer-most l f rest c d c d (1 + extension l left (f.offset + 4 * suc t) c d) (class_of-below l s.c) (class_of-below l s.d) skip in
    let free : (change c c + change d d) + (1 + extension l left (f.offset + 4 * suc t) c d) ≡ 1 + extension l left (f.offset + 4 * suc t) c d = rw (eq-eqb c c refl, eq-eqb d d refl) (omega arith) in
    let away : s.position ≢ f.offset = omega arith in
    let ahead : f.offset - s.position ≡ 4 * suc u = omega arith in
    let even : ((f.offset - s.position) % 4 == 0) ≡ true = rw ahead (quarter (suc u)) in
    let end : f.offset + 4 * suc t ≡ s.position + (4 * suc u + 4 * suc t) = omega arith in
    let is = extension-away l f rest s.position c d away in
    let low = moved-skip (f.offset - s.position) (l.label (length (f ∷ rest)) c d) (offer_at l f rest c d) (1 + extension l left (f.offset + 4 * suc t) c d) (omega arith) (omega arith) even (subst (λ (n : ℕ). AtMost (offer_at l f rest c d) n) free offer) in
    let last = ap (λ p. extension l left p c d) end in
    omega (arith, is, low, last)

-- a register that is set, whatever it holds then
set_c : (l : Labels) (k n : ℕ) (s : State) (f : Fixup) (rest : List Fixup) → Stands l s.import_index f rest → 1 ≤ n → extension_at l (f ∷ rest) s ≤ n + extension_at l (f ∷ rest) (record s { c = k })
set_c l k n s f rest stands some =
    let one = extension-set_c l s.import_index f rest s.position (class_of l.registers s.c) (class_of l.registers k) (class_of l.registers s.d) stands (class_of-below l s.c) (class_of-below l k) (class_of-below l s.d) in
    omega (arith, one)

set_d : (l : Labels) (k n : ℕ) (s : State) (f : Fixup) (rest : List Fixup) → Stands l s.import_index f rest → 1 ≤ n → extension_at l (f ∷ rest) s ≤ n + extension_at l (f ∷ rest) (record s { d = k })
set_d l k n s f rest stands some =
    let one = extension-set_d l s.import_index f rest s.position (class_of l.registers s.c) (class_of l.registers s.d) (class_of l.registers k) stands (class_of-below l s.c) (class_of-below l s.d) (class_of-below l k) in
    omega (arith, one)

-- each instruction, if a fixup is left to make
pub falling : (l : Labels) (x : Instr) (s : State) (f : Fixup) (rest left : List Fixup) → Stands l s.import_index f rest → is_flat_instr x ≡ true → Delivers x s (f ∷ rest) left → Falls l x s (f ∷ rest) left
unfolding row pairs numbered
falling l (BySectDWithSkip u zero) s f rest left stands flat delivers =
    let few = leb-true u 255 (and_parts (nat_le u 255) (nat_le zero 63) flat).0 in
    falls_same l (BySectDWithSkip u zero) s f rest left delivers refl
    (falls_moving l f rest s.import_index s.position (4 * u + 4 * zero) (class_of l.registers s.c) (class_of l.registers s.d) stands (class_of-below l s.c) (class_of-below l s.d) (omega (arith, few)))
falling l (BySectDWithSkip zero (suc t)) s f rest left stands flat delivers = falls_adding l (BySectDWithSkip zero (suc t)) s f _ rest left _ stands flat delivers refl refl
falling l (BySectDWithSkip (suc u) (suc t)) s f rest left stands flat delivers =
    let both = and_parts (nat_le (suc u) 255) (nat_le (suc t) 63) flat in
    falls_skipping l u t s f rest left stands (leb-true (suc u) 255 both.0) (leb-true (suc t) 63 both.1) delivers
falling l (BySectC zero) s f rest left stands flat delivers = absurd (cc)
falling l (BySectC (suc n)) s f rest left stands flat delivers = falls_adding l (BySectC (suc n)) s f _ rest left _ stands flat delivers refl refl
falling l (BySectD zero) s f rest left stands flat delivers = absurd (cc)
falling l (BySectD (suc n)) s f rest left stands flat delivers = falls_adding l (BySectD (suc n)) s f _ rest left _ stands flat delivers refl refl
falling l (TVector12 zero) s f rest left stands flat delivers = absurd (cc)
falling l (TVector12 (suc n)) s f rest left stands flat delivers = falls_adding l (TVector12 (suc n)) s f _ rest left _ stands flat delivers refl refl
falling l (TVector8 zero) s f rest left stands flat delivers = absurd (cc)
falling l (TVector8 (suc n)) s f rest left stands flat delivers = falls_adding l (TVector8 (suc n)) s f _ rest left _ stands flat delivers refl refl
falling l (VTable8 zero) s f rest left stands flat delivers = absurd (cc)
falling l (VTable8 (suc n)) s f rest left stands flat delivers = falls_adding l (VTable8 (suc n)) s f _ rest left _ stands flat delivers refl refl
falling l (ImportRun zero) s f rest left stands flat delivers = absurd (cc)
falling l (ImportRun (suc n)) s f rest left stands flat delivers = falls_adding l (ImportRun (suc n)) s f _ rest left _ stands flat delivers refl refl
falling l (SmByImport k) s f rest left stands flat delivers = falls_adding l (SmByImport k) s f _ rest left _ stands flat delivers refl refl
falling l (SmBySection k) s f rest left stands flat delivers = falls_adding l (SmBySection k) s f _ rest left _ stands flat delivers refl refl
falling l (LgByImport k) s f rest left stands flat delivers = falls_adding l (LgByImport k) s f _ rest left _ stands flat delivers refl refl
falling l (LgBySection k) s f rest left stands flat delivers = falls_adding l (LgBySection k) s f _ rest left _ stands flat delivers refl refl
falling l (SmSetSectC k) s f rest left stands flat delivers =
    falls_same l (SmSetSectC k) s f rest left delivers refl (set_c l k 1 s f rest stands (omega arith))
falling l (SmSetSectD k) s f rest left stands flat delivers =
    falls_same l (SmSetSectD k) s f rest left delivers refl (set_d l k 1 s f rest stands (omega arith))
falling l (LgSetSectC k) s f rest left stands flat delivers =
    falls_same l (LgSetSectC k) s f rest left delivers refl (set_c l k 2 s f rest stands (omega arith))
falling l (LgSetSectD k) s f rest left stands flat delivers =
    falls_same l (LgSetSectD k) s f rest left delivers refl (set_d l k 2 s f rest stands (omega arith))
falling l (IncrPosition e) s f rest left stands flat delivers =
    let few = leb-true e 4096 (and_parts (nat_le 1 e) (nat_le e 4096) flat).1 in
    falls_same l (IncrPosition e) s f rest left delivers refl
    (falls_moving l f rest s.import_index s.position e (class_of l.registers s.c) (class_of l.registers s.d) stands (class_of-below l s.c) (class_of-below l s.d) few)
falling l (SetPosition q) s f rest left stands flat delivers =
    let most = extension-label l f rest s.position (class_of l.registers s.c) (class_of l.registers s.d) in
    let low = label-extension l s.import_index f rest q (class_of l.registers s.c) (class_of l.registers s.d) stands (class_of-below l s.c) (class_of-below l s.d) in
    falls_same l (SetPosition q) s f rest left delivers refl (omega (arith, most, low))
falling l (SmRepeat blocks count) s f rest left stands flat delivers = absurd (cc)
falling l (LgRepeat blocks count) s f rest left stands flat delivers = absurd (cc)

-- each instruction, whatever fixups are left to make
pub falls : (l : Labels) (x : Instr) (s : State) (fixups left : List Fixup) → World l s.import_index fixups → is_flat_instr x ≡ true → Delivers x s fixups left → Falls l x s fixups left
falls l x s [] left w flat delivers = rw (extension-end l s.position (class_of l.registers s.c) (class_of l.registers s.d)) (omega arith)
falls l x s (f ∷ rest) left w flat delivers = falling l x s f rest left (world-first l s.import_index f rest w) flat delivers

-- the labels are in order after it
pub world_left : (l : Labels) (x : Instr) (s : State) (fixups left : List Fixup) → World l s.import_index fixups → Delivers x s fixups left → World l (next_state x s).import_index left
world_left l x s fixups left w delivers =
    subst (λ (index : ℕ). World l index left) (sym (index_kept x s))
    (world-after l s.import_index (additions x s) left (subst (λ (fs : List Fixup). World l s.import_index fs) delivers.is w))
