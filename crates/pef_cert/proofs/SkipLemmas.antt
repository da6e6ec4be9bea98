-- The least of all offers at a section's fixup is a skip with register C unchanged; and upper bounds of
-- extensions.
use Rattle.std.proofs.Common.{◌≡◌, ℕ, zero, suc, ◌+◌, ◌*◌, ◌<◌, ◌≤◌, ◌⊎◌, inl, inr, true, false, ◌&&◌, ◌==◌, ◌-◌, min, List, [], ◌∷◌, ◌++◌, length, drop, Option, None, Some, refl, ap, sym, ◌∙◌, subst, arith, eq-eqb}
use Rattle.std.proofs.lemmas.Bool.Decides.{eqb_tells}
use Rattle.std.proofs.lemmas.List.{drop-drop}
use Rattle.pef_reloc.specs.declared.fixup.Base.{Base}
use Rattle.pef_reloc.specs.declared.fixup.Base.TheVariants.{Section, Import}
use Rattle.pef_reloc.specs.declared.fixup.Fixup.{Fixup}
use Rattle.pef_reloc.specs.Steps.{added, row}
use Rattle.std.proofs.lemmas.Option.{same_Some}
use Rattle.pef_cert.specs.Labels.{Labels, class_of, classes, has_class}
use Rattle.pef_cert.specs.Minima.{lesser}
use Rattle.pef_cert.specs.Extension.{change, extension, offer_at, skip, skips_at}
use Rattle.pef_cert.specs.Fixups.Additions.{same_base}
use Rattle.pef_cert.specs.Kept.Tests.{adds_first}
use Rattle.pef_cert.proofs.ClassLemmas.{class_of-same}
use Rattle.pef_cert.proofs.ExtensionLemmas.{extension-end, skip-is, skip-most, skips-is}
use Rattle.pef_cert.proofs.Falling.{World, world-after, world-first}
use Rattle.pef_cert.proofs.LabelFacts.{Offered, extension-set_c, offer-is, offer-most, skip_has}
use Rattle.pef_cert.proofs.MinimaLemmas.{AtMost, at_most-weaker}

-- the change of register C, whatever fixups are left to make
any-set_c : (l : Labels) (index : ℕ) (fixups : List Fixup) (p c c' d : ℕ) → World l index fixups → c < classes l → c' < classes l → d < classes l → extension l fixups p c d ≤ 1 + extension l fixups p c' d
any-set_c l index [] p c c' d w under under' under_d = let none = extension-end l p c d in omega (arith, none)
any-set_c l index (f ∷ rest) p c c' d w under under' under_d = extension-set_c l index f rest p c c' d (world-first l index f rest w) under under' under_d

words_after : (f : Fixup) (rest left : List Fixup) (n p k : ℕ) → f ∷ rest ≡ row (suc n) p 4 (Section k) ++ left → rest ≡ row n (p + 4) 4 (Section k) ++ left
unfolding row
words_after f rest left n p k e = cc

-- the value of a skip with another register C is at most 1 less
skip-set_c : (l : Labels) (index : ℕ) (f : Fixup) (rest : List Fixup) (c c' k x : ℕ) → World l index rest → class_of l.registers k < length l.registers → c < classes l → c' < classes l → skips_at l f rest c' (class_of l.registers k) ≡ Some x → AtMost (skips_at l f rest c (class_of l.registers k)) (1 + x)
skip-set_c l index f rest c c' k x w counts under under' e =
    let d : ℕ = class_of l.registers k in
    let s = skip-is l 63 f.offset c' d k x (f ∷ rest) refl counts e in
    let few = s.under in
    let behind : rest ≡ row s.count (f.offset + 4) 4 (Section k) ++ s.left = words_after f rest s.left s.count f.offset k s.words in
    let there = world-after l index (row s.count (f.offset + 4) 4 (Section k)) s.left (subst (λ (fs : List Fixup). World l index fs) behind w) in
    let low = any-set_c l _ s.left (f.offset + 4 * suc s.count) c c' d there under under' (omega (arith, counts)) in
    at_most-weaker (skips_at l f rest c d) (1 + extension l s.left (f.offset + 4 * suc s.count) c d) (1 + x)
    (skip-most l 63 f.offset c d k s.count (f ∷ rest) s.left few refl s.words)
    (omega (arith, low, s.is))

has_of : (l : Labels) (b : Base) (k d : ℕ) → b ≡ Section k → has_class l.registers d b ≡ true → class_of l.registers k ≡ d
has_of l b k d is has =
    elim (eqb_tells (class_of l.registers k) d) [
      | inl same ↦ same.1
      | inr other ↦ (let wrong : true ≡ false = sym has ∙ (ap (has_class l.registers d) is ∙ other.0) in absurd (cc))
    ]

-- it counts 0 if the class stays, and else 1
pub change_zero : (c : ℕ) → change c c ≡ 0
change_zero c = rw (eq-eqb c c refl) refl

pub change_one : (c c' : ℕ) → (change c c' ≡ 1) ⊎ (c ≡ c')
change_one c c' =
    elim (eqb_tells c c') [
      | inl same ↦ inr same.1
      | inr other ↦ inl (rw other.0 refl)
    ]

-- each offer is at least the skip with register C unchanged, and the change of D
offer-least : (l : Labels) (index : ℕ) (f : Fixup) (rest : List Fixup) (c d k x w : ℕ) → World l index rest → f.base ≡ Section k → class_of l.registers k < length l.registers → c < classes l → skips_at l f rest c (class_of l.registers k) ≡ Some x → Offered l f rest c d w → change d (class_of l.registers k) + x ≤ w
offer-least l index f rest c d k x w world base counts under e o =
    let has = skip_has (has_class l.registers o.class_d f.base) (1 + extension l rest (f.offset + 4) o.class_c o.class_d) (skip l 62 (f.offset + 4) o.class_c o.class_d rest) o.skip_value (sym (skips-is l f rest o.class_c o.class_d) ∙ o.skips_is) in
    let same = has_of l f.base k o.class_d base has in
    let there = subst (λ (b : ℕ). skips_at l f rest o.class_c b ≡ Some o.skip_value) (sym same) o.skips_is in
    let changes = ap (λ b. change d b) same in
    elim (change_one c o.class_c) [
      | inl one ↦
          (let m = skip-set_c l index f rest c o.class_c k o.skip_value world counts under o.under_c there in
          let is = same_Some m.value x (sym m.is ∙ e) in
          omega (arith, m.low, is, one, changes, o.is))
      | inr equal ↦
          (let at = subst (λ (b : ℕ). skips_at l f rest b (class_of l.registers k) ≡ Some o.skip_value) (sym equal) there in
          let is = same_Some o.skip_value x (sym at ∙ e) in
          omega (arith, is, changes, o.is))
    ]

-- the least offer at a section's fixup
pub offer-section : (l : Labels) (index : ℕ) (f : Fixup) (rest : List Fixup) (c d k x : ℕ) → World l index rest → f.base ≡ Section k → class_of l.registers k < length l.registers → c < classes l → skips_at l f rest c (class_of l.registers k) ≡ Some x → offer_at l f rest c d ≡ Some (change d (class_of l.registers k) + x)
offer-section l index f rest c d k x world base counts under e =
    let b : ℕ = class_of l.registers k in
    let none = change_zero c in
    let m = offer-most l f rest c d c b x under (omega (arith, counts)) (record { value = x; is = e; low = omega arith }) in
    let least = offer-least l index f rest c d k x m.value world base counts under e (offer-is l f rest c d m.value m.is) in
    let same : m.value ≡ change d b + x = omega (arith, m.low, least, none) in
    m.is ∙ ap Some same

-- at an import's fixup there is none
none_of : (o : Option ℕ) → ((x : ℕ) → o ≡ Some x → ⊥) → o ≡ None
none_of None never = refl
none_of (Some x) never = absurd (never x refl)

pub offer-import : (l : Labels) (f : Fixup) (rest : List Fixup) (c d k : ℕ) → f.base ≡ Import k → offer_at l f rest c d ≡ None
offer-import l f rest c d k base =
    none_of (offer_at l f rest c d) (λ x e.
    let o = offer-is l f rest c d x e in
    let has = skip_has (has_class l.registers o.class_d f.base) (1 + extension l rest (f.offset + 4) o.class_c o.class_d) (skip l 62 (f.offset + 4) o.class_c o.class_d rest) o.skip_value (sym (skips-is l f rest o.class_c o.class_d) ∙ o.skips_is) in
    let wrong : false ≡ true = sym (ap (has_class l.registers o.class_d) base) ∙ has in
    absurd (cc))

-- a skip along the words of a section, one step at a time
has-same : (l : Labels) (k : ℕ) (b : Base) → class_of l.registers k < length l.registers → has_class l.registers (class_of l.registers k) b ≡ same_base b (Section k)
has-same l k (Section j) counts =
    elim (eqb_tells j k) [
      | inl same ↦ (let there = eq-eqb (class_of l.registers j) (class_of l.registers k) (ap (class_of l.registers) same.1) in there ∙ sym same.0)
      | inr other ↦ elim (eqb_tells (class_of l.registers j) (class_of l.registers k)) [
        | inl equal ↦ absurd (other.1 (class_of-same l.registers j k equal.1 counts))
        | inr apart ↦ apart.0 ∙ sym other.0
      ]
    ]
has-same l k (Import j) counts = refl

skip_stops : (l : Labels) (n p c k : ℕ) (fs : List Fixup) → class_of l.registers k < length l.registers → adds_first p (Section k) fs ≡ false → skip l n p c (class_of l.registers k) fs ≡ None
unfolding skip
skip_stops l zero p c k fs counts e = refl
skip_stops l (suc n) p c k [] counts e = refl
skip_stops l (suc n) p c k (f ∷ rest) counts e = rw (ap (λ b. f.offset == p && b) (has-same l k f.base counts) ∙ e) refl

skip_steps : (l : Labels) (n p c k : ℕ) (fs : List Fixup) → class_of l.registers k < length l.registers → adds_first p (Section k) fs ≡ true → skip l (suc n) p c (class_of l.registers k) fs ≡ lesser (Some (1 + extension l (drop 1 fs) (p + 4) c (class_of l.registers k))) (skip l n (p + 4) c (class_of l.registers k) (drop 1 fs))
unfolding skip
skip_steps l n p c k [] counts e = absurd (cc)
skip_steps l n p c k (f ∷ rest) counts e = rw (ap (λ b. f.offset == p && b) (has-same l k f.base counts) ∙ e) refl

lesser_some : (a b : ℕ) (o : Option ℕ) → lesser (Some a) (lesser (Some b) o) ≡ lesser (Some (min a b)) o
lesser_some a b None = refl
lesser_some a b (Some x) = let same : min a (min b x) ≡ min (min a b) x = grind arith in ap Some same

-- the first word
pub skip-first : (l : Labels) (f : Fixup) (rest : List Fixup) (c k x : ℕ) → f.base ≡ Section k → class_of l.registers k < length l.registers → x ≡ 1 + extension l rest (f.offset + 4) c (class_of l.registers k) → lesser (Some x) (skip l 62 (f.offset + 4) c (class_of l.registers k) rest) ≡ skips_at l f rest c (class_of l.registers k)
skip-first l f rest c k x base counts is =
    let has : has_class l.registers (class_of l.registers k) f.base ≡ true = ap (has_class l.registers (class_of l.registers k)) base ∙ eq-eqb (class_of l.registers k) (class_of l.registers k) refl in
    sym (skips-is l f rest c (class_of l.registers k) ∙ rw (has, ← is) refl)

-- words that end
pub skip-stop : (l : Labels) (n p c k at least : ℕ) (fixups : List Fixup) (all : Option ℕ) → class_of l.registers k < length l.registers → lesser (Some least) (skip l n p c (class_of l.registers k) (drop at fixups)) ≡ all → false ≡ adds_first p (Section k) (drop at fixups) → all ≡ Some least
skip-stop l n p c k at least fixups all counts left e =
    sym left ∙ ap (lesser (Some least)) (skip_stops l n p c k (drop at fixups) counts (sym e))

-- one word more
pub skip-next : (l : Labels) (n i p c k at least next x : ℕ) (fixups : List Fixup) (all : Option ℕ) → i < n → class_of l.registers k < length l.registers → lesser (Some least) (skip l (n - i) p c (class_of l.registers k) (drop at fixups)) ≡ all → true ≡ adds_first p (Section k) (drop at fixups) → x ≡ extension l (drop (at + 1) fixups) (p + 4) c (class_of l.registers k) → next ≡ min least (1 + x) → lesser (Some next) (skip l (n - (i + 1)) (p + 4) c (class_of l.registers k) (drop (at + 1) fixups)) ≡ all
skip-next l n i p c k at least next x fixups all under counts left e is least_is =
    let steps : n - i ≡ suc (n - (i + 1)) = omega arith in
    let one : drop 1 (drop at fixups) ≡ drop (at + 1) fixups = drop-drop 1 at fixups in
    ap (λ y. lesser (Some y) (skip l (n - (i + 1)) (p + 4) c (class_of l.registers k) (drop (at + 1) fixups))) (least_is ∙ ap (λ y. min least (1 + y)) is)
    ∙ (sym (lesser_some least (1 + extension l (drop (at + 1) fixups) (p + 4) c (class_of l.registers k)) (skip l (n - (i + 1)) (p + 4) c (class_of l.registers k) (drop (at + 1) fixups)))
    ∙ (ap (λ fs. lesser (Some least) (lesser (Some (1 + extension l fs (p + 4) c (class_of l.registers k))) (skip l (n - (i + 1)) (p + 4) c (class_of l.registers k) fs))) (sym one)
    ∙ (ap (lesser (Some least)) (sym (skip_steps l (n - (i + 1)) p c k (drop at fixups) counts (sym e)))
    ∙ (ap (λ m. lesser (Some least) (skip l m p c (class_of l.registers k) (drop at fixups))) (sym steps) ∙ left))))

pub skip-end : (l : Labels) (n i p c k at least : ℕ) (fixups : List Fixup) (all : Option ℕ) → n ≤ i → lesser (Some least) (skip l (n - i) p c (class_of l.registers k) (drop at fixups)) ≡ all → all ≡ Some least
unfolding skip
skip-end l n i p c k at least fixups all past left =
    let none : n - i ≡ 0 = omega arith in
    sym (ap (λ m. lesser (Some least) (skip l m p c (class_of l.registers k) (drop at fixups))) (sym none) ∙ left)

-- the value of a skip is at most that of its first word
pub skip-low : (l : Labels) (f : Fixup) (rest : List Fixup) (c k x : ℕ) → f.base ≡ Section k → skips_at l f rest c (class_of l.registers k) ≡ Some x → x ≤ 1 + extension l rest (f.offset + 4) c (class_of l.registers k)
unfolding row
skip-low l f rest c k x base e =
    let word : f ≡ added f.offset (Section k) = (λ i. record { offset = f.offset; base = base i }) in
    let m = skip-most l 63 f.offset c (class_of l.registers k) k 0 (f ∷ rest) rest (omega arith) refl (ap (λ g. g ∷ rest) word) in
    let same = same_Some m.value x (sym m.is ∙ e) in
    let end : f.offset + 4 * 1 ≡ f.offset + 4 = omega arith in
    let there = ap (λ q. extension l rest q c (class_of l.registers k)) end in
    omega (arith, m.low, same, there)
