-- The extension after the last fixup, at an offset and away from it; and the value of a skip.
use Rattle.std.proofs.Common.{◌≡◌, ◌≢◌, ℕ, zero, suc, ◌+◌, ◌-◌, ◌*◌, ◌<◌, ◌⊎◌, inl, inr, Bool, true, false, ◌&&◌, ◌==◌, List, [], ◌∷◌, ◌++◌, length, Option, Some, refl, ap, sym, ◌∙◌, subst, arith, eq-eqb}
use Rattle.std.proofs.lemmas.Bool.{and_parts, ne_eqb}
use Rattle.std.proofs.lemmas.Bool.Decides.{eqb_tells}
use Rattle.std.proofs.Math.Path.{fun_ext}
use Rattle.pef_reloc.specs.declared.fixup.Base.{Base}
use Rattle.pef_reloc.specs.declared.fixup.Base.TheVariants.{Section, Import}
use Rattle.pef_reloc.specs.declared.fixup.Fixup.{Fixup}
use Rattle.pef_reloc.specs.Steps.{added, row}
use Rattle.pef_cert.specs.Labels.{Labels, class_of, classes, has_class}
use Rattle.pef_cert.specs.Extension.{at_offset, extension, moved_value, offer_at, offer_of, skip, skip_more, skips_at}
use Rattle.pef_cert.proofs.ClassLemmas.{class_of-same}
use Rattle.pef_cert.proofs.MinimaLemmas.{AtMost, lesser-is, lesser-left, lesser-right}

-- after the last fixup
pub extension-end : (l : Labels) (p c d : ℕ) → extension l [] p c d ≡ 0
unfolding extension
extension-end l p c d = refl

pub skips-is : (l : Labels) (f : Fixup) (rest : List Fixup) (c d : ℕ) → skips_at l f rest c d ≡ skip_more (has_class l.registers d f.base) (1 + extension l rest (f.offset + 4) c d) (skip l 62 (f.offset + 4) c d rest)
unfolding skip
skips-is l f rest c d = rw (eq-eqb f.offset f.offset refl) refl

offer_same : (n : ℕ) (s t : ℕ → ℕ → Option ℕ) (c d : ℕ) → ((c' d' : ℕ) → s c' d' ≡ t c' d') → offer_of n s c d ≡ offer_of n t c d
offer_same n s t c d same = ap (λ (u : ℕ → ℕ → Option ℕ). offer_of n u c d) (fun_ext (λ c'. fun_ext (λ d'. same c' d')))

-- G, by S of up to 63 words
pub extension-is : (l : Labels) (f : Fixup) (rest : List Fixup) (p c d : ℕ) → extension l (f ∷ rest) p c d ≡ at_offset (p == f.offset) (l.label (length (f ∷ rest)) c d) (moved_value (f.offset - p) (l.label (length (f ∷ rest)) c d) (offer_at l f rest c d))
unfolding extension
extension-is l f rest p c d =
    ap (λ o. at_offset (p == f.offset) (l.label (length (f ∷ rest)) c d) (moved_value (f.offset - p) (l.label (length (f ∷ rest)) c d) o))
    (offer_same (classes l) _ (skips_at l f rest) c d (λ c' d'. sym (skips-is l f rest c' d')))

-- at the offset of the next fixup
pub extension-here : (l : Labels) (f : Fixup) (rest : List Fixup) (p c d : ℕ) → p ≡ f.offset → extension l (f ∷ rest) p c d ≡ l.label (length (f ∷ rest)) c d
extension-here l f rest p c d here = extension-is l f rest p c d ∙ rw (eq-eqb p f.offset here) refl

-- away from it
pub extension-away : (l : Labels) (f : Fixup) (rest : List Fixup) (p c d : ℕ) → p ≢ f.offset → extension l (f ∷ rest) p c d ≡ moved_value (f.offset - p) (l.label (length (f ∷ rest)) c d) (offer_at l f rest c d)
extension-away l f rest p c d away = extension-is l f rest p c d ∙ rw (ne_eqb p f.offset away) refl

-- a row of words is as long as its count
pub length-row : (n p w : ℕ) (b : Base) → length (row n p w b) ≡ n
unfolding row
length-row zero p w b = refl
length-row (suc n) p w b = ap suc (length-row n (p + w) w b)

-- the first word of a row, and the others
record RowParts (f : Fixup) (rest left : List Fixup) (n p w : ℕ) (b : Base) : Type 0 where
  first : f ≡ added p b
  others : rest ≡ row n (p + w) w b ++ left

row_parts : (f : Fixup) (rest left : List Fixup) (n p w : ℕ) (b : Base) → f ∷ rest ≡ row (suc n) p w b ++ left → RowParts f rest left n p w b
unfolding row
row_parts f rest left n p w b e = record { first = cc; others = cc }

skip_here : (p k class : ℕ) (f : Fixup) (rs : List ℕ) → f ≡ added p (Section k) → class_of rs k ≡ class → (f.offset == p && has_class rs class f.base) ≡ true
skip_here p k class f rs is of = rw (is, eq-eqb p p refl, eq-eqb (class_of rs k) class of) refl

-- if words of a section follow, one skip of up to this many is at most the value after any number of them
pub skip-most : (l : Labels) (n p c d k t : ℕ) (fixups left : List Fixup) → t < n → class_of l.registers k ≡ d → fixups ≡ row (suc t) p 4 (Section k) ++ left → AtMost (skip l n p c d fixups) (1 + extension l left (p + 4 * suc t) c d)
unfolding skip row
skip-most l zero p c d k t fixups left under of e = absurd (omega arith)
skip-most l (suc n) p c d k t [] left under of e = absurd (cc)
skip-most l (suc n) p c d k zero (f ∷ rest) left under of e =
    let parts = row_parts f rest left 0 p 4 (Section k) e in
    let end : p + 4 ≡ p + 4 * 1 = omega arith in
    let same = ap (λ fs. extension l fs (p + 4) c d) parts.others ∙ ap (λ q. extension l left q c d) end in
    rw (skip_here p k d f l.registers parts.first of)
    (lesser-left (Some (1 + extension l rest (p + 4) c d)) (skip l n (p + 4) c d rest) (1 + extension l left (p + 4 * 1) c d)
    (record { value = 1 + extension l rest (p + 4) c d; is = refl; low = omega (arith, same) }))
skip-most l (suc n) p c d k (suc t) (f ∷ rest) left under of e =
    let parts = row_parts f rest left (suc t) p 4 (Section k) e in
    let end : p + 4 + 4 * suc t ≡ p + 4 * suc (suc t) = omega arith in
    rw (skip_here p k d f l.registers parts.first of)
    (lesser-right (Some (1 + extension l rest (p + 4) c d)) (skip l n (p + 4) c d rest) (1 + extension l left (p + 4 * suc (suc t)) c d)
    (subst (λ (q : ℕ). AtMost (skip l n (p + 4) c d rest) (1 + extension l left q c d)) end
    (skip-most l n (p + 4) c d k t rest left (omega arith) of parts.others)))

-- the value of a skip is that after some of the words
pub record Skipped (l : Labels) (n p c d k : ℕ) (fixups : List Fixup) (x : ℕ) : Type 0 where
  pub count : ℕ
  pub left : List Fixup
  pub under : count < n
  pub words : fixups ≡ row (suc count) p 4 (Section k) ++ left
  pub is : x ≡ 1 + extension l left (p + 4 * suc count) c d

skip_more_is : (b : Bool) (one : ℕ) (more : Option ℕ) (x : ℕ) → skip_more b one more ≡ Some x → (b ≡ true) × ((one ≡ x) ⊎ (more ≡ Some x))
skip_more_is true one more x e =
    elim (lesser-is (Some one) more x e) [
      | inl first ↦ (refl, inl (cc))
      | inr second ↦ (refl, inr second)
    ]
skip_more_is false one more x e = absurd (cc)

base_is : (rs : List ℕ) (b : Base) (k class : ℕ) → class_of rs k ≡ class → class < length rs → has_class rs class b ≡ true → b ≡ Section k
base_is rs (Section j) k class of counts has =
    elim (eqb_tells (class_of rs j) class) [
      | inl same ↦ ap Section (class_of-same rs j k (same.1 ∙ sym of) (omega (arith, of)))
      | inr other ↦ (let wrong : true ≡ false = sym has ∙ other.0 in absurd (cc))
    ]
base_is rs (Import j) k class of counts has = absurd (cc)

word_is : (rs : List ℕ) (f : Fixup) (p k class : ℕ) → class_of rs k ≡ class → class < length rs → (f.offset == p && has_class rs class f.base) ≡ true → f ≡ added p (Section k)
word_is rs f p k class of counts met =
    let both = and_parts (f.offset == p) (has_class rs class f.base) met in
    let base = base_is rs f.base k class of counts both.1 in
    elim (eqb_tells f.offset p) [
      | inl same ↦ (λ i. record { offset = same.1 i; base = base i })
      | inr other ↦ (let wrong : true ≡ false = sym both.0 ∙ other.0 in absurd (cc))
    ]

pub skip-is : (l : Labels) (n p c d k x : ℕ) (fixups : List Fixup) → class_of l.registers k ≡ d → d < length l.registers → skip l n p c d fixups ≡ Some x → Skipped l n p c d k fixups x
unfolding skip row
skip-is l zero p c d k x fixups of counts e = absurd (cc)
skip-is l (suc n) p c d k x [] of counts e = absurd (cc)
skip-is l (suc n) p c d k x (f ∷ rest) of counts e =
    let parts = skip_more_is (f.offset == p && has_class l.registers d f.base) (1 + extension l rest (p + 4) c d) (skip l n (p + 4) c d rest) x e in
    let word = word_is l.registers f p k d of counts parts.0 in
    elim parts.1 [
      | inl one ↦ record {
        count = 0;
        left = rest;
        under = omega arith;
        words = ap (λ g. g ∷ rest) word;
        is = (let end : p + 4 ≡ p + 4 * 1 = omega arith in sym one ∙ ap (λ q. 1 + extension l rest q c d) end);
      }
      | inr more ↦
          (let later = skip-is l n (p + 4) c d k x rest of counts more in
          let end : p + 4 + 4 * suc later.count ≡ p + 4 * suc (suc later.count) = omega arith in
          record {
            count = suc later.count;
            left = later.left;
            under = omega (arith, later.under);
            words = ap (λ g. g ∷ rest) word ∙ ap (λ fs. added p (Section k) ∷ fs) later.words;
            is = later.is ∙ ap (λ q. 1 + extension l later.left q c d) end;
          })
    ]
