-- What is left of a bound says how much was taken.
use Rattle.std.proofs.Common.{◌≡◌, ℕ, suc, ◌+◌, ◌-◌, ◌≤◌, ◌<◌, List, [], ◌∷◌, ◌++◌, Option, None, Some, refl, sym, ap, ◌∙◌, inl, inr, arith, subst, Ok, Err, IfSome, IfNone}
use Rattle.std.proofs.lemmas.Bool.Decides.{leb_tells}
use Rattle.std.proofs.lemmas.Option.{same_Some}
use Rattle.cfm_memory.specs.Placement.{taken}
use Rattle.pef_reloc.specs.Headers.{steps_by}
use Rattle.pef_reloc.specs.Unrolled.{program_fault, steps_of}
use Rattle.pef_reloc.specs.declared.fault.RelocFault.{RelocFault}
use Rattle.pef_views.specs.Container.{Contained}
use Rattle.pef_words.specs.Refusals.{unless}
use Rattle.cfm_sections.specs.Images.{extent_at, extents_from}
use Rattle.cfm_prepare.specs.Bounds.{AreWithin, IsFirstPast, PassesAt, bytes_of, total}
use Rattle.cfm_prepare.specs.Kept.Bounds.{first_past, left_of}

-- more than is left is taken
pub left-past : (left n more : ℕ) → left < n → left_of left (n + more) ≡ None
left-past left n more past = elim (leb_tells (n + more) left) [ inl h ↦ absurd (omega (arith, h.1, past)) | inr h ↦ rw h.0 refl ]

-- a part is taken, and then the rest
pub left-here : (left n more : ℕ) → n ≤ left → left_of left (n + more) ≡ left_of (left - n) more
left-here left n more fits = elim (leb_tells more (left - n)) [
  | inl h ↦ elim (leb_tells (n + more) left) [ inl k ↦ (let same : left - (n + more) ≡ left - n - more = omega arith in rw (h.0, k.0) (ap Some same)) | inr k ↦ absurd (omega (arith, h.1, k.1, fits)) ]
  | inr h ↦ elim (leb_tells (n + more) left) [ inl k ↦ absurd (omega (arith, h.1, k.1)) | inr k ↦ rw (h.0, k.0) refl ]
]

-- nothing is taken
pub left-all : (left : ℕ) → left_of left 0 ≡ Some left
left-all left = elim (leb_tells 0 left) [ inl h ↦ (let same : left - 0 ≡ left = omega arith in rw h.0 (ap Some same)) | inr h ↦ absurd (omega (arith, h.1)) ]

-- if all that is left suffices, the fragments take no more
pub within-left : (weight : ℕ → ℕ) (left : ℕ) (ps : List ℕ) → first_past weight left ps ≡ None → total weight ps ≤ left
within-left weight left [] none = omega arith
within-left weight left (p ∷ ps) none = elim (leb_tells (weight p) left) [
  | inl fits ↦ (let later = within-left weight (left - weight p) ps (rw fits.0 at none) in omega (arith, later, fits.1))
  | inr past ↦ (let wrong : Some p ≡ None = rw past.0 at none in absurd (cc))
]

-- otherwise the first for which it doesn't
pub past-left : (weight : ℕ → ℕ) (left : ℕ) (ps : List ℕ) (q : ℕ) → first_past weight left ps ≡ Some q → IsFirstPast left weight ps q
past-left weight left [] q some = absurd (cc)
past-left weight left (p ∷ ps) q some = elim (leb_tells (weight p) left) [
  | inl fits ↦
      (let later = past-left weight (left - weight p) ps q (rw fits.0 at some) in
      record {
        front = p ∷ later.front;
        back = later.back;
        is = ap (λ (xs : List ℕ). p ∷ xs) later.is;
        within = omega (arith, later.within, fits.1);
        past = omega (arith, later.past, fits.1);
      })
  | inr past ↦
      (let same : p ≡ q = same_Some p q (rw past.0 at some) in
      record {
        front = [];
        back = ps;
        is = ap (λ (x : ℕ). x ∷ ps) same;
        within = omega arith;
        past = omega (arith, past.1, ap weight same);
      })
]

-- the fragments before one and after it take no more than all
total-parts : (weight : ℕ → ℕ) (front rest : List ℕ) → total weight (front ++ rest) ≡ total weight front + total weight rest
total-parts weight [] rest = omega arith
total-parts weight (p ∷ front) rest = let later = total-parts weight front rest in omega (arith, later)

-- fragments that take no more than is allowed don't take more
pub not-past : (bound : Option ℕ) (weight : ℕ → ℕ) (ps : List ℕ) (p : ℕ) → AreWithin bound weight ps → PassesAt bound weight ps p → ⊥
not-past None weight ps p within past = past
not-past (Some most) weight ps p within past =
    let all = ap (total weight) past.is in
    let parts = total-parts weight past.front (p ∷ past.back) in
    omega (arith, within, past.past, all, parts)

-- what is left, if a part of the rest is taken, if it is too much, and if there is no rest
pub step-here : (left n more rest : ℕ) (o : Option ℕ) → rest ≡ n + more → n ≤ left → left_of left rest ≡ o → left_of (left - n) more ≡ o
step-here left n more rest o is fits all = sym (left-here left n more fits) ∙ ap (left_of left) (sym is) ∙ all

pub step-past : (left n more rest : ℕ) (o : Option ℕ) → rest ≡ n + more → left < n → left_of left rest ≡ o → None ≡ o
step-past left n more rest o is past all = sym (left-past left n more past) ∙ ap (left_of left) (sym is) ∙ all

pub step-end : (left rest : ℕ) (o : Option ℕ) → rest ≡ 0 → left_of left rest ≡ o → Some left ≡ o
step-end left rest o is all = sym (left-all left) ∙ ap (left_of left) (sym is) ∙ all

-- the bytes of the sections from one on
pub bytes-next : (c : Contained) (g i n : ℕ) → i < n → bytes_of g (extents_from c i (n - i)) ≡ taken g (extent_at c i).size + bytes_of g (extents_from c (i + 1) (n - (i + 1)))
bytes-next c g i n under = let e : n - i ≡ suc (n - (i + 1)) = omega arith in rw e refl

-- the steps of the programs from one on
pub steps-next : (header : ℕ → Option (ℕ × List ℕ)) (i n section : ℕ) (program : List ℕ) → i < n → header i ≡ Some (section, program) → program_fault program ≡ None → steps_by header i (n - i) ≡ steps_of program + steps_by header (i + 1) (n - (i + 1))
steps-next header i n section program under is readable = let e : n - i ≡ suc (n - (i + 1)) = omega arith in rw (e, is, readable) refl

pub steps-last : (header : ℕ → Option (ℕ × List ℕ)) (i n section : ℕ) (program : List ℕ) (f : RelocFault) → i < n → header i ≡ Some (section, program) → program_fault program ≡ Some f → steps_by header i (n - i) ≡ 0
steps-last header i n section program f under is unreadable = let e : n - i ≡ suc (n - (i + 1)) = omega arith in rw (e, is, unreadable) refl

-- what the search for the first fragment that passes a bound says
pub past-some : (bound : Option ℕ) (most : ℕ) (weight : ℕ → ℕ) (ps : List ℕ) (r : Option ℕ) → bound ≡ Some most → r ≡ first_past weight most ps → IfSome r (λ p. PassesAt bound weight ps p)
past-some bound most weight ps None is first = tt
past-some bound most weight ps (Some p) is first = subst (λ b. PassesAt b weight ps p) (sym is) (past-left weight most ps p (sym first))

pub within-none : (bound : Option ℕ) (most : ℕ) (weight : ℕ → ℕ) (ps : List ℕ) (r : Option ℕ) → bound ≡ Some most → r ≡ first_past weight most ps → IfNone r (AreWithin bound weight ps)
within-none bound most weight ps None is first = subst (λ b. AreWithin b weight ps) (sym is) (within-left weight most ps (sym first))
within-none bound most weight ps (Some p) is first = tt

-- a program was read, or not
pub was-read : (f : Option RelocFault) (found bytes : List ℕ) → Ok found ≡ unless f (Ok bytes) → (f ≡ None) × (found ≡ bytes)
was-read None found bytes is = (refl, cc)
was-read (Some g) found bytes is = absurd (cc)

pub was-unread : (f : Option RelocFault) (bytes : List ℕ) (e : RelocFault) → Err e ≡ unless f (Ok bytes) → f ≡ Some e
was-unread None bytes e is = absurd (cc)
was-unread (Some g) bytes e is = cc
