-- The least of some numbers is one of them, and at most each.
use Rattle.std.proofs.Common.{◌≡◌, ℕ, zero, suc, ◌+◌, ◌%◌, ◌<◌, ◌≤◌, ◌⊎◌, inl, inr, min, Bool, true, false, ◌&&◌, ◌==◌, nat_le, List, [], ◌∷◌, Option, None, Some, refl, ap, sym, ◌∙◌, subst, arith}
use Rattle.std.proofs.lemmas.Bool.{leb-true, le-leb, and_from, and_parts}
use Rattle.std.proofs.lemmas.Bool.Decides.{eqb_tells}
use Rattle.std.proofs.lemmas.Option.{same_Some}
use Rattle.pef_words.proofs.Laws.Numbers.{min_is}
use Rattle.pef_cert.specs.Minima.{least_below, least_of, lesser, plus, when}
use Rattle.pef_cert.specs.Extension.{moved_value}

-- a number that exists, and is at most another
pub record AtMost (o : Option ℕ) (bound : ℕ) : Type 0 where
  pub value : ℕ
  pub is : o ≡ Some value
  pub low : value ≤ bound

pub at_most-weaker : (o : Option ℕ) (x y : ℕ) → AtMost o x → x ≤ y → AtMost o y
at_most-weaker o x y m under = record { value = m.value; is = m.is; low = omega (arith, m.low) }

some_most : (v x : ℕ) → v ≤ x → AtMost (Some v) x
some_most v x low = record { value = v; is = refl; low = low }

none_some : (v : ℕ) → ◌≡◌ {A = Option ℕ} None (Some v) → ⊥
none_some v e = absurd (cc)

-- the lesser of two is at most each
pub lesser-left : (a b : Option ℕ) (x : ℕ) → AtMost a x → AtMost (lesser a b) x
lesser-left None b x m = absurd (none_some m.value m.is)
lesser-left (Some v) None x m = m
lesser-left (Some v) (Some w) x m = some_most (min v w) x (let e = same_Some v m.value m.is in omega (arith, e, m.low))

pub lesser-right : (a b : Option ℕ) (x : ℕ) → AtMost b x → AtMost (lesser a b) x
lesser-right None b x m = m
lesser-right (Some v) None x m = absurd (none_some m.value m.is)
lesser-right (Some v) (Some w) x m = some_most (min v w) x (let e = same_Some w m.value m.is in omega (arith, e, m.low))

-- and is one of them
pub lesser-is : (a b : Option ℕ) (x : ℕ) → lesser a b ≡ Some x → (a ≡ Some x) ⊎ (b ≡ Some x)
lesser-is None b x e = inr e
lesser-is (Some v) None x e = inl e
lesser-is (Some v) (Some w) x e =
    elim (min_is v w) [
      | inl first ↦ inl (ap Some (sym first) ∙ e)
      | inr second ↦ inr (ap Some (sym second) ∙ e)
    ]

-- the least below a number is at most each value
pub least_below-most : (n : ℕ) (f : ℕ → Option ℕ) (k x : ℕ) → k < n → AtMost (f k) x → AtMost (least_below n f) x
least_below-most zero f k x under m = absurd (omega arith)
least_below-most (suc n) f k x under m =
    elim (eqb_tells n k) [
      | inl same ↦ lesser-left (f n) (least_below n f) x (subst (λ (j : ℕ). AtMost (f j) x) (sym same.1) m)
      | inr other ↦ (let apart = other.1 in lesser-right (f n) (least_below n f) x (least_below-most n f k x (omega arith) m))
    ]

-- a value below a number
pub record ValueBelow (n : ℕ) (f : ℕ → Option ℕ) (x : ℕ) : Type 0 where
  pub at : ℕ
  pub under : at < n
  pub is : f at ≡ Some x

-- and is one of them
pub least_below-is : (n : ℕ) (f : ℕ → Option ℕ) (x : ℕ) → least_below n f ≡ Some x → ValueBelow n f x
least_below-is zero f x e = absurd (none_some x e)
least_below-is (suc n) f x e =
    elim (lesser-is (f n) (least_below n f) x e) [
      | inl here ↦ record { at = n; under = omega arith; is = here }
      | inr later ↦ (let r = least_below-is n f x later in record { at = r.at; under = omega (arith, r.under); is = r.is })
    ]

-- a number more
pub plus-most : (n : ℕ) (o : Option ℕ) (x : ℕ) → AtMost o x → AtMost (plus n o) (n + x)
plus-most n None x m = absurd (none_some m.value m.is)
plus-most n (Some v) x m = some_most (n + v) (n + x) (let e = same_Some v m.value m.is in omega (arith, e, m.low))

pub record PlusIs (n : ℕ) (o : Option ℕ) (x : ℕ) : Type 0 where
  pub value : ℕ
  pub is : o ≡ Some value
  pub sum : x ≡ n + value

pub plus-is : (n : ℕ) (o : Option ℕ) (x : ℕ) → plus n o ≡ Some x → PlusIs n o x
plus-is n None x e = absurd (none_some x e)
plus-is n (Some v) x e = record { value = v; is = refl; sum = sym (same_Some (n + v) x e) }

-- the least of a number and others is at most the number
pub least_of-low : (x : ℕ) (os : List (Option ℕ)) → least_of x os ≤ x
least_of-low x [] = omega arith
least_of-low x (None ∷ os) = least_of-low x os
least_of-low x (Some y ∷ os) = let low = least_of-low (min x y) os in omega (arith, low)

-- at most the first of the others
least_of-first : (x y : ℕ) (o : Option ℕ) (os : List (Option ℕ)) → AtMost o y → least_of x (o ∷ os) ≤ y
least_of-first x y None os m = absurd (none_some m.value m.is)
least_of-first x y (Some v) os m =
    let low = least_of-low (min x v) os in
    let e = same_Some v m.value m.is in
    omega (arith, low, e, m.low)

-- and at most the later ones
least_of-later : (x y : ℕ) (o : Option ℕ) (os : List (Option ℕ)) → ((z : ℕ) → least_of z os ≤ y) → least_of x (o ∷ os) ≤ y
least_of-later x y None os later = later x
least_of-later x y (Some v) os later = later (min x v)

-- one of the others
data Among : List (Option ℕ) → ℕ → Type 0 where
  here : {v : ℕ} {o : Option ℕ} {os : List (Option ℕ)} → o ≡ Some v → Among (o ∷ os) v
  there : {v : ℕ} {o : Option ℕ} {os : List (Option ℕ)} → Among os v → Among (o ∷ os) v

-- the least is the number or one of the others
least_of-is : (x : ℕ) (os : List (Option ℕ)) → (least_of x os ≡ x) ⊎ Among os (least_of x os)
least_of-is x [] = inl refl
least_of-is x (None ∷ os) =
    elim (least_of-is x os) [
      | inl first ↦ inl first
      | inr other ↦ inr (there other)
    ]
least_of-is x (Some y ∷ os) =
    elim (least_of-is (min x y) os) [
      | inr other ↦ inr (there other)
      | inl first ↦ elim (min_is x y) [
        | inl left ↦ inl (first ∙ left)
        | inr right ↦ inr (here (ap Some (sym (first ∙ right))))
      ]
    ]

when_most : (b : Bool) (o : Option ℕ) (x : ℕ) → b ≡ true → AtMost o x → AtMost (when b o) x
when_most true o x met m = m
when_most false o x met m = absurd (cc)

record WhenIs (b : Bool) (o : Option ℕ) (x : ℕ) : Type 0 where
  pub met : b ≡ true
  pub is : o ≡ Some x

when_is : (b : Bool) (o : Option ℕ) (x : ℕ) → when b o ≡ Some x → WhenIs b o x
when_is true o x e = record { met = refl; is = e }
when_is false o x e = absurd (none_some x e)

-- the values that the table of a position away from an offset has under a condition
abbrev near_value : ℕ → ℕ → Option ℕ
near_value ahead label = when (nat_le 1 ahead && nat_le ahead 4096) (Some (1 + label))

abbrev skip_value : ℕ → Option ℕ → Option ℕ
skip_value ahead offer = when (nat_le 4 ahead && nat_le ahead 1020 && ahead % 4 == 0) offer

abbrev late_value : ℕ → Option ℕ → Option ℕ
late_value ahead offer = when (nat_le 1 ahead && nat_le ahead 5116) (plus 1 offer)

from_to : (low high ahead : ℕ) → low ≤ ahead → ahead ≤ high → (nat_le low ahead && nat_le ahead high) ≡ true
from_to low high ahead after before = and_from (nat_le low ahead) (nat_le ahead high) (le-leb low ahead after) (le-leb ahead high before)

-- the value away from an offset is at most each value of its table
pub moved-far : (ahead label : ℕ) (offer : Option ℕ) → moved_value ahead label offer ≤ 2 + label
moved-far ahead label offer = least_of-low (2 + label) (near_value ahead label ∷ skip_value ahead offer ∷ late_value ahead offer ∷ [])

pub moved-near : (ahead label : ℕ) (offer : Option ℕ) → 1 ≤ ahead → ahead ≤ 4096 → moved_value ahead label offer ≤ 1 + label
moved-near ahead label offer after before =
    least_of-first (2 + label) (1 + label) (near_value ahead label) (skip_value ahead offer ∷ late_value ahead offer ∷ [])
    (when_most (nat_le 1 ahead && nat_le ahead 4096) (Some (1 + label)) (1 + label) (from_to 1 4096 ahead after before) (some_most (1 + label) (1 + label) (omega arith)))

pub moved-skip : (ahead label : ℕ) (offer : Option ℕ) (x : ℕ) → 4 ≤ ahead → ahead ≤ 1020 → (ahead % 4 == 0) ≡ true → AtMost offer x → moved_value ahead label offer ≤ x
moved-skip ahead label offer x after before even m =
    least_of-later (2 + label) x (near_value ahead label) (skip_value ahead offer ∷ late_value ahead offer ∷ []) (λ z.
    least_of-first z x (skip_value ahead offer) (late_value ahead offer ∷ [])
    (when_most (nat_le 4 ahead && nat_le ahead 1020 && ahead % 4 == 0) offer x (and_from (nat_le 4 ahead && nat_le ahead 1020) (ahead % 4 == 0) (from_to 4 1020 ahead after before) even) m))

pub moved-late : (ahead label : ℕ) (offer : Option ℕ) (x : ℕ) → 1 ≤ ahead → ahead ≤ 5116 → AtMost offer x → moved_value ahead label offer ≤ 1 + x
moved-late ahead label offer x after before m =
    least_of-later (2 + label) (1 + x) (near_value ahead label) (skip_value ahead offer ∷ late_value ahead offer ∷ []) (λ z.
    least_of-later z (1 + x) (skip_value ahead offer) (late_value ahead offer ∷ []) (λ y.
    least_of-first y (1 + x) (late_value ahead offer) []
    (when_most (nat_le 1 ahead && nat_le ahead 5116) (plus 1 offer) (1 + x) (from_to 1 5116 ahead after before) (plus-most 1 offer x m))))

-- and is one of them
pub data Moved (ahead label : ℕ) (offer : Option ℕ) (x : ℕ) : Type 0 where
  far : x ≡ 2 + label → Moved ahead label offer x
  near : 1 ≤ ahead → ahead ≤ 4096 → x ≡ 1 + label → Moved ahead label offer x
  skips : 4 ≤ ahead → ahead ≤ 1020 → (ahead % 4 == 0) ≡ true → offer ≡ Some x → Moved ahead label offer x
  late : (w : ℕ) → 1 ≤ ahead → ahead ≤ 5116 → offer ≡ Some w → x ≡ 1 + w → Moved ahead label offer x

moved_near : (ahead label : ℕ) (offer : Option ℕ) (x : ℕ) → WhenIs (nat_le 1 ahead && nat_le ahead 4096) (Some (1 + label)) x → Moved ahead label offer x
moved_near ahead label offer x w =
    let range = and_parts (nat_le 1 ahead) (nat_le ahead 4096) w.met in
    near (leb-true 1 ahead range.0) (leb-true ahead 4096 range.1) (sym (same_Some (1 + label) x w.is))

moved_skip : (ahead label : ℕ) (offer : Option ℕ) (x : ℕ) → WhenIs (nat_le 4 ahead && nat_le ahead 1020 && ahead % 4 == 0) offer x → Moved ahead label offer x
moved_skip ahead label offer x w =
    let both = and_parts (nat_le 4 ahead && nat_le ahead 1020) (ahead % 4 == 0) w.met in
    let range = and_parts (nat_le 4 ahead) (nat_le ahead 1020) both.0 in
    skips (leb-true 4 ahead range.0) (leb-true ahead 1020 range.1) both.1 w.is

moved_late : (ahead label : ℕ) (offer : Option ℕ) (x : ℕ) → WhenIs (nat_le 1 ahead && nat_le ahead 5116) (plus 1 offer) x → Moved ahead label offer x
moved_late ahead label offer x w =
    let range = and_parts (nat_le 1 ahead) (nat_le ahead 5116) w.met in
    let p = plus-is 1 offer x w.is in
    late p.value (leb-true 1 ahead range.0) (leb-true ahead 5116 range.1) p.is p.sum

moved_among : (ahead label : ℕ) (offer : Option ℕ) (x : ℕ) → Among (near_value ahead label ∷ skip_value ahead offer ∷ late_value ahead offer ∷ []) x → Moved ahead label offer x
moved_among ahead label offer x (here e) = moved_near ahead label offer x (when_is _ _ x e)
moved_among ahead label offer x (there (here e)) = moved_skip ahead label offer x (when_is _ _ x e)
moved_among ahead label offer x (there (there (here e))) = moved_late ahead label offer x (when_is _ _ x e)
moved_among ahead label offer x (there (there (there a))) = elim a [ ]

pub moved-is : (ahead label : ℕ) (offer : Option ℕ) → Moved ahead label offer (moved_value ahead label offer)
moved-is ahead label offer =
    elim (least_of-is (2 + label) (near_value ahead label ∷ skip_value ahead offer ∷ late_value ahead offer ∷ [])) [
      | inl first ↦ far first
      | inr other ↦ moved_among ahead label offer _ other
    ]
