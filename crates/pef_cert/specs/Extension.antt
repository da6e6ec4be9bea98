-- The labels extended to all positions.
use Rattle.std.specs.Prelude.{◌≡◌, ℕ, zero, suc, ◌+◌, ◌-◌, ◌%◌, ◌==◌, Bool, true, false, ◌&&◌, nat_le, if◌then◌else◌, List, [], ◌∷◌, length, Option, None, Some}
use Rattle.pef_reloc.specs.declared.fixup.Base.{Base}
use Rattle.pef_reloc.specs.declared.fixup.Base.TheVariants.{Section, Import}
use Rattle.pef_reloc.specs.declared.fixup.Fixup.{Fixup}
use Rattle.pef_reloc.specs.Steps.{State}
use Rattle.pef_cert.specs.Labels.{Labels, class_of, classes, has_class}
use Rattle.pef_cert.specs.Minima.{lesser, least_below, least_of, plus, when}

-- 1 if a register's class must change
abbrev pub change : ℕ → ℕ → ℕ
change c c' = if c == c' then 0 else 1

-- S*, from S: the least, over all classes c' and d', of S there and 1 for each register that differs
abbrev pub offer_of : ℕ → (ℕ → ℕ → Option ℕ) → ℕ → ℕ → Option ℕ
offer_of count skips c d = least_below count (λ c'. least_below count (λ d'. plus (change c c' + change d d') (skips c' d')))

-- G away from the offset of the next fixup, which lies this many bytes ahead (none if the position is past
-- it), from the label there and S*
abbrev pub moved_value : ℕ → ℕ → Option ℕ → ℕ
moved_value ahead label offer = least_of (2 + label)
    (when (nat_le 1 ahead && nat_le ahead 4096) (Some (1 + label))
    ∷ when (nat_le 4 ahead && nat_le ahead 1020 && ahead % 4 == 0) offer
    ∷ when (nat_le 1 ahead && nat_le ahead 5116) (plus 1 offer)
    ∷ [])

-- the value at the offset, or away from it
abbrev pub at_offset : Bool → ℕ → ℕ → ℕ
at_offset true label moved = label
at_offset false label moved = moved

-- the lesser of the value after one word and the value after more, if the one has the class
abbrev pub skip_more : Bool → ℕ → Option ℕ → Option ℕ
skip_more true one more = lesser (Some one) more
skip_more false one more = None

unfoldable mutual
  -- the least, over r from 1 to a count such that the first r of the fixups are 4 apart from a position on
  -- and all have a base section of class d, of 1 + G right after the last of them
  pub skip : Labels → ℕ → ℕ → ℕ → ℕ → List Fixup → Option ℕ
  skip l zero p c d fixups = None
  skip l (suc n) p c d [] = None
  skip l (suc n) p c d (f ∷ rest) =
      skip_more (f.offset == p && has_class l.registers d f.base) (1 + extension l rest (p + 4) c d) (skip l n (p + 4) c d rest)

  -- G: the value when these fixups are left to make, at a position, with classes c and d. For the fixups
  -- from f on, S is `skip` with a count of 63
  pub extension : Labels → List Fixup → ℕ → ℕ → ℕ → ℕ
  extension l [] p c d = 0
  extension l (f ∷ rest) p c d =
      at_offset (p == f.offset) (l.label (length (f ∷ rest)) c d)
      (moved_value (f.offset - p) (l.label (length (f ∷ rest)) c d)
      (offer_of (classes l) (λ c' d'. skip_more (has_class l.registers d' f.base) (1 + extension l rest (f.offset + 4) c' d') (skip l 62 (f.offset + 4) c' d' rest)) c d))

-- S when a fixup and others are left
abbrev pub skips_at : Labels → Fixup → List Fixup → ℕ → ℕ → Option ℕ
skips_at l f rest c d = skip l 63 f.offset c d (f ∷ rest)

-- S* there
abbrev pub offer_at : Labels → Fixup → List Fixup → ℕ → ℕ → Option ℕ
offer_at l f rest c d = offer_of (classes l) (skips_at l f rest) c d

-- S* at a fixup by its base, from the least S there with register C unchanged
abbrev pub OfferIs : Labels → Fixup → List Fixup → ℕ → ℕ → ℕ → Base → Type 0
OfferIs l f rest c d x (Section k) = offer_at l f rest c d ≡ Some (change d (class_of l.registers k) + x)
OfferIs l f rest c d x (Import k) = offer_at l f rest c d ≡ None

-- G at a state
abbrev pub extension_at : Labels → List Fixup → State → ℕ
extension_at l fixups s = extension l fixups s.position (class_of l.registers s.c) (class_of l.registers s.d)
