-- The extension depends only on the labels with as many fixups left.
use Rattle.std.proofs.Common.{◌≡◌, ℕ, zero, suc, ◌+◌, ◌-◌, ◌≤◌, ◌==◌, ◌&&◌, List, [], ◌∷◌, length, refl, ap₂, arith}
use Rattle.std.proofs.Math.Path.{fun_ext}
use Rattle.pef_reloc.specs.declared.fixup.Fixup.{Fixup}
use Rattle.pef_cert.specs.Labels.{Labels, has_class}
use Rattle.pef_cert.specs.Extension.{at_offset, extension, moved_value, offer_of, skip, skip_more}

-- labels with these registers
abbrev pub over : List ℕ → (ℕ → ℕ → ℕ → ℕ) → Labels
over registers label = record { registers = registers; label = label }

-- labels are the same with up to so many fixups left
abbrev pub SameTo : ℕ → (ℕ → ℕ → ℕ → ℕ) → (ℕ → ℕ → ℕ → ℕ) → Type 0
SameTo most g h = (left c d : ℕ) → left ≤ most → g left c d ≡ h left c d

pub same_fewer : (n m : ℕ) (g h : ℕ → ℕ → ℕ → ℕ) → n ≤ m → SameTo m g h → SameTo n g h
same_fewer n m g h few same left c d under = same left c d (omega (arith, few, under))

mutual
  unfolding skip extension

  skip_same : (rs : List ℕ) (g h : ℕ → ℕ → ℕ → ℕ) (n p c d : ℕ) (fixups : List Fixup) → SameTo (length fixups) g h → skip (over rs g) n p c d fixups ≡ skip (over rs h) n p c d fixups
  skip_same rs g h zero p c d fixups same = refl
  skip_same rs g h (suc n) p c d [] same = refl
  skip_same rs g h (suc n) p c d (f ∷ rest) same =
      let fewer = same_fewer (length rest) (length (f ∷ rest)) g h (omega arith) same in
      ap₂ (λ one more. skip_more (f.offset == p && has_class rs d f.base) (1 + one) more) (extension_same rs g h (p + 4) c d rest fewer) (skip_same rs g h n (p + 4) c d rest fewer)

  pub extension_same : (rs : List ℕ) (g h : ℕ → ℕ → ℕ → ℕ) (p c d : ℕ) (fixups : List Fixup) → SameTo (length fixups) g h → extension (over rs g) fixups p c d ≡ extension (over rs h) fixups p c d
  extension_same rs g h p c d [] same = refl
  extension_same rs g h p c d (f ∷ rest) same =
      let fewer = same_fewer (length rest) (length (f ∷ rest)) g h (omega arith) same in
      ap₂ (λ label skips. at_offset (p == f.offset) label (moved_value (f.offset - p) label (offer_of (length rs + 1) skips c d))) (same (length (f ∷ rest)) c d (omega arith))
      (fun_ext (λ x. fun_ext (λ y. ap₂ (λ one more. skip_more (has_class rs y f.base) (1 + one) more) (extension_same rs g h (f.offset + 4) x y rest fewer) (skip_same rs g h 62 (f.offset + 4) x y rest fewer))))
