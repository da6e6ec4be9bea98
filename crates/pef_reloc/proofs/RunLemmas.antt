-- The additions of a run, from the first one on.
use Rattle.std.proofs.Common.{◌≡◌, ℕ, zero, suc, ◌+◌, ◌-◌, ◌≤◌, [], ◌∷◌, drop, refl, arith}
use Rattle.pef_reloc.specs.declared.fixup.Base.{Base}
use Rattle.pef_reloc.specs.declared.fixup.Base.TheVariants.{Import}
use Rattle.pef_reloc.specs.declared.run.Added.{Added}
use Rattle.pef_reloc.specs.declared.run.Added.TheVariants.{Section, Pairs, Seconds, Imports}
use Rattle.pef_reloc.specs.declared.words.Row.{Row}
use Rattle.pef_reloc.specs.Kept.Added.{run_added}
use Rattle.pef_reloc.specs.Steps.{added, numbered, pairs, row}

-- a row of no words
pub run-end : (r : Row) (a : Added) → r.count ≡ 0 → run_added r a ≡ []
unfolding row pairs numbered
run-end r (Section k) none = rw none refl
run-end r (Pairs c d) none = rw none refl
run-end r (Seconds c d) none = rw none refl
run-end r (Imports m) none = rw none refl

pub row-first : (n p w : ℕ) (b : Base) → 1 ≤ n → row n p w b ≡ added p b ∷ row (n - 1) (p + w) w b
unfolding row
row-first zero p w b some = absurd (omega arith)
row-first (suc n) p w b some = let e : suc n - 1 ≡ n = omega arith in rw e refl

pub pairs-first : (n p w : ℕ) (b b' : Base) → 1 ≤ n → pairs n p w b b' ≡ added p b ∷ drop 1 (pairs n p w b b')
unfolding pairs
pairs-first zero p w b b' some = absurd (omega arith)
pairs-first (suc n) p w b b' some = refl

pub pairs-second : (n p w : ℕ) (b b' : Base) → 1 ≤ n → drop 1 (pairs n p w b b') ≡ added (p + 4) b' ∷ pairs (n - 1) (p + w) w b b'
unfolding pairs
pairs-second zero p w b b' some = absurd (omega arith)
pairs-second (suc n) p w b b' some = let e : suc n - 1 ≡ n = omega arith in rw e refl

-- in a run of imports the words are side by side
pub numbered-first : (n p m : ℕ) → 1 ≤ n → numbered n p m ≡ added p (Import m) ∷ numbered (n - 1) (p + 4) (m + 1)
unfolding numbered
numbered-first zero p m some = absurd (omega arith)
numbered-first (suc n) p m some = let e : suc n - 1 ≡ n = omega arith in rw e refl
