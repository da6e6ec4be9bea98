-- Packed numbers: they are packed one by one, and read in order.
use Rattle.std.proofs.Common.{◌≡◌, ℕ, List, [], ◌++◌, sym, ap₂, ◌∙◌}
use Rattle.std.proofs.lemmas.List.{append-nil}
use Rattle.pef_labels.specs.Kept.Packed.{numbers_at}

-- after some numbers were packed, what is packed behind them comes behind them
abbrev pub Packs : ℕ → List ℕ → List ℕ → List ℕ → Type 0
Packs before steps far done = (ss ff : List ℕ) → numbers_at 0 (steps ++ ss) (far ++ ff) ≡ done ++ numbers_at before ss ff

-- all numbers were packed
pub packs-all : (before : ℕ) (steps far done : List ℕ) → Packs before steps far done → numbers_at 0 steps far ≡ done
packs-all before steps far done packs =
    ap₂ (numbers_at 0) (sym (append-nil steps)) (sym (append-nil far)) ∙ packs [] [] ∙ append-nil done
