-- The words of a row, of pairs and of imports, as they are tested one by one or all at once.
use Rattle.std.proofs.Common.{◌≡◌, ℕ, zero, suc, ◌+◌, ◌-◌, ◌*◌, ◌<◌, ◌≤◌, List, [], ◌∷◌, map, None, Some, refl, ◌∙◌, arith}
use Rattle.std.specs.Option.{option_or}
use Rattle.std.proofs.lemmas.Bool.{le-leb, lt-ltb}
use Rattle.pef_reloc.specs.declared.fixup.Base.TheVariants.{Section, Import}
use Rattle.pef_reloc.specs.declared.stop.Stop.{Stop}
use Rattle.pef_reloc.specs.declared.verifying.Sizes.{Sizes}
use Rattle.pef_reloc.specs.Steps.{Act, add, added, row, pairs, numbered}
use Rattle.pef_reloc.specs.Verified.{act_stop, first_stop}
use Rattle.pef_reloc.proofs.Rows.{row-end, row-more, pairs-end, pairs-more, numbered-end, numbered-more}

pub row-step : (z : Sizes) (n i p w k : ℕ) → i < n → first_stop z (map add (row (n - i) p w (Section k))) ≡ option_or (act_stop z (add (added p (Section k)))) (first_stop z (map add (row (n - (i + 1)) (p + w) w (Section k))))
unfolding first_stop
row-step z n i p w k under = rw (row-more n i p w (Section k) under) refl

pub row-past : (z : Sizes) (n i p w k : ℕ) → n ≤ i → first_stop z (map add (row (n - i) p w (Section k))) ≡ None
unfolding first_stop
row-past z n i p w k past = rw (row-end n i p w (Section k) past) refl

-- the last word of a row ends inside, and so do all
pub row-inside : (z : Sizes) (n p w k : ℕ) → p + w * n + 4 ≤ z.memory + w → first_stop z (map add (row n p w (Section k))) ≡ None
unfolding first_stop row
row-inside z zero p w k inside = refl
row-inside z (suc n) p w k inside =
    rw (le-leb (p + 4) z.memory (omega (arith, inside)), row-inside z n (p + w) w k (omega (arith, inside))) refl

pub pairs-step : (z : Sizes) (n i p w k l : ℕ) → i < n → first_stop z (map add (pairs (n - i) p w (Section k) (Section l))) ≡ option_or (act_stop z (add (added p (Section k)))) (option_or (act_stop z (add (added (p + 4) (Section l)))) (first_stop z (map add (pairs (n - (i + 1)) (p + w) w (Section k) (Section l)))))
unfolding first_stop
pairs-step z n i p w k l under = rw (pairs-more n i p w (Section k) (Section l) under) refl

pub pairs-past : (z : Sizes) (n i p w k l : ℕ) → n ≤ i → first_stop z (map add (pairs (n - i) p w (Section k) (Section l))) ≡ None
unfolding first_stop
pairs-past z n i p w k l past = rw (pairs-end n i p w (Section k) (Section l) past) refl

pub pairs-inside : (z : Sizes) (n p w k l : ℕ) → p + w * n + 8 ≤ z.memory + w → first_stop z (map add (pairs n p w (Section k) (Section l))) ≡ None
unfolding first_stop pairs
pairs-inside z zero p w k l inside = refl
pairs-inside z (suc n) p w k l inside =
    rw (le-leb (p + 4) z.memory (omega (arith, inside)), le-leb (p + 4 + 4) z.memory (omega (arith, inside)), pairs-inside z n (p + w) w k l (omega (arith, inside))) refl

pub numbered-step : (z : Sizes) (n i p m : ℕ) → i < n → first_stop z (map add (numbered (n - i) p m)) ≡ option_or (act_stop z (add (added p (Import m)))) (first_stop z (map add (numbered (n - (i + 1)) (p + 4) (m + 1))))
unfolding first_stop
numbered-step z n i p m under = rw (numbered-more n i p m under) refl

pub numbered-past : (z : Sizes) (n i p m : ℕ) → n ≤ i → first_stop z (map add (numbered (n - i) p m)) ≡ None
unfolding first_stop
numbered-past z n i p m past = rw (numbered-end n i p m past) refl

pub numbered-inside : (z : Sizes) (n p m : ℕ) → m + n ≤ z.imports → p + 4 * n ≤ z.memory → first_stop z (map add (numbered n p m)) ≡ None
unfolding first_stop numbered
numbered-inside z zero p m imports inside = refl
numbered-inside z (suc n) p m imports inside =
    rw (lt-ltb m z.imports (omega (arith, imports)), le-leb (p + 4) z.memory (omega (arith, inside)), numbered-inside z n (p + 4) (m + 1) (omega (arith, imports)) (omega (arith, inside))) refl

-- the first of some acts that is refused
pub first-none : (z : Sizes) → first_stop z [] ≡ None
unfolding first_stop
first-none z = refl

pub first-stops : (z : Sizes) (act : Act) (acts : List Act) (f : Stop) → act_stop z act ≡ Some f → first_stop z (act ∷ acts) ≡ Some f
unfolding first_stop
first-stops z act acts f e = rw e refl

pub first-goes : (z : Sizes) (act : Act) (acts : List Act) → act_stop z act ≡ None → first_stop z (act ∷ acts) ≡ first_stop z acts
unfolding first_stop
first-goes z act acts e = rw e refl

pub row-stops : (z : Sizes) (n i p w k : ℕ) (f : Stop) → i < n → act_stop z (add (added p (Section k))) ≡ Some f → first_stop z (map add (row (n - i) p w (Section k))) ≡ Some f
row-stops z n i p w k f under e = row-step z n i p w k under ∙ rw e refl

pub row-goes : (z : Sizes) (n i p w k : ℕ) → i < n → act_stop z (add (added p (Section k))) ≡ None → first_stop z (map add (row (n - i) p w (Section k))) ≡ first_stop z (map add (row (n - (i + 1)) (p + w) w (Section k)))
row-goes z n i p w k under e = row-step z n i p w k under ∙ rw e refl

pub pairs-stops : (z : Sizes) (n i p w k l : ℕ) (f : Stop) → i < n → act_stop z (add (added p (Section k))) ≡ Some f → first_stop z (map add (pairs (n - i) p w (Section k) (Section l))) ≡ Some f
pairs-stops z n i p w k l f under e = pairs-step z n i p w k l under ∙ rw e refl

pub pairs-stops_second : (z : Sizes) (n i p w k l : ℕ) (f : Stop) → i < n → act_stop z (add (added p (Section k))) ≡ None → act_stop z (add (added (p + 4) (Section l))) ≡ Some f → first_stop z (map add (pairs (n - i) p w (Section k) (Section l))) ≡ Some f
pairs-stops_second z n i p w k l f under e second = pairs-step z n i p w k l under ∙ rw (e, second) refl

pub pairs-goes : (z : Sizes) (n i p w k l : ℕ) → i < n → act_stop z (add (added p (Section k))) ≡ None → act_stop z (add (added (p + 4) (Section l))) ≡ None → first_stop z (map add (pairs (n - i) p w (Section k) (Section l))) ≡ first_stop z (map add (pairs (n - (i + 1)) (p + w) w (Section k) (Section l)))
pairs-goes z n i p w k l under e second = pairs-step z n i p w k l under ∙ rw (e, second) refl

pub numbered-stops : (z : Sizes) (n i p m : ℕ) (f : Stop) → i < n → act_stop z (add (added p (Import m))) ≡ Some f → first_stop z (map add (numbered (n - i) p m)) ≡ Some f
numbered-stops z n i p m f under e = numbered-step z n i p m under ∙ rw e refl

pub numbered-goes : (z : Sizes) (n i p m : ℕ) → i < n → act_stop z (add (added p (Import m))) ≡ None → first_stop z (map add (numbered (n - i) p m)) ≡ first_stop z (map add (numbered (n - (i + 1)) (p + 4) (m + 1)))
numbered-goes z n i p m under e = numbered-step z n i p m under ∙ rw e refl
