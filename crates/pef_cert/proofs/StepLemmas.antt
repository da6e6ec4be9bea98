-- The tests along a run, one step at a time.
use Rattle.std.proofs.Common.{◌≡◌, ℕ, zero, suc, ◌+◌, ◌-◌, ◌<◌, ◌≤◌, Bool, true, false, ◌&&◌, List, [], ◌∷◌, length, drop, Some, refl, ap, sym, ◌∙◌, arith, slice_get}
use Rattle.std.specs.Option.{option_map_or}
use Rattle.std.proofs.lemmas.List.{drop-drop}
use Rattle.pef_reloc.specs.declared.fixup.Base.{Base}
use Rattle.pef_reloc.specs.declared.fixup.Base.TheVariants.{Import}
use Rattle.pef_reloc.specs.declared.fixup.Fixup.{Fixup}
use Rattle.pef_reloc.specs.Steps.{added}
use Rattle.std.proofs.lemmas.Bool.{and_parts}
use Rattle.pef_cert.specs.Labels.{Labels}
use Rattle.pef_cert.specs.Fixups.Additions.{is_added}
use Rattle.pef_cert.proofs.FixupsProofs.FixupLemmas.{is_added-is}
use Rattle.pef_cert.specs.Kept.Claims.{word_end}
use Rattle.pef_cert.specs.Kept.Tests.{adds_first}
use Rattle.pef_cert.specs.LabelTests.{numbered_test, one_from, pairs_test, row_test, run_on}

run_stops : (b here more : Bool) → b ≡ false → run_on b here more ≡ true
run_stops b here more e = rw e refl

run_fails : (b here more : Bool) → b ≡ true → here ≡ false → run_on b here more ≡ false
run_fails b here more e f = rw (e, f) refl

run_steps : (b here more : Bool) → b ≡ true → here ≡ true → run_on b here more ≡ more
run_steps b here more e f = rw (e, f) refl

run_alone : (b here more : Bool) → here ≡ true → more ≡ true → run_on b here more ≡ true
run_alone true here more e f = rw (e, f) refl
run_alone false here more e f = refl

-- a fixup exists, if it adds something
pub adds_inside : (fixups : List Fixup) (at p : ℕ) (b : Base) → adds_first p b (drop at fixups) ≡ true → at < length fixups
adds_inside [] zero p b e = absurd (cc)
adds_inside [] (suc at) p b e = absurd (cc)
adds_inside (f ∷ fixups) zero p b e = omega arith
adds_inside (f ∷ fixups) (suc at) p b e = let low = adds_inside fixups at p b e in omega (arith, low)

-- the fixup that adds a base at a position
pub added_there : (fixups : List Fixup) (j p : ℕ) (b : Base) → adds_first p b (drop j fixups) ≡ true → slice_get fixups j ≡ Some (added p b)
added_there [] zero p b e = absurd (cc)
added_there [] (suc j) p b e = absurd (cc)
added_there (f ∷ fixups) zero p b e = ap Some (is_added-is p b f e)
added_there (f ∷ fixups) (suc j) p b e = added_there fixups j p b e

-- the end of the word of a fixup
pub word_end-after : (fixups : List Fixup) (at : ℕ) (f : Fixup) → slice_get fixups at ≡ Some f → word_end fixups (at + 1) ≡ f.offset + 4
word_end-after fixups at f e =
    let step : at + 1 ≡ suc at = omega arith in
    ap (word_end fixups) step ∙ ap (λ o. option_map_or (λ (g : Fixup). g.offset + 4) o 0) e

pub word_end-added : (fixups : List Fixup) (at p : ℕ) (b : Base) → adds_first p b (drop at fixups) ≡ true → word_end fixups (at + 1) ≡ p + 4
word_end-added fixups at p b e = word_end-after fixups at (added p b) (added_there fixups at p b e)

pub word_end-pair : (fixups : List Fixup) (at p : ℕ) (b b' : Base) → true ≡ (adds_first p b (drop at fixups) && adds_first (p + 4) b' (drop (at + 1) fixups)) → word_end fixups (at + 2) ≡ p + 8
word_end-pair fixups at p b b' e =
    let both = and_parts (adds_first p b (drop at fixups)) (adds_first (p + 4) b' (drop (at + 1) fixups)) (sym e) in
    let step : at + 2 ≡ at + 1 + 1 = omega arith in
    let end : p + 4 + 4 ≡ p + 8 = omega arith in
    ap (word_end fixups) step ∙ (word_end-added fixups (at + 1) (p + 4) b' both.1 ∙ end)

drop_one : (fixups : List Fixup) (at : ℕ) → drop 1 (drop at fixups) ≡ drop (at + 1) fixups
drop_one fixups at = drop-drop 1 at fixups

row_zero : (l : Labels) (label w : ℕ) (b : Base) (c d p : ℕ) (fs : List Fixup) → row_test l label w b c d 0 p fs ≡ true
unfolding row_test
row_zero l label w b c d p fs = refl

pub row_stops : (l : Labels) (label w : ℕ) (b : Base) (c d n p : ℕ) (fs : List Fixup) → adds_first p b fs ≡ false → row_test l label w b c d n p fs ≡ true
unfolding row_test
row_stops l label w b c d zero p fs e = refl
row_stops l label w b c d (suc n) p [] e = refl
row_stops l label w b c d (suc n) p (f ∷ rest) e = run_stops (is_added p b f) (one_from l label rest (p + w) c d) (row_test l label w b c d n (p + w) rest) e

-- a run that doesn't go on after one word
pub row_alone : (l : Labels) (label w : ℕ) (b : Base) (c d n p : ℕ) (fs : List Fixup) → one_from l label (drop 1 fs) (p + w) c d ≡ true → adds_first (p + w) b (drop 1 fs) ≡ false → row_test l label w b c d n p fs ≡ true
unfolding row_test
row_alone l label w b c d zero p fs e f = refl
row_alone l label w b c d (suc n) p [] e f = refl
row_alone l label w b c d (suc n) p (g ∷ rest) e f = run_alone (is_added p b g) (one_from l label rest (p + w) c d) (row_test l label w b c d n (p + w) rest) e (row_stops l label w b c d n (p + w) rest f)

row_fails : (l : Labels) (label w : ℕ) (b : Base) (c d n p : ℕ) (fs : List Fixup) → adds_first p b fs ≡ true → one_from l label (drop 1 fs) (p + w) c d ≡ false → row_test l label w b c d (suc n) p fs ≡ false
unfolding row_test
row_fails l label w b c d n p [] e f = absurd (cc)
row_fails l label w b c d n p (g ∷ rest) e f = run_fails (is_added p b g) (one_from l label rest (p + w) c d) (row_test l label w b c d n (p + w) rest) e f

row_steps : (l : Labels) (label w : ℕ) (b : Base) (c d n p : ℕ) (fs : List Fixup) → adds_first p b fs ≡ true → one_from l label (drop 1 fs) (p + w) c d ≡ true → row_test l label w b c d (suc n) p fs ≡ row_test l label w b c d n (p + w) (drop 1 fs)
unfolding row_test
row_steps l label w b c d n p [] e f = absurd (cc)
row_steps l label w b c d n p (g ∷ rest) e f = run_steps (is_added p b g) (one_from l label rest (p + w) c d) (row_test l label w b c d n (p + w) rest) e f

-- a run of words, with this many steps done of this many
pub row-stop : (l : Labels) (label w : ℕ) (b : Base) (c d n p at : ℕ) (fixups : List Fixup) (all : Bool) → row_test l label w b c d n p (drop at fixups) ≡ all → false ≡ adds_first p b (drop at fixups) → true ≡ all
row-stop l label w b c d n p at fixups all left e = sym (row_stops l label w b c d n p (drop at fixups) (sym e)) ∙ left

pub row-fail : (l : Labels) (label w : ℕ) (b : Base) (c d n i p at : ℕ) (fixups : List Fixup) (all : Bool) → i < n → row_test l label w b c d (n - i) p (drop at fixups) ≡ all → true ≡ adds_first p b (drop at fixups) → false ≡ one_from l label (drop (at + 1) fixups) (p + w) c d → false ≡ all
row-fail l label w b c d n i p at fixups all under left e f =
    let steps : n - i ≡ suc (n - (i + 1)) = omega arith in
    sym (row_fails l label w b c d (n - (i + 1)) p (drop at fixups) (sym e) (ap (λ fs. one_from l label fs (p + w) c d) (drop_one fixups at) ∙ sym f))
    ∙ (sym (ap (λ m. row_test l label w b c d m p (drop at fixups)) steps) ∙ left)

pub row-next : (l : Labels) (label w : ℕ) (b : Base) (c d n i p at : ℕ) (fixups : List Fixup) (all : Bool) → i < n → row_test l label w b c d (n - i) p (drop at fixups) ≡ all → true ≡ adds_first p b (drop at fixups) → true ≡ one_from l label (drop (at + 1) fixups) (p + w) c d → row_test l label w b c d (n - (i + 1)) (p + w) (drop (at + 1) fixups) ≡ all
row-next l label w b c d n i p at fixups all under left e f =
    let steps : n - i ≡ suc (n - (i + 1)) = omega arith in
    sym (ap (row_test l label w b c d (n - (i + 1)) (p + w)) (drop_one fixups at))
    ∙ (sym (row_steps l label w b c d (n - (i + 1)) p (drop at fixups) (sym e) (ap (λ fs. one_from l label fs (p + w) c d) (drop_one fixups at) ∙ sym f))
    ∙ (sym (ap (λ m. row_test l label w b c d m p (drop at fixups)) steps) ∙ left))

pub row-end : (l : Labels) (label w : ℕ) (b : Base) (c d n i p at : ℕ) (fixups : List Fixup) (all : Bool) → n ≤ i → row_test l label w b c d (n - i) p (drop at fixups) ≡ all → true ≡ all
row-end l label w b c d n i p at fixups all past left =
    let none : n - i ≡ 0 = omega arith in
    sym (row_zero l label w b c d p (drop at fixups)) ∙ (sym (ap (λ m. row_test l label w b c d m p (drop at fixups)) none) ∙ left)

pairs_zero : (l : Labels) (label w : ℕ) (b b' : Base) (c d p : ℕ) (fs : List Fixup) → pairs_test l label w b b' c d 0 p fs ≡ true
unfolding pairs_test
pairs_zero l label w b b' c d p fs = refl

-- the first two fixups add two bases side by side
abbrev pub adds_two : ℕ → Base → Base → List Fixup → Bool
adds_two p b b' fs = adds_first p b fs && adds_first (p + 4) b' (drop 1 fs)

pairs_stops : (l : Labels) (label w : ℕ) (b b' : Base) (c d n p : ℕ) (fs : List Fixup) → adds_two p b b' fs ≡ false → pairs_test l label w b b' c d n p fs ≡ true
unfolding pairs_test
pairs_stops l label w b b' c d zero p fs e = refl
pairs_stops l label w b b' c d (suc n) p [] e = refl
pairs_stops l label w b b' c d (suc n) p (f ∷ []) e = refl
pairs_stops l label w b b' c d (suc n) p (f ∷ g ∷ rest) e = run_stops (is_added p b f && is_added (p + 4) b' g) (one_from l label rest (p + w) c d) (pairs_test l label w b b' c d n (p + w) rest) e

only_one : (p : ℕ) (b b' : Base) (f : Fixup) → adds_two p b b' (f ∷ []) ≡ true → ⊥
only_one p b b' f e = let both = and_parts (is_added p b f) false e in absurd (cc)

pairs_fails : (l : Labels) (label w : ℕ) (b b' : Base) (c d n p : ℕ) (fs : List Fixup) → adds_two p b b' fs ≡ true → one_from l label (drop 2 fs) (p + w) c d ≡ false → pairs_test l label w b b' c d (suc n) p fs ≡ false
unfolding pairs_test
pairs_fails l label w b b' c d n p [] e f = absurd (cc)
pairs_fails l label w b b' c d n p (g ∷ []) e f = absurd (only_one p b b' g e)
pairs_fails l label w b b' c d n p (g ∷ h ∷ rest) e f = run_fails (is_added p b g && is_added (p + 4) b' h) (one_from l label rest (p + w) c d) (pairs_test l label w b b' c d n (p + w) rest) e f

pairs_steps : (l : Labels) (label w : ℕ) (b b' : Base) (c d n p : ℕ) (fs : List Fixup) → adds_two p b b' fs ≡ true → one_from l label (drop 2 fs) (p + w) c d ≡ true → pairs_test l label w b b' c d (suc n) p fs ≡ pairs_test l label w b b' c d n (p + w) (drop 2 fs)
unfolding pairs_test
pairs_steps l label w b b' c d n p [] e f = absurd (cc)
pairs_steps l label w b b' c d n p (g ∷ []) e f = absurd (only_one p b b' g e)
pairs_steps l label w b b' c d n p (g ∷ h ∷ rest) e f = run_steps (is_added p b g && is_added (p + 4) b' h) (one_from l label rest (p + w) c d) (pairs_test l label w b b' c d n (p + w) rest) e f

drop_two : (fixups : List Fixup) (at : ℕ) → drop 2 (drop at fixups) ≡ drop (at + 2) fixups
drop_two fixups at = drop-drop 2 at fixups

-- two fixups exist, if they add something
pub pair_inside : (fixups : List Fixup) (at p : ℕ) (b b' : Base) → true ≡ (adds_first p b (drop at fixups) && adds_first (p + 4) b' (drop (at + 1) fixups)) → at + 1 < length fixups
pair_inside fixups at p b b' e =
    let both = and_parts (adds_first p b (drop at fixups)) (adds_first (p + 4) b' (drop (at + 1) fixups)) (sym e) in
    adds_inside fixups (at + 1) (p + 4) b' both.1

two_there : (fixups : List Fixup) (at p : ℕ) (b b' : Base) (x : Bool) → x ≡ (adds_first p b (drop at fixups) && adds_first (p + 4) b' (drop (at + 1) fixups)) → adds_two p b b' (drop at fixups) ≡ x
two_there fixups at p b b' x e = ap (λ fs. adds_first p b (drop at fixups) && adds_first (p + 4) b' fs) (drop_one fixups at) ∙ sym e

-- a run of pairs
pub pairs-stop : (l : Labels) (label w : ℕ) (b b' : Base) (c d n p at : ℕ) (fixups : List Fixup) (all : Bool) → pairs_test l label w b b' c d n p (drop at fixups) ≡ all → false ≡ (adds_first p b (drop at fixups) && adds_first (p + 4) b' (drop (at + 1) fixups)) → true ≡ all
pairs-stop l label w b b' c d n p at fixups all left e = sym (pairs_stops l label w b b' c d n p (drop at fixups) (two_there fixups at p b b' false e)) ∙ left

pub pairs-fail : (l : Labels) (label w : ℕ) (b b' : Base) (c d n i p at : ℕ) (fixups : List Fixup) (all : Bool) → i < n → pairs_test l label w b b' c d (n - i) p (drop at fixups) ≡ all → true ≡ (adds_first p b (drop at fixups) && adds_first (p + 4) b' (drop (at + 1) fixups)) → false ≡ one_from l label (drop (at + 2) fixups) (p + w) c d → false ≡ all
pairs-fail l label w b b' c d n i p at fixups all under left e f =
    let steps : n - i ≡ suc (n - (i + 1)) = omega arith in
    sym (pairs_fails l label w b b' c d (n - (i + 1)) p (drop at fixups) (two_there fixups at p b b' true e) (ap (λ fs. one_from l label fs (p + w) c d) (drop_two fixups at) ∙ sym f))
    ∙ (sym (ap (λ m. pairs_test l label w b b' c d m p (drop at fixups)) steps) ∙ left)

pub pairs-next : (l : Labels) (label w : ℕ) (b b' : Base) (c d n i p at : ℕ) (fixups : List Fixup) (all : Bool) → i < n → pairs_test l label w b b' c d (n - i) p (drop at fixups) ≡ all → true ≡ (adds_first p b (drop at fixups) && adds_first (p + 4) b' (drop (at + 1) fixups)) → true ≡ one_from l label (drop (at + 2) fixups) (p + w) c d → pairs_test l label w b b' c d (n - (i + 1)) (p + w) (drop (at + 2) fixups) ≡ all
pairs-next l label w b b' c d n i p at fixups all under left e f =
    let steps : n - i ≡ suc (n - (i + 1)) = omega arith in
    sym (ap (pairs_test l label w b b' c d (n - (i + 1)) (p + w)) (drop_two fixups at))
    ∙ (sym (pairs_steps l label w b b' c d (n - (i + 1)) p (drop at fixups) (two_there fixups at p b b' true e) (ap (λ fs. one_from l label fs (p + w) c d) (drop_two fixups at) ∙ sym f))
    ∙ (sym (ap (λ m. pairs_test l label w b b' c d m p (drop at fixups)) steps) ∙ left))

pub pairs-end : (l : Labels) (label w : ℕ) (b b' : Base) (c d n i p at : ℕ) (fixups : List Fixup) (all : Bool) → n ≤ i → pairs_test l label w b b' c d (n - i) p (drop at fixups) ≡ all → true ≡ all
pairs-end l label w b b' c d n i p at fixups all past left =
    let none : n - i ≡ 0 = omega arith in
    sym (pairs_zero l label w b b' c d p (drop at fixups)) ∙ (sym (ap (λ m. pairs_test l label w b b' c d m p (drop at fixups)) none) ∙ left)

numbered_zero : (l : Labels) (label c d p m : ℕ) (fs : List Fixup) → numbered_test l label c d 0 p m fs ≡ true
unfolding numbered_test
numbered_zero l label c d p m fs = refl

numbered_stops : (l : Labels) (label c d n p m : ℕ) (fs : List Fixup) → adds_first p (Import m) fs ≡ false → numbered_test l label c d n p m fs ≡ true
unfolding numbered_test
numbered_stops l label c d zero p m fs e = refl
numbered_stops l label c d (suc n) p m [] e = refl
numbered_stops l label c d (suc n) p m (f ∷ rest) e = run_stops (is_added p (Import m) f) (one_from l label rest (p + 4) c d) (numbered_test l label c d n (p + 4) (m + 1) rest) e

numbered_fails : (l : Labels) (label c d n p m : ℕ) (fs : List Fixup) → adds_first p (Import m) fs ≡ true → one_from l label (drop 1 fs) (p + 4) c d ≡ false → numbered_test l label c d (suc n) p m fs ≡ false
unfolding numbered_test
numbered_fails l label c d n p m [] e f = absurd (cc)
numbered_fails l label c d n p m (g ∷ rest) e f = run_fails (is_added p (Import m) g) (one_from l label rest (p + 4) c d) (numbered_test l label c d n (p + 4) (m + 1) rest) e f

numbered_steps : (l : Labels) (label c d n p m : ℕ) (fs : List Fixup) → adds_first p (Import m) fs ≡ true → one_from l label (drop 1 fs) (p + 4) c d ≡ true → numbered_test l label c d (suc n) p m fs ≡ numbered_test l label c d n (p + 4) (m + 1) (drop 1 fs)
unfolding numbered_test
numbered_steps l label c d n p m [] e f = absurd (cc)
numbered_steps l label c d n p m (g ∷ rest) e f = run_steps (is_added p (Import m) g) (one_from l label rest (p + 4) c d) (numbered_test l label c d n (p + 4) (m + 1) rest) e f

-- a run of imports
pub numbered-stop : (l : Labels) (label c d n p m at : ℕ) (fixups : List Fixup) (all : Bool) → numbered_test l label c d n p m (drop at fixups) ≡ all → false ≡ adds_first p (Import m) (drop at fixups) → true ≡ all
numbered-stop l label c d n p m at fixups all left e = sym (numbered_stops l label c d n p m (drop at fixups) (sym e)) ∙ left

pub numbered-fail : (l : Labels) (label c d n i p m at : ℕ) (fixups : List Fixup) (all : Bool) → i < n → numbered_test l label c d (n - i) p m (drop at fixups) ≡ all → true ≡ adds_first p (Import m) (drop at fixups) → false ≡ one_from l label (drop (at + 1) fixups) (p + 4) c d → false ≡ all
numbered-fail l label c d n i p m at fixups all under left e f =
    let steps : n - i ≡ suc (n - (i + 1)) = omega arith in
    sym (numbered_fails l label c d (n - (i + 1)) p m (drop at fixups) (sym e) (ap (λ fs. one_from l label fs (p + 4) c d) (drop_one fixups at) ∙ sym f))
    ∙ (sym (ap (λ k. numbered_test l label c d k p m (drop at fixups)) steps) ∙ left)

pub numbered-next : (l : Labels) (label c d n i p m at : ℕ) (fixups : List Fixup) (all : Bool) → i < n → numbered_test l label c d (n - i) p m (drop at fixups) ≡ all → true ≡ adds_first p (Import m) (drop at fixups) → true ≡ one_from l label (drop (at + 1) fixups) (p + 4) c d → numbered_test l label c d (n - (i + 1)) (p + 4) (m + 1) (drop (at + 1) fixups) ≡ all
numbered-next l label c d n i p m at fixups all under left e f =
    let steps : n - i ≡ suc (n - (i + 1)) = omega arith in
    sym (ap (numbered_test l label c d (n - (i + 1)) (p + 4) (m + 1)) (drop_one fixups at))
    ∙ (sym (numbered_steps l label c d (n - (i + 1)) p m (drop at fixups) (sym e) (ap (λ fs. one_from l label fs (p + 4) c d) (drop_one fixups at) ∙ sym f))
    ∙ (sym (ap (λ k. numbered_test l label c d k p m (drop at fixups)) steps) ∙ left))

pub numbered-end : (l : Labels) (label c d n i p m at : ℕ) (fixups : List Fixup) (all : Bool) → n ≤ i → numbered_test l label c d (n - i) p m (drop at fixups) ≡ all → true ≡ all
numbered-end l label c d n i p m at fixups all past left =
    let none : n - i ≡ 0 = omega arith in
    sym (numbered_zero l label c d p m (drop at fixups)) ∙ (sym (ap (λ k. numbered_test l label c d k p m (drop at fixups)) none) ∙ left)
