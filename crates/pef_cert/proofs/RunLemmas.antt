-- The tests along a run hold exactly if the value after each run at the front of the fixups is
-- enough.
use Rattle.std.proofs.Common.{◌≡◌, ℕ, zero, suc, ◌+◌, ◌*◌, ◌<◌, ◌≤◌, Bool, true, false, ◌&&◌, List, [], ◌∷◌, ◌++◌, refl, ap, ◌∙◌, arith}
use Rattle.std.proofs.lemmas.Bool.{leb-true, le-leb, and_from, and_parts}
use Rattle.pef_reloc.specs.declared.fixup.Base.{Base}
use Rattle.pef_reloc.specs.declared.fixup.Base.TheVariants.{Import}
use Rattle.pef_reloc.specs.declared.fixup.Fixup.{Fixup}
use Rattle.pef_reloc.specs.Steps.{added, numbered, pairs, row}
use Rattle.pef_cert.specs.Labels.{Labels}
use Rattle.pef_cert.specs.Extension.{extension}
use Rattle.pef_cert.specs.Fixups.Additions.{is_added}
use Rattle.pef_cert.proofs.FixupsProofs.FixupLemmas.{is_added-is, is_added-refl}
use Rattle.pef_cert.specs.LabelTests.{numbered_test, one_from, pairs_test, row_test, run_on}

run_on-here : (b here more : Bool) → b ≡ true → run_on b here more ≡ true → here ≡ true
run_on-here true here more is e = (and_parts here more e).0
run_on-here false here more is e = absurd (cc)

run_on-more : (b here more : Bool) → b ≡ true → run_on b here more ≡ true → more ≡ true
run_on-more true here more is e = (and_parts here more e).1
run_on-more false here more is e = absurd (cc)

run_on-met : (b here more : Bool) → (b ≡ true → here ≡ true) → (b ≡ true → more ≡ true) → run_on b here more ≡ true
run_on-met true here more one others = and_from here more (one refl) (others refl)
run_on-met false here more one others = refl

one_from-le : (l : Labels) (label : ℕ) (rest : List Fixup) (p c d : ℕ) → one_from l label rest p c d ≡ true → label ≤ 1 + extension l rest p c d
one_from-le l label rest p c d e = leb-true label (1 + extension l rest p c d) e

one_from-met : (l : Labels) (label : ℕ) (rest : List Fixup) (p c d : ℕ) → label ≤ 1 + extension l rest p c d → one_from l label rest p c d ≡ true
one_from-met l label rest p c d le = le-leb label (1 + extension l rest p c d) le

-- a first fixup and others
record Splits (f g : Fixup) (rest more : List Fixup) : Type 0 where
  first : f ≡ g
  others : rest ≡ more

splits : (f g : Fixup) (rest more : List Fixup) → f ∷ rest ≡ g ∷ more → Splits f g rest more
splits f g rest more e = record { first = cc; others = cc }

pub row_test-holds : (l : Labels) (label w : ℕ) (b : Base) (c d n p : ℕ) (fixups : List Fixup) → row_test l label w b c d n p fixups ≡ true → (m : ℕ) (left : List Fixup) → m < n → fixups ≡ row (suc m) p w b ++ left → label ≤ 1 + extension l left (p + w * suc m) c d
unfolding row_test row
row_test-holds l label w b c d zero p fixups met m left under e = absurd (omega arith)
row_test-holds l label w b c d (suc n) p [] met m left under e = absurd (cc)
row_test-holds l label w b c d (suc n) p (f ∷ rest) met zero left under e =
    let s = splits f (added p b) rest left e in
    let here = run_on-here (is_added p b f) (one_from l label rest (p + w) c d) (row_test l label w b c d n (p + w) rest) (is_added-refl p b f s.first) met in
    let low = one_from-le l label rest (p + w) c d here in
    let end : p + w ≡ p + w * 1 = omega arith in
    let same = ap (λ fs. extension l fs (p + w) c d) s.others ∙ ap (λ q. extension l left q c d) end in
    omega (arith, low, same)
row_test-holds l label w b c d (suc n) p (f ∷ rest) met (suc m) left under e =
    let s = splits f (added p b) rest (row (suc m) (p + w) w b ++ left) e in
    let more = run_on-more (is_added p b f) (one_from l label rest (p + w) c d) (row_test l label w b c d n (p + w) rest) (is_added-refl p b f s.first) met in
    let low = row_test-holds l label w b c d n (p + w) rest more m left (omega arith) s.others in
    let end : p + w + w * suc m ≡ p + w * suc (suc m) = omega arith in
    let same = ap (λ q. extension l left q c d) end in
    omega (arith, low, same)

pub row_test-met : (l : Labels) (label w : ℕ) (b : Base) (c d n p : ℕ) (fixups : List Fixup) → ((m : ℕ) (left : List Fixup) → m < n → fixups ≡ row (suc m) p w b ++ left → label ≤ 1 + extension l left (p + w * suc m) c d) → row_test l label w b c d n p fixups ≡ true
unfolding row_test row
row_test-met l label w b c d zero p fixups holds = refl
row_test-met l label w b c d (suc n) p [] holds = refl
row_test-met l label w b c d (suc n) p (f ∷ rest) holds =
    run_on-met (is_added p b f) (one_from l label rest (p + w) c d) (row_test l label w b c d n (p + w) rest)
    (λ is.
    let first = is_added-is p b f is in
    let end : p + w * 1 ≡ p + w = omega arith in
    let low = holds 0 rest (omega arith) (ap (λ g. g ∷ rest) first) in
    let same = ap (λ q. extension l rest q c d) end in
    one_from-met l label rest (p + w) c d (omega (arith, low, same)))
    (λ is.
    let first = is_added-is p b f is in
    row_test-met l label w b c d n (p + w) rest
    (λ m left under e.
    let end : p + w * suc (suc m) ≡ p + w + w * suc m = omega arith in
    let low = holds (suc m) left (omega arith) (ap (λ g. g ∷ rest) first ∙ ap (λ fs. added p b ∷ fs) e) in
    let same = ap (λ q. extension l left q c d) end in
    omega (arith, low, same)))

-- and so by each lower label, along shorter runs
pub row_test-weaker : (l : Labels) (label low w : ℕ) (b : Base) (c d n m p : ℕ) (fixups : List Fixup) → label ≤ low → n ≤ m → row_test l low w b c d m p fixups ≡ true → row_test l label w b c d n p fixups ≡ true
row_test-weaker l label low w b c d n m p fixups under few met =
    row_test-met l label w b c d n p fixups
    (λ i left inside words.
    let most = row_test-holds l low w b c d m p fixups met i left (omega (arith, inside, few)) words in
    omega (arith, most, under))

-- the test of a run from that after its first word
pub row_test-first : (l : Labels) (label w : ℕ) (b : Base) (c d n p : ℕ) (f : Fixup) (rest : List Fixup) → label ≤ 1 + extension l rest (p + w) c d → row_test l label w b c d n (p + w) rest ≡ true → row_test l label w b c d (suc n) p (f ∷ rest) ≡ true
unfolding row_test
row_test-first l label w b c d n p f rest low more =
    run_on-met (is_added p b f) (one_from l label rest (p + w) c d) (row_test l label w b c d n (p + w) rest) (λ is. one_from-met l label rest (p + w) c d low) (λ is. more)

pub numbered_test-first : (l : Labels) (label c d n p i : ℕ) (f : Fixup) (rest : List Fixup) → label ≤ 1 + extension l rest (p + 4) c d → numbered_test l label c d n (p + 4) (i + 1) rest ≡ true → numbered_test l label c d (suc n) p i (f ∷ rest) ≡ true
unfolding numbered_test
numbered_test-first l label c d n p i f rest low more =
    run_on-met (is_added p (Import i) f) (one_from l label rest (p + 4) c d) (numbered_test l label c d n (p + 4) (i + 1) rest) (λ is. one_from-met l label rest (p + 4) c d low) (λ is. more)

-- two first fixups and others
record SplitsTwo (f g f' g' : Fixup) (rest more : List Fixup) : Type 0 where
  first : f ≡ f'
  second : g ≡ g'
  others : rest ≡ more

splits_two : (f g f' g' : Fixup) (rest more : List Fixup) → f ∷ g ∷ rest ≡ f' ∷ g' ∷ more → SplitsTwo f g f' g' rest more
splits_two f g f' g' rest more e = record { first = cc; second = cc; others = cc }

joins_two : (f g f' g' : Fixup) (rest more : List Fixup) → f ≡ f' → g ≡ g' → rest ≡ more → f ∷ g ∷ rest ≡ f' ∷ g' ∷ more
joins_two f g f' g' rest more first second others = cc

two_added : (p : ℕ) (b b' : Base) (f g : Fixup) → f ≡ added p b → g ≡ added (p + 4) b' → (is_added p b f && is_added (p + 4) b' g) ≡ true
two_added p b b' f g first second = and_from (is_added p b f) (is_added (p + 4) b' g) (is_added-refl p b f first) (is_added-refl (p + 4) b' g second)

one_is_short : (f f' g' : Fixup) (more : List Fixup) → f ∷ [] ≡ f' ∷ g' ∷ more → ⊥
one_is_short f f' g' more e = let wrong : ◌≡◌ {A = List Fixup} [] (g' ∷ more) = cc in absurd (cc)

pub pairs_test-holds : (l : Labels) (label w : ℕ) (b b' : Base) (c d n p : ℕ) (fixups : List Fixup) → pairs_test l label w b b' c d n p fixups ≡ true → (m : ℕ) (left : List Fixup) → m < n → fixups ≡ pairs (suc m) p w b b' ++ left → label ≤ 1 + extension l left (p + w * suc m) c d
unfolding pairs_test pairs
pairs_test-holds l label w b b' c d zero p fixups met m left under e = absurd (omega arith)
pairs_test-holds l label w b b' c d (suc n) p [] met m left under e = absurd (cc)
pairs_test-holds l label w b b' c d (suc n) p (f ∷ []) met m left under e = absurd (one_is_short f (added p b) (added (p + 4) b') (pairs m (p + w) w b b' ++ left) e)
pairs_test-holds l label w b b' c d (suc n) p (f ∷ g ∷ rest) met zero left under e =
    let s = splits_two f g (added p b) (added (p + 4) b') rest left e in
    let here = run_on-here (is_added p b f && is_added (p + 4) b' g) (one_from l label rest (p + w) c d) (pairs_test l label w b b' c d n (p + w) rest) (two_added p b b' f g s.first s.second) met in
    let low = one_from-le l label rest (p + w) c d here in
    let end : p + w ≡ p + w * 1 = omega arith in
    let same = ap (λ fs. extension l fs (p + w) c d) s.others ∙ ap (λ q. extension l left q c d) end in
    omega (arith, low, same)
pairs_test-holds l label w b b' c d (suc n) p (f ∷ g ∷ rest) met (suc m) left under e =
    let s = splits_two f g (added p b) (added (p + 4) b') rest (pairs (suc m) (p + w) w b b' ++ left) e in
    let more = run_on-more (is_added p b f && is_added (p + 4) b' g) (one_from l label rest (p + w) c d) (pairs_test l label w b b' c d n (p + w) rest) (two_added p b b' f g s.first s.second) met in
    let low = pairs_test-holds l label w b b' c d n (p + w) rest more m left (omega arith) s.others in
    let end : p + w + w * suc m ≡ p + w * suc (suc m) = omega arith in
    let same = ap (λ q. extension l left q c d) end in
    omega (arith, low, same)

pub pairs_test-met : (l : Labels) (label w : ℕ) (b b' : Base) (c d n p : ℕ) (fixups : List Fixup) → ((m : ℕ) (left : List Fixup) → m < n → fixups ≡ pairs (suc m) p w b b' ++ left → label ≤ 1 + extension l left (p + w * suc m) c d) → pairs_test l label w b b' c d n p fixups ≡ true
unfolding pairs_test pairs
pairs_test-met l label w b b' c d zero p fixups holds = refl
pairs_test-met l label w b b' c d (suc n) p [] holds = refl
pairs_test-met l label w b b' c d (suc n) p (f ∷ []) holds = refl
pairs_test-met l label w b b' c d (suc n) p (f ∷ g ∷ rest) holds =
    run_on-met (is_added p b f && is_added (p + 4) b' g) (one_from l label rest (p + w) c d) (pairs_test l label w b b' c d n (p + w) rest)
    (λ is.
    let both = and_parts (is_added p b f) (is_added (p + 4) b' g) is in
    let end : p + w * 1 ≡ p + w = omega arith in
    let low = holds 0 rest (omega arith) (joins_two f g (added p b) (added (p + 4) b') rest rest (is_added-is p b f both.0) (is_added-is (p + 4) b' g both.1) refl) in
    let same = ap (λ q. extension l rest q c d) end in
    one_from-met l label rest (p + w) c d (omega (arith, low, same)))
    (λ is.
    let both = and_parts (is_added p b f) (is_added (p + 4) b' g) is in
    pairs_test-met l label w b b' c d n (p + w) rest
    (λ m left under e.
    let end : p + w * suc (suc m) ≡ p + w + w * suc m = omega arith in
    let low = holds (suc m) left (omega arith) (joins_two f g (added p b) (added (p + 4) b') rest (pairs (suc m) (p + w) w b b' ++ left) (is_added-is p b f both.0) (is_added-is (p + 4) b' g both.1) e) in
    let same = ap (λ q. extension l left q c d) end in
    omega (arith, low, same)))

pub pairs_test-weaker : (l : Labels) (label low w : ℕ) (b b' : Base) (c d n m p : ℕ) (fixups : List Fixup) → label ≤ low → n ≤ m → pairs_test l low w b b' c d m p fixups ≡ true → pairs_test l label w b b' c d n p fixups ≡ true
pairs_test-weaker l label low w b b' c d n m p fixups under few met =
    pairs_test-met l label w b b' c d n p fixups
    (λ i left inside words.
    let most = pairs_test-holds l low w b b' c d m p fixups met i left (omega (arith, inside, few)) words in
    omega (arith, most, under))

pub numbered_test-holds : (l : Labels) (label c d n p i : ℕ) (fixups : List Fixup) → numbered_test l label c d n p i fixups ≡ true → (m : ℕ) (left : List Fixup) → m < n → fixups ≡ numbered (suc m) p i ++ left → label ≤ 1 + extension l left (p + 4 * suc m) c d
unfolding numbered_test numbered
numbered_test-holds l label c d zero p i fixups met m left under e = absurd (omega arith)
numbered_test-holds l label c d (suc n) p i [] met m left under e = absurd (cc)
numbered_test-holds l label c d (suc n) p i (f ∷ rest) met zero left under e =
    let s = splits f (added p (Import i)) rest left e in
    let here = run_on-here (is_added p (Import i) f) (one_from l label rest (p + 4) c d) (numbered_test l label c d n (p + 4) (i + 1) rest) (is_added-refl p (Import i) f s.first) met in
    let low = one_from-le l label rest (p + 4) c d here in
    let end : p + 4 ≡ p + 4 * 1 = omega arith in
    let same = ap (λ fs. extension l fs (p + 4) c d) s.others ∙ ap (λ q. extension l left q c d) end in
    omega (arith, low, same)
numbered_test-holds l label c d (suc n) p i (f ∷ rest) met (suc m) left under e =
    let s = splits f (added p (Import i)) rest (numbered (suc m) (p + 4) (i + 1) ++ left) e in
    let more = run_on-more (is_added p (Import i) f) (one_from l label rest (p + 4) c d) (numbered_test l label c d n (p + 4) (i + 1) rest) (is_added-refl p (Import i) f s.first) met in
    let low = numbered_test-holds l label c d n (p + 4) (i + 1) rest more m left (omega arith) s.others in
    let end : p + 4 + 4 * suc m ≡ p + 4 * suc (suc m) = omega arith in
    let same = ap (λ q. extension l left q c d) end in
    omega (arith, low, same)

pub numbered_test-met : (l : Labels) (label c d n p i : ℕ) (fixups : List Fixup) → ((m : ℕ) (left : List Fixup) → m < n → fixups ≡ numbered (suc m) p i ++ left → label ≤ 1 + extension l left (p + 4 * suc m) c d) → numbered_test l label c d n p i fixups ≡ true
unfolding numbered_test numbered
numbered_test-met l label c d zero p i fixups holds = refl
numbered_test-met l label c d (suc n) p i [] holds = refl
numbered_test-met l label c d (suc n) p i (f ∷ rest) holds =
    run_on-met (is_added p (Import i) f) (one_from l label rest (p + 4) c d) (numbered_test l label c d n (p + 4) (i + 1) rest)
    (λ is.
    let first = is_added-is p (Import i) f is in
    let end : p + 4 * 1 ≡ p + 4 = omega arith in
    let low = holds 0 rest (omega arith) (ap (λ g. g ∷ rest) first) in
    let same = ap (λ q. extension l rest q c d) end in
    one_from-met l label rest (p + 4) c d (omega (arith, low, same)))
    (λ is.
    let first = is_added-is p (Import i) f is in
    numbered_test-met l label c d n (p + 4) (i + 1) rest
    (λ m left under e.
    let end : p + 4 * suc (suc m) ≡ p + 4 + 4 * suc m = omega arith in
    let low = holds (suc m) left (omega arith) (ap (λ g. g ∷ rest) first ∙ ap (λ fs. added p (Import i) ∷ fs) e) in
    let same = ap (λ q. extension l left q c d) end in
    omega (arith, low, same)))

pub numbered_test-weaker : (l : Labels) (label low c d n m p i : ℕ) (fixups : List Fixup) → label ≤ low → n ≤ m → numbered_test l low c d m p i fixups ≡ true → numbered_test l label c d n p i fixups ≡ true
numbered_test-weaker l label low c d n m p i fixups under few met =
    numbered_test-met l label c d n p i fixups
    (λ k left inside words.
    let most = numbered_test-holds l low c d m p i fixups met k left (omega (arith, inside, few)) words in
    omega (arith, most, under))
