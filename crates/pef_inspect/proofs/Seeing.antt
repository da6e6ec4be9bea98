-- A walk over words that keeps those it has passed in a set.
use Rattle.std.proofs.Common.{◌≡◌, ◌∙◌, ℕ, zero, suc, ◌+◌, List, [], ◌∷◌, ◌++◌, append_assoc, arith, Bool, true, false, ◌==◌, ◌&&◌, ◌||◌, cond, Option, None, Some, refl, ap, subst, sym, ◌⊎◌, inl, inr}
use Rattle.std.specs.BTreeMap.{is_at}
use Rattle.std.specs.BTreeSet.{BTreeSet, Updates, contains}
use Rattle.std.specs.Option.{is_some, option_or}
use Rattle.std.specs.Ordering.{is_eq, nat_cmp, ordering_then}
use Rattle.std.specs.declared.cmp.Ordering.{Ordering}
use Rattle.std.specs.declared.cmp.Ordering.TheVariants.{Less, Equal, Greater}
use Rattle.pef_words.specs.Findings.{all_among}
use Rattle.pef_words.proofs.Laws.Numbers.{cmp_equal}
use Rattle.pef_inspect.specs.Kept.Seen.{IsSeen, word_cmp}
use Rattle.pef_inspect.specs.Twice.{first_again, is_among}
use Rattle.pef_inspect.proofs.Within.{nil-right}

then_equal : (x y : Ordering) → is_eq (ordering_then x y) ≡ (is_eq x && is_eq y)
then_equal Less y = refl
then_equal Equal y = refl
then_equal Greater y = refl

-- whether two words are equal, as an ordered set compares them
same_word : (a b : ℕ × ℕ) → is_eq (word_cmp a b) ≡ (b.0 == a.0 && b.1 == a.1)
same_word a b = rw (then_equal (nat_cmp a.0 b.0) (nat_cmp a.1 b.1), cmp_equal a.0 b.0, cmp_equal a.1 b.1) refl

cond_or : (a b : Bool) → cond a true b ≡ (a || b)
cond_or true b = refl
cond_or false b = refl

-- the set after a word
seen_next : (seen after : BTreeSet (ℕ × ℕ)) (word : ℕ × ℕ) (passed : List (ℕ × ℕ)) → Updates word_cmp seen after word true → IsSeen seen passed → IsSeen after (word ∷ passed)
seen_next seen after word passed updates is q =
    updates.0 q
    ∙ (cond_or (is_at (word_cmp word) q) (contains word_cmp seen q)
    ∙ (ap (λ b. b || contains word_cmp seen q) (same_word word q)
    ∙ ap (λ b. (q.0 == word.0 && q.1 == word.1) || b) (is q)))

or_middle : (a b c : Bool) → (a || (b || c)) ≡ (b || (a || c))
or_middle true true c = refl
or_middle true false c = refl
or_middle false true c = refl
or_middle false false c = refl

-- a word between others is as good as before them
pub among_middle : (xs ys : List (ℕ × ℕ)) (word q : ℕ × ℕ) → is_among (xs ++ word ∷ ys) q ≡ is_among (word ∷ xs ++ ys) q
among_middle [] ys word q = refl
among_middle (x ∷ xs) ys word q =
    ap (λ b. (q.0 == x.0 && q.1 == x.1) || b) (among_middle xs ys word q)
    ∙ or_middle (q.0 == x.0 && q.1 == x.1) (q.0 == word.0 && q.1 == word.1) (is_among (xs ++ ys) q)

-- where a walk over the words after some others is: with which set, whether a word has come again, and which words are left
pub record Walked (before words : List (ℕ × ℕ)) (seen : BTreeSet (ℕ × ℕ)) (again : Option (ℕ × ℕ)) (left : List (ℕ × ℕ)) : Type 0 where
  pub passed : List (ℕ × ℕ)
  pub keys : IsSeen seen passed
  pub first : first_again before words ≡ option_or again (first_again passed left)
  pub same : (q : ℕ × ℕ) → is_among (before ++ words) q ≡ is_among (passed ++ left) q

-- a word that is there is the first that comes again, if none did before it
pub walked_again : (before words : List (ℕ × ℕ)) (seen after : BTreeSet (ℕ × ℕ)) (again : Option (ℕ × ℕ)) (word : ℕ × ℕ) (left : List (ℕ × ℕ)) →
    Walked before words seen again (word ∷ left) → Updates word_cmp seen after word true → is_some again ≡ false → contains word_cmp seen word ≡ true → Walked before words after (Some word) left
walked_again before words seen after None word left w updates none there = record {
  passed = word ∷ w.passed;
  keys = seen_next seen after word w.passed updates w.keys;
  first = w.first ∙ rw (sym (w.keys word) ∙ there) refl;
  same = λ q. w.same q ∙ among_middle w.passed left word q;
}
walked_again before words seen after (Some first) word left w updates none there = absurd (cc none)

-- .. and another isn't
pub walked_more : (before words : List (ℕ × ℕ)) (seen after : BTreeSet (ℕ × ℕ)) (again : Option (ℕ × ℕ)) (word : ℕ × ℕ) (left : List (ℕ × ℕ)) →
    Walked before words seen again (word ∷ left) → Updates word_cmp seen after word true → (is_some again ≡ true) ⊎ (contains word_cmp seen word ≡ false) → Walked before words after again left
walked_more before words seen after (Some first) word left w updates other = record {
  passed = word ∷ w.passed;
  keys = seen_next seen after word w.passed updates w.keys;
  first = w.first;
  same = λ q. w.same q ∙ among_middle w.passed left word q;
}
walked_more before words seen after None word left w updates (inl some) = absurd (cc some)
walked_more before words seen after None word left w updates (inr new) = record {
  passed = word ∷ w.passed;
  keys = seen_next seen after word w.passed updates w.keys;
  first = w.first ∙ rw (sym (w.keys word) ∙ new) refl;
  same = λ q. w.same q ∙ among_middle w.passed left word q;
}

or_none : {T : Type 0} (o : Option T) → option_or o None ≡ o
or_none None = refl
or_none (Some x) = refl

-- the end of the walk: the word that came again first, and the set
pub again_at_end : (before words : List (ℕ × ℕ)) (seen : BTreeSet (ℕ × ℕ)) (again : Option (ℕ × ℕ)) → Walked before words seen again [] → again ≡ first_again before words
again_at_end before words seen again w = sym (w.first ∙ or_none again)

pub seen_at_end : (before words : List (ℕ × ℕ)) (seen : BTreeSet (ℕ × ℕ)) (again : Option (ℕ × ℕ)) → Walked before words seen again [] → IsSeen seen (before ++ words)
seen_at_end before words seen again w q = w.keys q ∙ (ap (λ passed. is_among passed q) (nil-right w.passed) ∙ sym (w.same q))

-- the answers of one place more
among_more : {F : Type 0} (answers : ℕ → List F) (from n : ℕ) → all_among answers from n ++ answers (from + n) ≡ all_among answers from (suc n)
among_more answers from zero = let at : from + 0 ≡ from = omega arith in rw at (nil-right (answers from))
among_more answers from (suc n) =
    let at : from + suc n ≡ from + 1 + n = omega arith in
    rw at (append_assoc (answers from) (all_among answers (from + 1) n) (answers (from + 1 + n)) ∙ ap (λ ys. answers from ++ ys) (among_more answers (from + 1) n))

pub among_last : {F : Type 0} (answers : ℕ → List F) (n : ℕ) → all_among answers 0 n ++ answers n ≡ all_among answers 0 (n + 1)
among_last answers n =
    let same : 0 + n ≡ n = omega arith in
    let more : n + 1 ≡ suc n = omega arith in
    rw more (subst (λ at. all_among answers 0 n ++ answers at ≡ all_among answers 0 (suc n)) same (among_more answers 0 n))
