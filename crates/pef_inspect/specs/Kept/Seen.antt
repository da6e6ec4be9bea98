-- The words that programs have added to, as an ordered set keeps them.
use Rattle.std.specs.Prelude.{◌≡◌, ℕ, List}
use Rattle.std.specs.BTreeSet.{BTreeSet, contains}
use Rattle.std.specs.Ordering.{nat_cmp, ordering_then}
use Rattle.std.specs.declared.cmp.Ordering.{Ordering}
use Rattle.pef_inspect.specs.Twice.{is_among}

-- words are ordered by their sections, then by their offsets
abbrev pub word_cmp : ℕ × ℕ → ℕ × ℕ → Ordering
word_cmp x y = ordering_then (nat_cmp x.0 y.0) (nat_cmp x.1 y.1)

-- a set has some words and no others
abbrev pub IsSeen : BTreeSet (ℕ × ℕ) → List (ℕ × ℕ) → Type 0
IsSeen seen words = (word : ℕ × ℕ) → contains word_cmp seen word ≡ is_among words word
