-- Words in the order of their sections and offsets.
use Rattle.std.specs.Prelude.{◌≡◌, ◌⊎◌, ◌<◌, ℕ, ◌+◌, nat_lt, if◌then◌else◌, true, List, [], ◌∷◌, ◌++◌, Option, None, Some}
use Rattle.pef_reloc.specs.declared.fixup.Fixup.{Fixup}
use Rattle.pef_inspect.specs.Twice.{first_again, is_among}

-- the offset after the last of some additions, if their offsets rise and none is before the first one
abbrev pub rising_end : ℕ → List Fixup → Option ℕ
rising_end first [] = Some first
rising_end first (fixup ∷ fixups) = if nat_lt fixup.offset first then None else rising_end (fixup.offset + 1) fixups

-- some words are before a place
abbrev pub AreBefore : List (ℕ × ℕ) → ℕ × ℕ → Type 0
AreBefore words place = (word : ℕ × ℕ) → is_among words word ≡ true → (word.0 < place.0) ⊎ ((word.0 ≡ place.0) × (word.1 < place.1))

-- some words come once and after those before them, and all are before a place
pub record Follow (before words : List (ℕ × ℕ)) (place : ℕ × ℕ) : Type 0 where
  pub once : first_again before words ≡ None
  pub all : AreBefore (before ++ words) place
