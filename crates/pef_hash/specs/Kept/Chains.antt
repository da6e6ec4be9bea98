-- How the words of each slot are linked while a table is built.
use Rattle.std.specs.Prelude.{◌≡◌, ℕ, ◌+◌, ◌^◌, ◌<◌, ◌≤◌, ◌==◌, List, [], ◌∷◌, length, drop, slice_index, if◌then◌else◌}
use Rattle.pef_hash.specs.Word.{slot}

-- the place of the first word in slot s, if the first word of all is at place `from`; the place after the last if there
-- is none
abbrev pub first_in : ℕ → ℕ → ℕ → List ℕ → ℕ
first_in power s from [] = from
first_in power s from (w ∷ words) = if slot w power == s then from else first_in power s (from + 1) words

-- each slot has the place of its first word, and each word from a place on has the place of the next word in its slot
pub record IsChainedFrom (from power : ℕ) (words heads next : List ℕ) : Type 0 where
  pub heads_len : length heads ≡ 2 ^ power
  pub next_len : length next ≡ length words
  pub heads_are : (s : ℕ) → s < 2 ^ power → slice_index heads s ≡ first_in power s from (drop from words)
  pub next_are : (i : ℕ) → from ≤ i → i < length words →
      slice_index next i ≡ first_in power (slot (slice_index words i) power) (i + 1) (drop (i + 1) words)

abbrev pub IsChained : ℕ → List ℕ → List ℕ → List ℕ → Type 0
IsChained power words heads next = IsChainedFrom 0 power words heads next
