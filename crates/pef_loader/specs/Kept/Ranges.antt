-- The imports of each library, as a range from its first one on.
use Rattle.std.specs.Prelude.{ℕ, ◌+◌, ◌<◌, ◌≤◌, List}
use Rattle.std.specs.Option.{option_map_or}
use Rattle.pef_loader.specs.Library.{library_at}

-- where the imports of library i begin and end
abbrev pub first_of : List ℕ → ℕ → ℕ
first_of bytes i = option_map_or (λ e. e.fields.first) (library_at bytes i) 0

abbrev pub end_of : List ℕ → ℕ → ℕ
end_of bytes i = option_map_or (λ e. e.fields.first + e.fields.count) (library_at bytes i) 0

-- the ranges of the n libraries follow one another
abbrev pub AreInOrder : List ℕ → ℕ → Type 0
AreInOrder bytes n = (i : ℕ) → i + 1 < n → end_of bytes i ≤ first_of bytes (i + 1)
