-- The texts that belong to a number (docs/ERRORS.md).
use Rattle.std.specs.Prelude.{◌≡◌, ◌==◌, ℕ, List, Option, None, Some, MatchBool}

-- what a call returns and writes that reads the text of a number: 0 and the text, or 201 if the number has none
abbrev pub TextAnswers : Option (List ℕ) → List ℕ → List ℕ → ℕ → Type 0
TextAnswers text old new answer = MatchBool (answer == 0) (text ≡ Some new) ((answer ≡ 201) × (text ≡ None) × (new ≡ old))
