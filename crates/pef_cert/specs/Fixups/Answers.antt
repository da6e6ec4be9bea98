-- Results of a test.
use Rattle.std.specs.Prelude.{◌≡◌, Bool, true}

-- a result is true exactly if something holds
abbrev pub Says : Bool → Type 0 → Type 0
Says answer P = (answer ≡ true → P) × (P → answer ≡ true)
