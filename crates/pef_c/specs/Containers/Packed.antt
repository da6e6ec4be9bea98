-- What `pef_expand` returns and writes.
use Rattle.std.specs.Prelude.{◌≡◌, ◌==◌, ℕ, List, Ok, Err, MatchBool, length}
use Rattle.pef_pidata.specs.Faults.{fault_number}
use Rattle.pef_pidata.specs.Pattern.{pattern_text}
use Rattle.pef_pidata.specs.declared.fault.PackFault.{PackFault}

-- 0, and the buffer has what the packed bytes expand to at its length; or the number of their first refusal
abbrev pub ExpandAnswers : List ℕ → List ℕ → List ℕ → ℕ → Type 0
ExpandAnswers packed old new answer =
    MatchBool (answer == 0) (pattern_text packed (length old) ≡ Ok new)
    ((fault : PackFault) × (pattern_text packed (length old) ≡ Err fault) × (answer ≡ fault_number fault))
