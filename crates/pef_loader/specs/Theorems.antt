-- Laws of all faults of a loader section, and of what can be read of it.
use Rattle.std.specs.Prelude.{◌≡◌, ℕ, List, Ok}
use Rattle.std.specs.Result.{result_err}
use Rattle.pef_words.specs.Findings.{first_fault}
use Rattle.pef_loader.specs.Loader.{IsLoader, Loaded, loaded_of}
use Rattle.pef_loader.specs.Partial.{findings_of, partial_of}

-- the first of all faults is the one that is reported alone
abbrev pub FirstIsReported : Type 0
FirstIsReported = (sections : ℕ) (bytes : List ℕ) → first_fault (findings_of sections bytes) ≡ result_err (loaded_of sections bytes)

-- of a loader section that breaks no rule, what can be read as of a damaged one is the loader section itself
abbrev pub OpensLoaders : Type 0
OpensLoaders = (l : Loaded) → IsLoader l → partial_of l.sections l.bytes ≡ Ok l
