-- Laws of all faults of a container, and of what can be read of it.
use Rattle.std.specs.Prelude.{◌≡◌, ℕ, List, Ok}
use Rattle.std.specs.Result.{result_err}
use Rattle.pef_words.specs.Findings.{first_fault}
use Rattle.pef_views.specs.Container.{Contained, container_of}
use Rattle.pef_views.specs.Partial.{findings_of, partial_of}

-- the first of all faults is the one that is reported alone
abbrev pub FirstIsReported : Type 0
FirstIsReported = (bytes : List ℕ) → first_fault (findings_of bytes) ≡ result_err (container_of bytes)

-- of bytes that are a container, what can be read as of a damaged one is the container itself
abbrev pub OpensContainers : Type 0
OpensContainers = (bytes : List ℕ) (c : Contained) → container_of bytes ≡ Ok c → partial_of bytes ≡ Ok c
