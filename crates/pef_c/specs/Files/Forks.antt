-- What the calls return and write that read the forks of a file, or find a container in it.
use Rattle.std.specs.Prelude.{◌≡◌, ◌==◌, ℕ, List, Option, None, Some, Result, Ok, Err, MatchBool}
use Rattle.mac_forks.specs.Faults.{fault_number}
use Rattle.mac_forks.specs.MacFile.{MacFileIs, mac_file_of}
use Rattle.mac_forks.specs.declared.fault.ForkFault.{ForkFault}
use Rattle.cfm_members.specs.MemberLookupFaults.{member_lookup_fault_number}
use Rattle.cfm_members.specs.declared.member_lookup_fault.MemberLookupFault.{MemberLookupFault}
use Rattle.pef_records.specs.Files.Parts.{ForksRow, forks_row}

-- `pef_forks`: 0, and the forks of the file; or the error of its header, and nothing is written
abbrev pub ForksAnswers : List ℕ → ForksRow → ForksRow → ℕ → Type 0
ForksAnswers bytes old new answer =
    MatchBool (answer == 0)
    ((file : MacFileIs) × (mac_file_of bytes ≡ Ok file) × (new ≡ forks_row bytes file))
    ((new ≡ old) × (fault : ForkFault) × (mac_file_of bytes ≡ Err fault) × (answer ≡ fault_number fault))

-- `pef_file_container` and `pef_fork_container`: 0, and the container; or the error, and nothing is written
abbrev pub FoundAnswers : Result (List ℕ) MemberLookupFault → List ℕ → List ℕ → ℕ → Type 0
FoundAnswers found old new answer =
    MatchBool (answer == 0) (found ≡ Ok new)
    ((new ≡ old) × (fault : MemberLookupFault) × (found ≡ Err fault) × (answer ≡ member_lookup_fault_number fault))

-- `pef_numbered_container`: 0, and the container; or 80, and nothing is written
abbrev pub NumberedAnswers : Option (List ℕ) → List ℕ → List ℕ → ℕ → Type 0
NumberedAnswers found old new answer = MatchBool (answer == 0) (found ≡ Some new) ((new ≡ old) × (answer ≡ 80) × (found ≡ None))
