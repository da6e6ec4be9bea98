-- What the calls return and write that read a container. 201 means that there is nothing under the index.
use Rattle.std.specs.Prelude.{◌≡◌, ◌⊎◌, ◌==◌, ℕ, List, Option, None, Some, Ok, Err, MatchBool}
use Rattle.pef_views.specs.Container.{Contained, Section, container_of, section_name_of, section_of}
use Rattle.pef_views.specs.Faults.{fault_number}
use Rattle.pef_views.specs.declared.fault.ViewFault.{ViewFault}
use Rattle.pef_records.specs.Containers.Container.{header_given, section_given}
use Rattle.pef_records.specs.declared.structs.PefHeader.{PefHeader}
use Rattle.pef_records.specs.declared.structs.PefSection.{PefSection}

-- the number of the bytes' first refusal
abbrev pub IsRefusal : List ℕ → ℕ → Type 0
IsRefusal bytes answer = (fault : ViewFault) × (container_of bytes ≡ Err fault) × (answer ≡ fault_number fault)

-- the bytes are a container, and this holds for it
abbrev pub OfContainer : List ℕ → (Contained → Type 0) → Type 0
OfContainer bytes holds = (c : Contained) × (container_of bytes ≡ Ok c) × holds c

-- the bytes are a container that has no such part; or they are refused
abbrev pub Lacks : {A : Type 0} → List ℕ → (Contained → Option A) → ℕ → Type 0
Lacks bytes part answer = ((answer ≡ 201) × OfContainer bytes (λ c. part c ≡ None)) ⊎ IsRefusal bytes answer

-- what `pef_header` returns and writes
abbrev pub HeaderAnswers : List ℕ → PefHeader → PefHeader → ℕ → Type 0
HeaderAnswers bytes old new answer =
    MatchBool (answer == 0) (OfContainer bytes (λ c. new ≡ header_given c.header)) ((new ≡ old) × IsRefusal bytes answer)

-- what `pef_section` returns and writes
abbrev pub SectionAnswers : List ℕ → ℕ → PefSection → PefSection → List ℕ → List ℕ → ℕ → Type 0
SectionAnswers bytes i old new raw raw' answer =
    MatchBool (answer == 0)
    (OfContainer bytes (λ c. (s : Section) × (section_of c i ≡ Some s) × (new ≡ section_given s.header) × (raw' ≡ s.raw)))
    ((new ≡ old) × (raw' ≡ raw) × Lacks bytes (λ c. section_of c i) answer)

-- what `pef_section_name` returns and writes
abbrev pub SectionNameAnswers : List ℕ → ℕ → List ℕ → List ℕ → ℕ → Type 0
SectionNameAnswers bytes i old new answer =
    MatchBool (answer == 0) (OfContainer bytes (λ c. section_name_of c i ≡ Some new)) ((new ≡ old) × Lacks bytes (λ c. section_name_of c i) answer)
