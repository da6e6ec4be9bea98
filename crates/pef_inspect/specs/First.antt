-- Which error is reported if a container is read and listed: that of the container, else that of the loader section, else
-- that of the first relocation program that isn't readable. `Container::read`, `Loader::read` and `Program::read` report it.
use Rattle.std.specs.Prelude.{◌≡◌, ◌<◌, ◌≤◌, ◌⊎◌, ℕ, ◌+◌, List, Option, None, Some, Result, Ok, Err}
use Rattle.std.specs.Option.{option_and_then, option_map}
use Rattle.pef_words.specs.Findings.{first_fault}
use Rattle.pef_words.specs.Refusals.{first_among}
use Rattle.pef_views.specs.Container.{Contained, container_of}
use Rattle.pef_views.specs.declared.fault.ViewFault.{ViewFault}
use Rattle.pef_loader.specs.Loader.{Loaded, loaded_of, reloc_of}
use Rattle.pef_loader.specs.declared.fault.LoaderFault.{LoaderFault}
use Rattle.pef_reloc.specs.Unrolled.{program_fault}
use Rattle.pef_reloc.specs.declared.fault.RelocFault.{RelocFault}
use Rattle.pef_inspect.specs.Errors.{errors_of, errors_within, program_cost, programs_unverified}
use Rattle.pef_inspect.specs.Findings.{loader_finding, program_finding, view_finding}
use Rattle.pef_inspect.specs.Limits.{container_limits, total}
use Rattle.pef_inspect.specs.declared.finding.Finding.{Finding}
use Rattle.pef_inspect.specs.declared.limits.Limits.{Limits}

-- why the program of relocation header k isn't readable
abbrev pub program_refused : Loaded → ℕ → Option RelocFault
program_refused l k = option_and_then (λ (h : ℕ × List ℕ). program_fault h.1) (reloc_of l k)

abbrev pub first_program : Contained → Loaded → Option Finding
first_program c l = first_among (λ k. option_map (program_finding c k) (program_refused l k)) 0 l.header.reloc_count

abbrev pub first_of_loader : Contained → Result Loaded LoaderFault → Option Finding
first_of_loader c (Ok l) = first_program c l
first_of_loader c (Err f) = Some (loader_finding c f)

abbrev pub first_of_container : Result Contained ViewFault → Option Finding
first_of_container (Ok c) = first_of_loader c (loaded_of c.header.instantiated_section_count c.loader)
first_of_container (Err f) = Some (view_finding f)

-- the error of some bytes that is reported, and where `inspect` says that it is
unfoldable pub first_reported : List ℕ → Option Finding
first_reported bytes = first_of_container (container_of bytes)

-- the note that the programs from one on weren't verified. The bytes are a container with a loader section, none of the
-- programs before that one is refused, and with it the programs have more bytes than the limit
pub record IsLimit (limits : Limits) (bytes : List ℕ) (finding : Option Finding) : Type 0 where
  pub container : Contained
  pub contained : container_of bytes ≡ Ok container
  pub loader : Loaded
  pub loaded : loaded_of container.header.instantiated_section_count container.loader ≡ Ok loader
  pub header : ℕ
  pub there : header < loader.header.reloc_count
  pub readable : (k : ℕ) → k < header → program_refused loader k ≡ None
  pub before : total (program_cost loader) 0 header ≤ limits.program_bytes
  pub past : limits.program_bytes < total (program_cost loader) 0 (header + 1)
  pub is : finding ≡ Some (programs_unverified container header)

-- the error that is reported is the first of all, unless the programs before it have too many bytes to be verified: then the
-- first is the note that says so
abbrev pub FirstIsReported : Type 0
FirstIsReported = (bytes : List ℕ) (f : Finding) → first_reported bytes ≡ Some f
    → (first_fault (errors_of bytes) ≡ Some f) ⊎ IsLimit container_limits bytes (first_fault (errors_of bytes))

-- within any limits the error that is reported is the first of all, or the note that says so is
abbrev pub FirstIsReportedWithin : Type 0
FirstIsReportedWithin = (limits : Limits) (bytes : List ℕ) (f : Finding) → first_reported bytes ≡ Some f
    → (first_fault (errors_within limits bytes) ≡ Some f) ⊎ IsLimit limits bytes (first_fault (errors_within limits bytes))
