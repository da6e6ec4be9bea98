-- What the calls return and write that read a container's loader section.
use Rattle.std.specs.Prelude.{◌≡◌, ◌⊎◌, ◌==◌, ℕ, List, Result, Ok, Err, MatchBool}
use Rattle.pef_loader.specs.Faults.{fault_number}
use Rattle.pef_loader.specs.Loader.{Loaded, loaded_of}
use Rattle.pef_loader.specs.declared.fault.LoaderFault.{LoaderFault}
use Rattle.pef_views.specs.Container.{Contained}
use Rattle.pef_c.specs.Containers.Container.{IsRefusal, OfContainer}
use Rattle.pef_records.specs.Containers.Loaders.{loader_given}
use Rattle.pef_records.specs.declared.structs.PefLoader.{PefLoader}

-- the loader section of a container, or its first refusal
abbrev pub loader_in : Contained → Result Loaded LoaderFault
loader_in c = loaded_of c.header.instantiated_section_count c.loader

-- the bytes are a container, and their loader section is this
abbrev pub HasTables : List ℕ → Loaded → Type 0
HasTables bytes l = OfContainer bytes (λ c. loader_in c ≡ Ok l)

-- the number of the first refusal of the bytes or of their loader section
abbrev pub IsTablesRefusal : List ℕ → ℕ → Type 0
IsTablesRefusal bytes answer =
    IsRefusal bytes answer
    ⊎ OfContainer bytes (λ c. (fault : LoaderFault) × (loader_in c ≡ Err fault) × (answer ≡ fault_number fault))

-- the loader section, or the number of the first refusal
abbrev pub ReadsTables : List ℕ → Result Loaded ℕ → Type 0
ReadsTables bytes (Ok l) = HasTables bytes l
ReadsTables bytes (Err number) = IsTablesRefusal bytes number

-- what `pef_loader` returns and writes
abbrev pub LoaderAnswers : List ℕ → PefLoader → PefLoader → ℕ → Type 0
LoaderAnswers bytes old new answer =
    MatchBool (answer == 0) ((l : Loaded) × HasTables bytes l × (new ≡ loader_given l.header)) ((new ≡ old) × IsTablesRefusal bytes answer)
