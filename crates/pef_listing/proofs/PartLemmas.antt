-- Parts that are listed by their numbers, and the programs among them.
use Rattle.std.proofs.Common.{◌≡◌, ℕ, suc, ◌+◌, ◌-◌, ◌<◌, ◌≤◌, List, [], ◌++◌, refl, arith}
use Rattle.std.specs.Prelude.{Option, None, Some, option_and_then, option_map, Result, Ok, Err}
use Rattle.pef_words.specs.Refusals.{result_map, unless}
use Rattle.pef_words.proofs.Laws.Refusals.{none_among}
use Rattle.pef_loader.specs.Loader.{Loaded, reloc_of}
use Rattle.pef_loader.specs.Programs.{fault_in_program}
use Rattle.pef_views.specs.Container.{Contained}
use Rattle.pef_reloc.specs.declared.fault.RelocFault.{RelocFault}
use Rattle.pef_reloc.specs.declared.program.Program.{Program}
use Rattle.pef_reloc.specs.Unrolled.{program_fault}
use Rattle.pef_reloc.specs.Views.{program_bytes}
use Rattle.pef_listing.specs.Listed.{AreReadable, program_refusal, programs_fault}
use Rattle.pef_listing.specs.Listing.{each_text}

-- the texts of the parts from one on begin with its own
pub each_text-more : (text : ℕ → List ℕ) (i n : ℕ) → i < n → each_text text i (n - i) ≡ text i ++ each_text text (i + 1) (n - (i + 1))
each_text-more text i n under =
    let e : n - i ≡ suc (n - (i + 1)) = omega arith in
    rw e refl

-- after the last one there is no text
pub each_text-none : (text : ℕ → List ℕ) (i n : ℕ) → n ≤ i → each_text text i (n - i) ≡ []
each_text-none text i n past =
    let e : n - i ≡ 0 = omega arith in
    rw e refl

-- a readable program is read
pub reads_program : (r : Result Program RelocFault) (bytes : List ℕ) → program_fault bytes ≡ None → result_map program_bytes r ≡ unless (program_fault bytes) (Ok bytes) → (p : Program) × (r ≡ Ok p) × (program_bytes p ≡ bytes)
reads_program (Ok p) bytes none is =
    let read : Ok (program_bytes p) ≡ Ok bytes = rw none at is in
    (p, refl, cc)
reads_program (Err fault) bytes none is =
    let read : result_map program_bytes (Err fault) ≡ Ok bytes = rw none at is in
    absurd (cc)

-- and has its bytes
pub reads_program_bytes : (p : Program) (bytes : List ℕ) → program_fault bytes ≡ None → Ok (program_bytes p) ≡ unless (program_fault bytes) (Ok bytes) → program_bytes p ≡ bytes
reads_program_bytes p bytes none is =
    let read : Ok (program_bytes p) ≡ Ok bytes = rw none at is in
    cc

-- if no program is refused, each is readable
pub all_readable : (c : Contained) (l : Loaded) → programs_fault c l ≡ None → AreReadable l
all_readable c l none k under = by (reloc_of l k) (none_among (program_refusal c l) 0 l.header.reloc_count k none (omega arith) (omega arith))
  where
    unmapped : {A B : Type 0} (f : A → B) (o : Option A) → option_map f o ≡ None → o ≡ None
    unmapped f None is = refl
    unmapped f (Some x) is = absurd (cc)

    by : (o : Option (ℕ × List ℕ)) → option_and_then (λ r. option_map (fault_in_program c k r.0) (program_fault r.1)) o ≡ None → option_and_then (λ r. program_fault r.1) o ≡ None
    by None is = refl
    by (Some r) is = unmapped (fault_in_program c k r.0) (program_fault r.1) is
