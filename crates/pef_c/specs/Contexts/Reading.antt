-- What the calls return and write that read a context. 201 means that there is no such thing, and 202 that the context isn't open.
use Rattle.std.specs.Prelude.{◌≡◌, ◌==◌, ℕ, List, Option, None, Some, MatchBool, length, option_map}
use Rattle.std.specs.Option.{is_some, option_and_then, unwrap_or}
use Rattle.cfm_prepare.specs.Contexts.{ContextState, open_of}
use Rattle.cfm_prepare.specs.Readers.{section_header_of}
use Rattle.cfm_prepare.specs.Sections.{section_present}
use Rattle.cfm_sections.specs.declared.entries.Entries.{Entries}
use Rattle.cfm_prepare.specs.declared.imports.ImportTarget.{ImportTarget}
use Rattle.cfm_closure.specs.declared.targets.Target.{Target}
use Rattle.cfm_closure.specs.declared.targets.Target.TheVariants.{Absolute, At}
use Rattle.pef_views.specs.declared.section.SectionHeader.{SectionHeader}
use Rattle.pef_records.specs.Buffers.{CopiesOut}
use Rattle.pef_records.specs.declared.structs.PefEntries.{PefEntries}
use Rattle.pef_records.specs.declared.structs.PefFragmentSection.{PefFragmentSection}
use Rattle.pef_records.specs.declared.structs.PefTarget.{PefTarget}

-- 0, and the value is written; or 201, if there is none, or 202, and nothing is written
abbrev pub ReadAnswers : {A : Type 0} → (ContextState → Option A) → Option ContextState → A → A → ℕ → Type 0
ReadAnswers value None old new answer = (answer ≡ 202) × (new ≡ old)
ReadAnswers value (Some s) old new answer = MatchBool (answer == 0) (value s ≡ Some new) ((answer ≡ 201) × (value s ≡ None) × (new ≡ old))

-- 202; or the context is open, and its items are in the buffer, or why they aren't
abbrev pub CopyAnswers : {A : Type 0} → (ContextState → Option (List A)) → Option ContextState → List A → List A → ℕ → ℕ → ℕ → Type 0
CopyAnswers items None old new before after answer = (answer ≡ 202) × (new ≡ old) × (after ≡ before)
CopyAnswers items (Some s) old new before after answer = CopiesOut (items s) old new before after answer

-- the items that are made for the call are in the buffer, or why they aren't; or 99, if an allocation
-- fails, and nothing is written
abbrev pub MakesOut : {A : Type 0} → Option (List A) → List A → List A → ℕ → ℕ → ℕ → Type 0
MakesOut items old new before after answer = MatchBool (answer == 99) ((new ≡ old) × (after ≡ before)) (CopiesOut items old new before after answer)

abbrev pub MadeAnswers : {A : Type 0} → (ContextState → Option (List A)) → Option ContextState → List A → List A → ℕ → ℕ → ℕ → Type 0
MadeAnswers items None old new before after answer = (answer ≡ 202) × (new ≡ old) × (after ≡ before)
MadeAnswers items (Some s) old new before after answer = MakesOut (items s) old new before after answer

-- what an import means as C sees it: 0 if it is missing, 1 for a number, 2 for a place in a section; and its address
abbrev pub target_shown : Option Target → ℕ → PefTarget
target_shown None address = record { kind = 0; fragment = 0; section = 0; offset = 0; address = address }
target_shown (Some (Absolute number)) address = record { kind = 1; fragment = 0; section = 0; offset = 0; address = address }
target_shown (Some (At fragment section offset)) address = record { kind = 2; fragment = fragment; section = section; offset = offset; address = address }

abbrev pub target_given : ImportTarget → PefTarget
target_given i = target_shown i.target i.address

-- a section as C sees it: its address and its bytes in memory, and its header
abbrev pub section_given : ℕ × List ℕ → SectionHeader → PefFragmentSection
section_given m h = record { address = m.0; size = length m.1; kind = h.section_kind; share = h.share_kind }

-- section i of a fragment of a connection's closure
abbrev pub fragment_section_of : ContextState → ℕ → ℕ → ℕ → Option PefFragmentSection
fragment_section_of s number p i =
    option_and_then (λ m. option_map (section_given m) (option_and_then (λ o. section_header_of o p i) (open_of s.connections number)))
    (section_present s.memory s.present p i)

-- entry points as C sees them
abbrev pub entries_given : Entries → PefEntries
entries_given e = record {
  init = unwrap_or e.init 0;
  main = unwrap_or e.main 0;
  term = unwrap_or e.term 0;
  has_init = is_some e.init;
  has_main = is_some e.main;
  has_term = is_some e.term;
}
