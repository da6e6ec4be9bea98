-- The answer of `show` (README; docs/RULES.md, "A fragment alone"). It reads the whole input, and shows the memory that
-- its script describes.
use Rattle.std.specs.Prelude.{◌≡◌, ℕ, ◌≤◌, List, [], ◌∷◌, Some, Ok, codes, false, length}
use Rattle.cfm_store.specs.Stores.{Pair}
use Rattle.cfm_closure.specs.Faults.{FailsAs}
use Rattle.cfm_closure.specs.declared.fault.BindFault.{BindFault}
use Rattle.cfm_closure.specs.declared.fault.BindFault.TheVariants as bind_fault
use Rattle.cfm_closure.specs.Closures.{Closed, closed_of}
use Rattle.cfm_sections.specs.Prepared.{entry_address}
use Rattle.cfm_sections.specs.declared.entries.Entries.{Entries}
use Rattle.cfm_memory.specs.Extents.{LackRoom, at_lowest, given_back, no_instances}
use Rattle.cfm_memory.specs.declared.place.Place.{Place}
use Rattle.cfm_prepare.specs.Fragments.{places_of}
use Rattle.cfm_prepare.specs.Contexts.{ContextState, fresh_state}
use Rattle.cfm_prepare.specs.Steps.{MayNotPrepare, Prepares}
use Rattle.cfm_prepare.specs.declared.fault.PrepareFault.{PrepareFault}
use Rattle.cfm_prepare.specs.declared.fault.PrepareFault.TheVariants as prepare_fault
use Rattle.cfm_prepare.specs.declared.fragment_fault.FragmentFault.TheVariants as fragment_fault
use Rattle.pef_tool.specs.Answers.Answers.{Answer, answer_done}
use Rattle.pef_tool.specs.Answers.Faults.{fault_answer}
use Rattle.pef_faults.specs.declared.fault.Fault.{Fault}
use Rattle.pef_faults.specs.declared.fault.Fault.TheVariants.{Script, Input, Prepare, OutOfMemory}
use Rattle.pef_ports.specs.declared.input.InputFault.{InputFault}
use Rattle.pef_ports.specs.declared.input.InputFault.TheVariants as input_fault
use Rattle.pef_ports.specs.Input.{IsLonger, IsWhole, WasReadWithin}
use Rattle.pef_ports.specs.Ports.{Stream, LastFailed, NoneFailed}
use Rattle.pef_script.specs.Text.Grammar.{script_of}
use Rattle.pef_script.specs.Script.{DescribedScript}
use Rattle.pef_script.specs.Text.Reads.{FailsAs as FailsToRead}
use Rattle.pef_script.specs.declared.text.fault.ScriptFault.{ScriptFault}
use Rattle.pef_tool.specs.Limits.{input_limit, memory_limit}
use Rattle.pef_tool.specs.Loaded.{entries_in, fragment_name, init_order_in, loaded_text, main_in, order_in}
use Rattle.pef_headline.specs.Now.{IsDescribedNow, described_extents}
use Rattle.pef_write.specs.Linked.{IsLinkedContainer, LinkedContainer}

-- the whole input was read, and this is its text
pub record WasRead (before after : Stream) (text : List ℕ) : Type 0 where
  pub whole : IsWhole before.bytes text
  pub short : length text ≤ input_limit
  pub sound : NoneFailed before after

-- the store of the fragment `it` and no other
abbrev pub single_store : List ℕ → List Pair
single_store bytes = record { name = codes "it"; bytes = bytes; free = false } ∷ []

-- the addresses of the entry points of a script's fragment, by the addresses of its sections
abbrev pub described_entries : DescribedScript → List Place → Entries
described_entries script places = record {
  init = entry_address places script.init;
  main = entry_address places script.main;
  term = entry_address places script.term;
}

-- a connection is to one fragment, which has the name `it` and the entry points that a script gives
pub record IsAlone (script : DescribedScript) (s : ContextState) (number : ℕ) : Type 0 where
  pub name : fragment_name s 0 ≡ codes "it"
  pub order : order_in s number ≡ 0 ∷ []
  pub init_order : init_order_in s number ≡ 0 ∷ []
  pub entries : entries_in s number 0 ≡ Some (described_entries script (places_of s.present 0))
  pub main : main_in s number ≡ entry_address (places_of s.present 0) script.main

-- the text that is shown of a script. Its container is linked, and prepared alone under the name `it`. In memory
-- without instances, each section in turn gets the lowest address with room. Its memory is what the script describes
-- under the addresses of its sections and of its imports' targets. Nothing else is in memory.
pub record IsShown (script : DescribedScript) (s : ContextState) (number : ℕ) : Type 0 where
  pub container : LinkedContainer
  pub linked : IsLinkedContainer script container
  pub prepared : Prepares (fresh_state (single_store container.bytes) memory_limit) (codes "it") number s
  pub alone : IsAlone script s number
  pub described : IsDescribedNow (single_store container.bytes) s script 0
  pub lowest : described.rule ≡ at_lowest
  pub first : described.before ≡ no_instances memory_limit
  pub others : given_back s.memory (places_of s.present 0) ≡ no_instances memory_limit

-- why a linked fragment has no closure alone: its closure is refused. The reason is never its bytes, which can always
-- be read.
abbrev pub FailsToBind : List ℕ → BindFault → Type 0
FailsToBind bytes (bind_fault.Container f v) = ⊥
FailsToBind bytes (bind_fault.Loader f v place) = ⊥
FailsToBind bytes fault = FailsAs fault (closed_of (single_store bytes) 0)

-- the container that is linked of a script has no closure alone, or an allocation for it failed
pub record LacksClosure (script : DescribedScript) (fault : BindFault) : Type 0 where
  pub container : LinkedContainer
  pub linked : IsLinkedContainer script container
  pub fails : FailsToBind container.bytes fault

-- an error says that there is no room for a fragment with this name
abbrev pub SaysNoRoom : PrepareFault → List ℕ → Type 0
SaysNoRoom (prepare_fault.Fragment (fragment_fault.NoRoom f place)) name = f.now ≡ name
SaysNoRoom _ name = ⊥

-- the container that is linked of a script has a closure alone, but there is no room for one of the script's sections
-- after those before it, in memory without instances, and this error of its preparation says so
pub record LacksPlaces (script : DescribedScript) (fault : PrepareFault) : Type 0 where
  pub container : LinkedContainer
  pub linked : IsLinkedContainer script container
  pub closed : Closed
  pub closure : closed_of (single_store container.bytes) 0 ≡ Ok closed
  pub lacks : LackRoom (no_instances memory_limit) (described_extents script)
  pub refused : MayNotPrepare (fresh_state (single_store container.bytes) memory_limit) (codes "it") fault
  pub said : SaysNoRoom fault (codes "it")

-- the input is a script, and this is shown of it
pub record ShowsInput (before after : Stream) (s : ContextState) (number : ℕ) : Type 0 where
  pub text : List ℕ
  pub input : WasRead before after text
  pub script : DescribedScript
  pub is_script : script_of text ≡ Ok script
  pub shown : IsShown script s number

-- the input is a script without a closure
pub record IsUnbound (before after : Stream) (fault : BindFault) : Type 0 where
  pub text : List ℕ
  pub input : WasRead before after text
  pub script : DescribedScript
  pub is_script : script_of text ≡ Ok script
  pub lacks : LacksClosure script fault

-- the input is a script, and there is no room for its sections
pub record IsUnplaced (before after : Stream) (fault : PrepareFault) : Type 0 where
  pub text : List ℕ
  pub input : WasRead before after text
  pub script : DescribedScript
  pub is_script : script_of text ≡ Ok script
  pub lacks : LacksPlaces script fault

-- the input has this text, which isn't a script, for this reason
pub record RefusesInput (before after : Stream) (fault : ScriptFault) (text : List ℕ) : Type 0 where
  pub input : WasRead before after text
  pub refused : FailsToRead fault (script_of text)

-- an allocation failed before more than the limit was read
abbrev pub ShowLacksMemory : Stream → Stream → Type 0
ShowLacksMemory before after = WasReadWithin before after input_limit × NoneFailed before after

-- why the input isn't read: it failed at its last call, it is too long, or an allocation failed
abbrev pub RefusesToRead : Stream → Stream → InputFault → Type 0
RefusesToRead before after input_fault.Unreadable = LastFailed before after
RefusesToRead before after input_fault.TooLong = IsLonger before.bytes input_limit × NoneFailed before after
RefusesToRead before after input_fault.OutOfMemory = ShowLacksMemory before after

-- why `show` is refused: the input isn't read, or a line of it is refused, and the first such line is reported. Or the
-- fragment has no closure, there is no room for its sections, or an allocation failed.
abbrev pub ShowRefuses : Stream → Stream → Fault → Type 0
ShowRefuses before after (Script fault text) = RefusesInput before after fault text.now
ShowRefuses before after (Input fault) = RefusesToRead before after fault
ShowRefuses before after (Prepare (prepare_fault.Bind fault)) = IsUnbound before after fault
ShowRefuses before after (Prepare (prepare_fault.Fragment fragment_fault.OutOfMemory)) = ShowLacksMemory before after
ShowRefuses before after (Prepare prepare_fault.OutOfMemory) = ShowLacksMemory before after
ShowRefuses before after (Prepare fault) = IsUnplaced before after fault
ShowRefuses before after OutOfMemory = ShowLacksMemory before after
ShowRefuses before after _ = ⊥

-- how `show` ends: it shows a fragment's memory, or it is refused
pub data ShowOutcome : Type 0 where
  shows : ContextState → ℕ → ShowOutcome
  refuses : Fault → ShowOutcome

-- when it ends in this way, by the states of the input before and after
abbrev pub ShowEnds : Stream → Stream → ShowOutcome → Type 0
ShowEnds before after (shows s number) = ShowsInput before after s number
ShowEnds before after (refuses fault) = ShowRefuses before after fault

-- the answer for each end
abbrev pub show_answer : ShowOutcome → Answer
show_answer (shows s number) = answer_done (loaded_text s number)
show_answer (refuses fault) = fault_answer fault

-- the answer of `show`
abbrev pub ShowAnswers : Stream → Stream → Answer → Type 0
ShowAnswers before after answer = (outcome : ShowOutcome) × ShowEnds before after outcome × (answer ≡ show_answer outcome)
