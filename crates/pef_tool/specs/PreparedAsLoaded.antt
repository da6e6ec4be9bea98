-- What `prepare` prints of memory is what `load` prints of the same fragments: if files have the names and the bytes of the fragments and
-- the stubs that `prepare` is made of, `load` prepares the same connection in the same context, and prints the same, after which
-- `prepare` prints the stubs and where the fragments come from. The files that `prepare -o` writes have the same memory.
use Rattle.std.specs.Prelude.{◌≡◌, ◌++◌, ℕ, List, map}
use Rattle.cfm_files.specs.Sections.{fragment_files}
use Rattle.cfm_prepare.specs.Contexts.{ContextState, fresh_state}
use Rattle.cfm_prepare.specs.Steps.{Prepares}
use Rattle.cfm_stubs.specs.NumberStubs.{MadeStub}
use Rattle.pef_gather.specs.Gathered.{Found}
use Rattle.pef_gather.specs.Stores.{supplied}
use Rattle.pef_request.specs.Requests.{as_lines}
use Rattle.pef_tool.specs.Limits.{memory_limit}
use Rattle.pef_tool.specs.Load.{context_of, first_name, load_answer, loads, paired}
use Rattle.pef_tool.specs.Loaded.{order_in, sections_in}
use Rattle.pef_tool.specs.Prepare.{root_name}
use Rattle.pef_tool.specs.Supplied.{prepared_text, sources_text, stubs_text}

abbrev pub PreparesAsLoad : Type 0
PreparesAsLoad = (found : List Found) (stubs : List MadeStub) (named : List (List ℕ × List ℕ)) (contents : List (List ℕ)) (s : ContextState) (number : ℕ)
    → paired named contents ≡ supplied found stubs → first_name named ≡ root_name found → Prepares (fresh_state (supplied found stubs) memory_limit) (root_name found) number s
    → Prepares (context_of named contents) (first_name named) number s
    × (prepared_text as_lines s number found stubs ≡ (load_answer (loads s number)).text ++ (stubs_text stubs ++ sources_text found (order_in s number)))

-- each file of a fragment's sections has the bytes of the section that `load` prints
abbrev pub FilesHoldMemory : Type 0
FilesHoldMemory = (s : ContextState) (folder : List ℕ) (p : ℕ) → map (λ file. file.bytes) (fragment_files s folder p) ≡ map (λ section. section.bytes) (sections_in s p)
