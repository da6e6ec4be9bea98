-- How the preparation of one fragment, in a context of its own, ends, and the answer for each end.
use Rattle.std.specs.Prelude.{ℕ, List}
use Rattle.cfm_store.specs.Stores.{Pair}
use Rattle.cfm_prepare.specs.Contexts.{ContextState, fresh_state}
use Rattle.cfm_prepare.specs.Steps.{MayNotPrepare, Prepares}
use Rattle.cfm_prepare.specs.declared.fault.PrepareFault.{PrepareFault}
use Rattle.pef_tool.specs.Answers.Answers.{Answer, answer_done}
use Rattle.pef_tool.specs.Answers.Faults.{fault_answer}
use Rattle.pef_faults.specs.declared.fault.Fault.TheVariants.{Prepare}
use Rattle.pef_tool.specs.Limits.{memory_limit}
use Rattle.pef_tool.specs.Loaded.{loaded_text}

-- it is prepared: a connection with this number, in a context with this state. Or it isn't, for this reason.
pub data RootOutcome : Type 0 where
  prepares : ContextState → ℕ → RootOutcome
  refuses : PrepareFault → RootOutcome

-- when it ends in this way, by the store and the name
abbrev pub RootEnds : List Pair → List ℕ → RootOutcome → Type 0
RootEnds pairs name (prepares s number) = Prepares (fresh_state pairs memory_limit) name number s
RootEnds pairs name (refuses fault) = MayNotPrepare (fresh_state pairs memory_limit) name fault

-- the answer for each end
abbrev pub root_answer : RootOutcome → Answer
root_answer (prepares s number) = answer_done (loaded_text s number)
root_answer (refuses fault) = fault_answer (Prepare fault)
