-- What a step's result says about the grammar's result.
use Rattle.std.specs.Prelude.{◌≡◌, ℕ, List, Result, Ok, Err}
use Rattle.pef_script.specs.Script.{DescribedScript}
use Rattle.pef_script.specs.Text.Earlier.{earlier_of}
use Rattle.pef_script.specs.Text.Faults.{fault_word}
use Rattle.pef_script.specs.Text.Grammar.{NumberedFault}
use Rattle.pef_script.specs.Text.Places.{word_at}
use Rattle.pef_script.specs.Text.SoFar.{ScriptSoFar}
use Rattle.pef_script.specs.declared.text.fault.LineFault.{LineFault}
use Rattle.pef_script.specs.declared.text.fault.ScriptFault.{ScriptFault}
use Rattle.pef_script.specs.declared.text.fault.ScriptFault.TheVariants as fault
use Rattle.pef_script.specs.declared.text.fault.Stop.{Stop}
use Rattle.pef_script.specs.declared.text.fault.Stop.TheVariants as stop
use Rattle.pef_script.specs.declared.text.fault.Stopped.{Stopped}
use Rattle.pef_script.specs.declared.text.fault.Stopped.TheVariants as ended

-- a step that stopped has the grammar's fault, unless an allocation failed
abbrev pub Stops : {A : Type 0} → Stop → Result A LineFault → Type 0
Stops (stop.Refused fault) wanted = wanted ≡ Err fault
Stops stop.OutOfMemory wanted = Unit {0}

-- a step has the grammar's result, or stopped as the grammar does
abbrev pub Steps : {A : Type 0} → Result (Unit {0}) Stop → A → Result A LineFault → Type 0
Steps (Ok done) now wanted = wanted ≡ Ok now
Steps (Err stopped) now wanted = Stops stopped wanted

-- why a step stopped, with the number of its line
abbrev pub stopped_at : ℕ → Stop → Stopped
stopped_at line (stop.Refused what) = ended.Refused what line
stopped_at line stop.OutOfMemory = ended.OutOfMemory

-- lines stopped at the line with this number, as the grammar does
abbrev pub FailsAt : {A : Type 0} → Stopped → ℕ → Result A LineFault → Type 0
FailsAt (ended.Refused what line) number wanted = (wanted ≡ Err what) × (line ≡ number)
FailsAt ended.OutOfMemory number wanted = Unit {0}

abbrev pub NumberedSteps : {A : Type 0} → Result (Unit {0}) Stopped → A → ℕ → Result A LineFault → Type 0
NumberedSteps (Ok done) now number wanted = wanted ≡ Ok now
NumberedSteps (Err failed) now number wanted = FailsAt failed number wanted

-- lines that stopped have the grammar's fault and line, unless an allocation failed
abbrev pub FailsIn : Stopped → Result DescribedScript NumberedFault → Type 0
FailsIn (ended.Refused what line) wanted = wanted ≡ Err (record { fault = what; line = line })
FailsIn ended.OutOfMemory wanted = Unit {0}

-- lines have the grammar's script, or one of them failed as in the grammar
abbrev pub ReadsLines : Result (Unit {0}) Stopped → ScriptSoFar → Result DescribedScript NumberedFault → Type 0
ReadsLines (Ok done) now wanted = wanted ≡ Ok now.script
ReadsLines (Err failed) now wanted = FailsIn failed wanted

-- the fault of lines that stopped, with its places in their text
abbrev pub placed_in : List ℕ → Stopped → ScriptFault
placed_in text (ended.Refused what line) = fault.Refused what line (word_at text line (fault_word what)) (earlier_of text line what)
placed_in text ended.OutOfMemory = fault.OutOfMemory
