-- What a result of `read` says about a text (docs/SCRIPTS.md, "What is refused, and in which
-- order").
use Rattle.std.specs.Prelude.{◌≡◌, Result, Ok, Err}
use Rattle.pef_script.specs.Script.{DescribedScript}
use Rattle.pef_script.specs.declared.text.fault.ScriptFault.{ScriptFault}
use Rattle.pef_script.specs.declared.text.fault.ScriptFault.TheVariants as fault
use Rattle.pef_script.specs.Text.Grammar.{LineRefusal}

-- a result is the expected one, unless an allocation failed

abbrev pub FailsAs : ScriptFault → Result DescribedScript LineRefusal → Type 0
FailsAs (fault.Refused what line word earlier) wanted = wanted ≡ Err (record { fault = what; line = line; word = word; earlier = earlier })
FailsAs fault.OutOfMemory wanted = Unit {0}

abbrev pub ReadsAs : Result DescribedScript ScriptFault → Result DescribedScript LineRefusal → Type 0
ReadsAs (Ok script) wanted = wanted ≡ Ok script
ReadsAs (Err failed) wanted = FailsAs failed wanted
