-- Where reading lines stops.
use Rattle.std.proofs.Common.{ℕ, List, [], ◌∷◌, Result, Ok, Err, refl}
use Rattle.pef_script.specs.declared.text.fault.Stopped.{Stopped}
use Rattle.pef_script.specs.declared.text.fault.Stopped.TheVariants as ended
use Rattle.pef_script.specs.Text.Grammar.{NumberedFault, line_of, located, read_lines}
use Rattle.pef_script.specs.Script.{DescribedScript}
use Rattle.pef_script.specs.Text.Reads.{FailsAs}
use Rattle.pef_script.specs.Text.SoFar.{ScriptSoFar}
use Rattle.pef_script.specs.Text.Kept.Steps.{FailsAt, FailsIn, NumberedSteps, ReadsLines, placed_in}

-- a line that fails ends the reading
pub read_lines-fails : (failed : Stopped) (s : ScriptSoFar) (number : ℕ) (line : List ℕ) (lines : List (List ℕ)) → FailsAt failed number (line_of s line) → FailsIn failed (read_lines s number (line ∷ lines))
read_lines-fails (ended.Refused what at) s number line lines fails = rw (fails.0, fails.1) refl
read_lines-fails ended.OutOfMemory s number line lines fails = tt

-- the last line
pub last_line : (answer : Result (Unit {0}) Stopped) (s now : ScriptSoFar) (number : ℕ) (line : List ℕ) → NumberedSteps answer now number (line_of s line) → ReadsLines answer now (read_lines s number (line ∷ []))
last_line (Ok done) s now number line is = rw is refl
last_line (Err failed) s now number line fails = read_lines-fails failed s number line [] fails

-- with its places
pub placed_fails : (text : List ℕ) (failed : Stopped) (wanted : Result DescribedScript NumberedFault) → FailsIn failed wanted → FailsAs (placed_in text failed) (located text wanted)
placed_fails text (ended.Refused what line) wanted fails = rw fails refl
placed_fails text ended.OutOfMemory wanted fails = tt
