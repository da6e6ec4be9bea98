-- What `pef_script_place` returns and writes. 99 means that an allocation failed.
use Rattle.std.specs.Prelude.{◌≡◌, ◌⊎◌, ◌==◌, ℕ, List, Option, None, Ok, Err, MatchBool}
use Rattle.std.specs.Option.{unwrap_or}
use Rattle.pef_format.specs.Places.{part_code}
use Rattle.pef_format.specs.declared.place.Part.TheVariants.{Line}
use Rattle.pef_script.specs.Script.{DescribedScript}
use Rattle.pef_script.specs.Text.Faults.{script_fault_number}
use Rattle.pef_script.specs.Text.Grammar.{script_of}
use Rattle.pef_script.specs.declared.text.fault.LineFault.{LineFault}
use Rattle.pef_script.specs.declared.text.fault.ScriptFault.TheVariants as script_fault
use Rattle.pef_script.specs.declared.text.places.Word.{Word}
use Rattle.pef_records.specs.declared.structs.PefPlace.{PefPlace}
use Rattle.pef_records.specs.Places.{place_or_nowhere}

-- the place of a word of a line
abbrev pub word_place : ℕ → Word → PefPlace
word_place line word = record { part = part_code Line; row = line; field = word.number; offset = word.from }

-- the first error of a script, its word, and the number of the earlier line that it is about, or 0
pub record IsRefusedAt (text : List ℕ) (place : PefPlace) (earlier answer : ℕ) : Type 0 where
  pub what : LineFault
  pub line : ℕ
  pub word : Word
  pub other : Option ℕ
  pub refused : script_of text ≡ Err (record { fault = what; line = line; word = word; earlier = other })
  pub number : answer ≡ script_fault_number (script_fault.Refused what line word other)
  pub placed : place ≡ word_place line word
  pub about : earlier ≡ unwrap_or other 0

-- 0, and no place, if a text is a script; or its first error; or an allocation failed
abbrev pub ScriptPlaces : List ℕ → PefPlace → ℕ → ℕ → Type 0
ScriptPlaces text place earlier answer =
    MatchBool (answer == 0) ((script : DescribedScript) × (script_of text ≡ Ok script) × (place ≡ place_or_nowhere None) × (earlier ≡ 0))
    (((answer ≡ 99) × (place ≡ place_or_nowhere None) × (earlier ≡ 0)) ⊎ IsRefusedAt text place earlier answer)
