-- What `pef_link` returns and writes. 99 means that an allocation failed, and 200 that the buffer is too small.
use Rattle.std.specs.Prelude.{◌≡◌, ◌⊎◌, ◌==◌, ℕ, List, Option, Result, Ok, Err, MatchBool, false}
use Rattle.pef_script.specs.Script.{DescribedScript}
use Rattle.pef_script.specs.Text.Faults.{fault_number}
use Rattle.pef_script.specs.Text.Grammar.{script_of}
use Rattle.pef_script.specs.declared.text.fault.LineFault.{LineFault}
use Rattle.pef_script.specs.declared.text.places.Word.{Word}
use Rattle.pef_write.specs.Linked.{IsLinkedContainer, LinkedContainer}
use Rattle.pef_records.specs.Buffers.{Fills, IsTooLong}

-- the text is a script, and this is the container that `link` gives for it
abbrev pub IsLinkedOf : List ℕ → LinkedContainer → Type 0
IsLinkedOf text l = (script : DescribedScript) × (script_of text ≡ Ok script) × IsLinkedContainer script l

-- the number and the line of the text's first refusal
abbrev pub IsRefusal : List ℕ → ℕ → ℕ → Type 0
IsRefusal text line answer =
    (fault : LineFault) × (word : Word) × (earlier : Option ℕ) × (script_of text ≡ Err (record { fault = fault; line = line; word = word; earlier = earlier })) × (answer ≡ fault_number fault)

-- an allocation failed, or the text is refused
abbrev pub LinkRefuses : List ℕ → ℕ → ℕ → Type 0
LinkRefuses text line answer = ((answer ≡ 99) × (line ≡ 0)) ⊎ IsRefusal text line answer

-- the script of a text, and no line; or why the text isn't linked, by a number that is none of this library's own
abbrev pub ReadsScript : List ℕ → ℕ → Result DescribedScript ℕ → Type 0
ReadsScript text line (Ok script) = (script_of text ≡ Ok script) × (line ≡ 0)
ReadsScript text line (Err number) = LinkRefuses text line number × ((number == 0) ≡ false) × ((number == 200) ≡ false)

-- 0, and the container is in the buffer; or 200, if it is longer; or a refusal, and the buffer and the length are unchanged
abbrev pub LinkAnswers : List ℕ → List ℕ → List ℕ → ℕ → ℕ → ℕ → ℕ → Type 0
LinkAnswers text old new before after line answer =
    MatchBool (answer == 0) ((l : LinkedContainer) × IsLinkedOf text l × Fills l.bytes old new after × (line ≡ 0))
    (MatchBool (answer == 200) ((l : LinkedContainer) × IsLinkedOf text l × IsTooLong l.bytes old new after × (line ≡ 0))
    ((new ≡ old) × (after ≡ before) × LinkRefuses text line answer))
