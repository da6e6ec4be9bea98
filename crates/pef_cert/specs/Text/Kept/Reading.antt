-- The values of the reader's types, and of its steps.
use Rattle.std.specs.Prelude.{◌≡◌, ℕ, ◌+◌, ◌<◌, ◌≤◌, length, List, [], Option, None, Some, Result, Ok, Err}
use Rattle.std.specs.Option.{ok_or}
use Rattle.pef_lines.specs.Lines.{cut_at}
use Rattle.pef_cert.specs.declared.text.fault.CertFault.{CertFault}
use Rattle.pef_cert.specs.declared.text.lines.Line.{Line}
use Rattle.pef_cert.specs.declared.text.lines.Lines.{Lines}
use Rattle.pef_cert.specs.Text.Grammar.{Left, ranges_read}
use Rattle.pef_cert.specs.Text.Views.{FailsAs, ReadsAs}

-- a result and the rest are the expected ones, unless an allocation failed
abbrev pub Takes : {A : Type 0} → Result A CertFault → Left → Result (A × Left) ℕ → Type 0
Takes (Ok x) left wanted = wanted ≡ Ok (x, left)
Takes (Err fault) left wanted = FailsAs fault wanted

-- a result is the value of the line with a number, unless an allocation failed
abbrev pub Says : {A : Type 0} → Result A CertFault → ℕ → Option A → Type 0
Says result number wanted = ReadsAs result (ok_or wanted number)

-- the rest of a text
abbrev pub left : Lines → Left
left lines = record { number = lines.number; text = lines.rest.now }

-- a line is taken, or none if there is none
abbrev pub NextLine : Option Line → Left → Left → Type 0
NextLine None old new = (cut_at 0x0A old.text ≡ None) × (new ≡ old)
NextLine (Some line) old new = (line.number ≡ old.number) × (cut_at 0x0A old.text ≡ Some (line.bytes.now, new.text)) × (new.number ≡ old.number + 1)

-- after some rows of ranges this rest is left, which gives the rows of all
pub record RangesGoing (width count : ℕ) (rows : List (List ℕ)) (behind old : Left) : Type 0 where
  pub most : ℕ
  pub few : length rows ≤ count
  pub more : count < most + length rows
  pub whole : ranges_read width count most rows behind ≡ ranges_read width count (count + 1) [] old
