-- In a report without errors no container has one.
use Rattle.std.proofs.Common.{◌≡◌, ℕ, Bool, true, false, List, [], ◌∷◌, ap, arith}
use Rattle.std.specs.Prelude.{nat_lt}
use Rattle.cfm_members.specs.Search.{containers_in}
use Rattle.pef_rows.specs.declared.frames.Counts.{Counts}
use Rattle.pef_report.proofs.Laws.{judges_right}
use Rattle.mac_rows.specs.declared.output_format.OutputFormat.{OutputFormat}
use Rattle.mac_report.specs.Containers.{IsRow, IsRowIf, RowIs, Walks, cost, errors_in, fresh_tally, inspected, lacking, rest_for, skipped}
use Rattle.mac_report.specs.Quiet.{AreQuiet, IsQuiet, QuietAreSound}
use Rattle.mac_report.specs.declared.tally.Tally.{Tally}
use Rattle.mac_report.specs.declared.turn.Turn.{Turn}

quiet-row : (bytes : List ℕ) (t : Turn) (at : ℕ) (row : RowIs) → IsRow bytes t at row → errors_in row ≡ 0 → IsQuiet (rest_for bytes t at) row
quiet-row bytes t at (inspected i) is none = by (nat_lt t.budget (cost (rest_for bytes t at))) is
  where
    by : (b : Bool) → IsRowIf b t.limits (rest_for bytes t at) at (inspected i) → IsQuiet (rest_for bytes t at) (inspected i)
    by true is = absurd (cc is)
    by false is = (none, λ verified. judges_right.sound t.limits at (rest_for bytes t at) i is none verified)
quiet-row bytes t at (lacking offset) is none = absurd (cc none)
quiet-row bytes t at skipped is none = tt

-- what is counted never falls
none-before : (form : OutputFormat) (bytes : List ℕ) (places : List ℕ) (before after : Tally) (text : List ℕ) → Walks form bytes before places text after → after.errors ≡ 0 → before.errors ≡ 0
none-before form bytes [] before after text walk none = (let same = ap (λ (t : Tally). t.errors) walk.1 in omega (arith, same, none))
none-before form bytes (at ∷ places) before after text walk none =
    let later = none-before form bytes places walk.1 after walk.2 walk.4 none in
    let counted = ap (λ (t : Tally). t.errors) walk.3.counted in
    omega (arith, later, counted)

all-quiet : (form : OutputFormat) (bytes : List ℕ) (places : List ℕ) (before after : Tally) (text : List ℕ) (walk : Walks form bytes before places text after) → after.errors ≡ 0 → AreQuiet form bytes before places text after walk
all-quiet form bytes [] before after text walk none = tt
all-quiet form bytes (at ∷ places) before after text walk none =
    let later = none-before form bytes places walk.1 after walk.2 walk.4 none in
    let counted = ap (λ (t : Tally). t.errors) walk.3.counted in
    (quiet-row bytes before.turn at walk.3.row walk.3.is (omega (arith, later, counted)), all-quiet form bytes places walk.1 after walk.2 walk.4 none)

pub quiet_are_sound : QuietAreSound
quiet_are_sound form path bytes other found text counts whole none =
    let counted = ap (λ (c : Counts). c.errors) whole.counted in
    all-quiet form bytes (containers_in bytes 0) (fresh_tally bytes) whole.tally whole.containers whole.walked (omega (arith, counted, none))
