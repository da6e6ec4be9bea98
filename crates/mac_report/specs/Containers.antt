-- What is printed of the containers of a file, in the order in which a search finds them. The budget and the limits, which
-- keep the work for a file linear in its length, are this project's own.
use Rattle.std.specs.Prelude.{◌≡◌, ℕ, ◌+◌, ◌-◌, ◌*◌, ◌/◌, ◌^◌, ◌==◌, Bool, true, false, List, [], ◌∷◌, ◌++◌, Result, Ok, Err, codes, decimal, length, nat_lt, unwrap_or, if◌then◌else◌}
use Rattle.cfm_members.specs.Contents.{all_from, rest_from}
use Rattle.pef_words.specs.Bytes.{number_at}
use Rattle.pef_views.specs.Container.{Contained}
use Rattle.pef_views.specs.Partial.{partial_of}
use Rattle.pef_views.specs.declared.fault.ViewFault.{ViewFault}
use Rattle.pef_inspect.specs.Left.{left_after}
use Rattle.pef_inspect.specs.Limits.{most_packed, most_program_bytes, most_steps, most_words}
use Rattle.pef_inspect.specs.declared.limits.Limits.{Limits}
use Rattle.pef_report.specs.Inspection as inspection
use Rattle.pef_report.specs.Inspection.{Inspected, count_chosen, inspection_object, inspection_text}
use Rattle.pef_rows.specs.Objects.{separator}
use Rattle.pef_rows.specs.Tokens.{at_text}
use Rattle.pef_rows.specs.declared.frames.Counts.{Counts}
use Rattle.mac_rows.specs.ResourceRows.{resource_rows}
use Rattle.mac_rows.specs.Sums.{up_to}
use Rattle.mac_rows.specs.declared.output_format.OutputFormat.{OutputFormat}
use Rattle.mac_rows.specs.declared.output_format.OutputFormat.TheVariants.{Text, Json}
use Rattle.mac_report.specs.declared.tally.Tally.{Tally}
use Rattle.mac_report.specs.declared.turn.Turn.{Turn}

-- what is known of a container: it was inspected. Or an allocation failed. Or the file's budget is used up
pub data RowIs : Type 0 where
  inspected : Inspected → RowIs
  lacking : ℕ → RowIs
  skipped : RowIs

-- what the inspection of a container takes from the budget, by the bytes from its first on: 8 kilobytes, its header, and
-- the headers of the sections that it says that it has
unfoldable pub headers_cost : List ℕ → ℕ
headers_cost rest = 2 ^ 13 + 40 + 28 * unwrap_or (number_at 2 rest 32) 0

-- .. and its loader section, as far as it is there
abbrev pub loader_length : Result Contained ViewFault → ℕ
loader_length (Ok c) = length c.loader
loader_length (Err f) = 0

unfoldable pub cost : List ℕ → ℕ
cost rest = headers_cost rest + loader_length (partial_of rest)

-- what is known of the container at a place, if so much of the budget is left
abbrev pub IsInspected : Limits → List ℕ → ℕ → RowIs → Type 0
IsInspected limits rest at (inspected i) = inspection.InspectsWithin limits at rest i
IsInspected limits rest at (lacking offset) = offset ≡ at
IsInspected limits rest at skipped = ⊥

abbrev pub IsRowIf : Bool → Limits → List ℕ → ℕ → RowIs → Type 0
IsRowIf true limits rest at row = row ≡ skipped
IsRowIf false limits rest at row = IsInspected limits rest at row

abbrev pub IsRowOf : List ℕ → Turn → ℕ → RowIs → Type 0
IsRowOf rest t at row = IsRowIf (nat_lt t.budget (cost rest)) t.limits rest at row

-- the bytes of a container at a place. If too little of the budget is left for any container, where its resource or its fork ends isn't
-- looked for
unfoldable pub rest_for : List ℕ → Turn → ℕ → List ℕ
rest_for bytes t at = if nat_lt t.budget (2 ^ 13 + 40) then all_from bytes at else rest_from bytes at

abbrev pub IsRow : List ℕ → Turn → ℕ → RowIs → Type 0
IsRow bytes t at row = IsRowOf (rest_for bytes t at) t at row

-- what is printed of a container that was inspected
abbrev pub inspected_object : Bool → Inspected → List ℕ
inspected_object is_first i = separator is_first ++ inspection_object i

abbrev pub inspected_text : OutputFormat → Bool → Inspected → List ℕ
inspected_text Text is_first i = inspection_text i
inspected_text Json is_first i = inspected_object is_first i

-- the error of a container whose inspection lacks memory
unfoldable pub lacking_line : ℕ → List ℕ
lacking_line at = codes "error 99 OutOfMemory container at " ++ at_text at ++ codes "\n"

unfoldable pub lacking_object : ℕ → List ℕ
lacking_object at =
    codes "{\"offset\":" ++ decimal at
    ++ codes ",\"header\":null,\"sections\":[],\"loader\":null,\"libraries\":[],\"imports\":[],\"relocations\":[],\"exports\":[],\"entries\":{\"main\":null,\"init\":null,\"term\":null},\"errors\":[{\"number\":99,\"name\":\"OutOfMemory\",\"part\":null,\"row\":null,\"field\":null,\"offset\":null}],\"notes\":[],\"verdict\":null}"

abbrev pub lacking_text : OutputFormat → Bool → ℕ → List ℕ
lacking_text Text is_first at = lacking_line at
lacking_text Json is_first at = separator is_first ++ lacking_object at

-- what is printed of a container
abbrev pub row_text : OutputFormat → Bool → RowIs → List ℕ
row_text form is_first (inspected i) = inspected_text form is_first i
row_text form is_first (lacking at) = lacking_text form is_first at
row_text form is_first skipped = []

-- what is counted of a container: its errors and notes
abbrev pub errors_in : RowIs → ℕ
errors_in (inspected i) = count_chosen true i.findings
errors_in (lacking at) = 1
errors_in skipped = 0

abbrev pub notes_in : RowIs → ℕ
notes_in (inspected i) = count_chosen false i.findings
notes_in (lacking at) = 0
notes_in skipped = 0

-- the limits of a file: those for one container, each with the file's length. Words are kept while they are compared, so
-- only a part of the length is added to them
abbrev pub file_limits : ℕ → Limits
file_limits n = record { program_bytes = most_program_bytes + n; steps = most_steps + n; packed_bytes = most_packed + n; words = most_words + n / 64 }

-- what is left for the first container of a file: its limits, and a budget of 64 megabytes and its length. For each container the rows of
-- the resources are looked at, so with 512 of them it is half of the 64 megabytes, with 1,024 a third, and so on
abbrev pub first_turn : List ℕ → Turn
first_turn bytes = record { budget = 2 ^ 26 / (1 + resource_rows bytes / 512) + length bytes; limits = file_limits (length bytes); containers = 0; skipped = 0 }

-- .. and what a container leaves to the next one. One that passes the budget isn't inspected, and leaves nothing of it
abbrev pub turn_if : Bool → Turn → List ℕ → Turn
turn_if true t rest = record { budget = 0; limits = t.limits; containers = up_to (t.containers + 1); skipped = up_to (t.skipped + 1) }
turn_if false t rest = record { budget = t.budget - cost rest; limits = left_after t.limits rest; containers = up_to (t.containers + 1); skipped = t.skipped }

abbrev pub turn_after : Turn → List ℕ → Turn
turn_after t rest = turn_if (nat_lt t.budget (cost rest)) t rest

-- what is counted before the first container of a file, and after a container
abbrev pub fresh_tally : List ℕ → Tally
fresh_tally bytes = record { turn = first_turn bytes; errors = 0; notes = 0 }

abbrev pub tallied : Tally → List ℕ → RowIs → Tally
tallied t rest row = record { turn = turn_after t.turn rest; errors = up_to (t.errors + errors_in row); notes = up_to (t.notes + notes_in row) }

-- what one container adds to a text and to what is counted
pub record Steps (form : OutputFormat) (bytes : List ℕ) (before : Tally) (at : ℕ) (text : List ℕ) (after : Tally) : Type 0 where
  pub row : RowIs
  pub is : IsRow bytes before.turn at row
  pub printed : text ≡ row_text form (before.turn.containers == 0) row
  pub counted : after ≡ tallied before (rest_for bytes before.turn at) row

-- what the containers at some places add
abbrev pub Walks : OutputFormat → List ℕ → Tally → List ℕ → List ℕ → Tally → Type 0
Walks form bytes before [] text after = (text ≡ []) × (after ≡ before)
Walks form bytes before (at ∷ places) text after =
    (here : List ℕ) × (between : Tally) × (others : List ℕ)
    × Steps form bytes before at here between × Walks form bytes between places others after × (text ≡ here ++ others)

-- the counts of a file with so many errors and notes besides those of its containers. All containers that weren't inspected
-- are one more note
abbrev pub total : Tally → ℕ → ℕ → Counts
total t errors notes = record {
  containers = t.turn.containers;
  errors = up_to (t.errors + errors);
  notes = up_to (up_to (t.notes + notes) + (if nat_lt 0 t.turn.skipped then 1 else 0));
  unverified = t.turn.skipped;
}
