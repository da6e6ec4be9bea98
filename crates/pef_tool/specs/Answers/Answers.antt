-- The answers of commands, and how an answer is written (README, "Output and status").
use Rattle.std.specs.Prelude.{◌≡◌, ◌⊎◌, ℕ, List, codes, take}
use Rattle.pef_ports.specs.Ports.{Stream, Grows, LastFailed, NoneFailed}
use Rattle.pef_tool.specs.declared.answers.outcome.Outcome.{Outcome}
use Rattle.pef_tool.specs.declared.answers.outcome.Outcome.TheVariants.{Done, SaidNo, Refused, Usage, OutputFailed}

-- the exit status of each outcome
abbrev pub status_of : Outcome → ℕ
status_of Done = 0
status_of SaidNo = 1
status_of (Refused number note) = 1
status_of Usage = 2
status_of OutputFailed = 1

-- an answer: the text that is printed, and the outcome of the run
pub record Answer : Type 0 where
  pub text : List ℕ
  pub outcome : Outcome

-- the answer of a command that is done
abbrev pub answer_done : List ℕ → Answer
answer_done text = record { text = text; outcome = Done }

-- the answer to an invalid command line
abbrev pub answer_usage : Answer
answer_usage = record { text = codes "usage\n"; outcome = Usage }

-- the whole answer is written, and the run has its outcome. Or a prefix of it is written, the output fails at its last
-- call, and the outcome says so.
abbrev pub IsDelivered : Stream → Stream → Answer → Outcome → Type 0
IsDelivered before after answer outcome =
    (Grows before.bytes after.bytes answer.text × NoneFailed before after × (outcome ≡ answer.outcome))
    ⊎ (((n : ℕ) × Grows before.bytes after.bytes (take n answer.text)) × LastFailed before after × (outcome ≡ OutputFailed))
