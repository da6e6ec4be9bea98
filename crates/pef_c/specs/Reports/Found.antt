-- What the calls return and write that find the containers of a file one after the other.
use Rattle.std.specs.Prelude.{◌≡◌, ℕ, ◌+◌, List, ◌∷◌, Option, None, Some, MatchBool, drop, length, nat_lt, slice_get}
use Rattle.cfm_members.specs.Search.{containers_in}
use Rattle.mac_report.specs.Containers.{first_turn, rest_for, turn_after}
use Rattle.mac_report.specs.declared.turn.Turn.{Turn}
use Rattle.pef_records.specs.declared.structs.PefFoundContainer.{PefFoundContainer}

-- the places from one on where a container begins
abbrev pub places_from : List ℕ → ℕ → List ℕ
places_from file from = containers_in (drop from file) from

-- what the containers before one leave
abbrev pub turn_of : PefFoundContainer → Turn
turn_of c = record {
  budget = c.budget;
  limits = record { program_bytes = c.program_bytes; steps = c.steps; packed_bytes = c.packed_bytes; words = c.words };
  containers = c.number;
  skipped = c.skipped;
}

-- the container at a place, with all bytes that it can have. If nothing more is inspected, they may go up to the end of the file
abbrev pub found_at : List ℕ → ℕ → Turn → PefFoundContainer
found_at file at turn = record {
  offset = at;
  length = length (rest_for file turn at);
  number = turn.containers;
  skipped = turn.skipped;
  budget = turn.budget;
  program_bytes = turn.limits.program_bytes;
  steps = turn.limits.steps;
  packed_bytes = turn.limits.packed_bytes;
  words = turn.limits.words;
}

-- 0, and the container at a place is written; or 201 if there is none, and the end of the file is
abbrev pub StoresFound : List ℕ → Turn → Option ℕ → PefFoundContainer → ℕ → Type 0
StoresFound file turn (Some at) new answer = (answer ≡ 0) × (new ≡ found_at file at turn)
StoresFound file turn None new answer = (answer ≡ 201) × (new ≡ found_at file (length file) turn)

-- `pef_first_container`
abbrev pub FirstFound : List ℕ → PefFoundContainer → ℕ → Type 0
FirstFound file new answer = StoresFound file (first_turn file) (slice_get (places_from file 0) 0) new answer

-- `pef_next_container`: the first place after that of the container; or nothing is written at the end of the file
abbrev pub NextFound : List ℕ → PefFoundContainer → PefFoundContainer → ℕ → Type 0
NextFound file old new answer =
    MatchBool (nat_lt old.offset (length file))
    (StoresFound file (turn_after (turn_of old) (rest_for file (turn_of old) old.offset)) (slice_get (places_from file (old.offset + 1)) 0) new answer)
    ((answer ≡ 201) × (new ≡ old))

-- the places after the first one from a place on are those from the byte after it on. So the containers that are found one after the
-- other are all that a search finds
abbrev pub FoundFollow : Type 0
FoundFollow = (file : List ℕ) (from at : ℕ) (others : List ℕ) → places_from file from ≡ at ∷ others → others ≡ places_from file (at + 1)
