-- Fragments with the names that they have in a preparation.
use Rattle.std.specs.Prelude.{ℕ, List}
use Rattle.mac_fragments.specs.declared.candidate.Candidate.{Candidate}

-- a fragment with its name and the code of its usage
pub record CandidateIs : Type 0 where
  pub name : List ℕ
  pub usage : ℕ
  pub bytes : List ℕ

-- the one that a value shows
abbrev pub candidate_seen : Candidate → CandidateIs
candidate_seen c = record { name = c.name.now; usage = c.usage; bytes = c.bytes.now }
