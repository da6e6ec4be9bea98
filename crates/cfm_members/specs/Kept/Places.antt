-- Steps of a search for containers, for the proofs of this crate.
use Rattle.std.specs.Prelude.{◌≡◌, ℕ, ◌+◌, ◌<◌, List, [], ◌∷◌, Option, MatchOption, length, drop}
use Rattle.cfm_members.specs.Search.{containers_in}

-- at none there is no container; at a place there is none before it, wherever the bytes begin
abbrev pub SkipsTo : List ℕ → Option ℕ → Type 0
SkipsTo bytes r = MatchOption r
    ((offset : ℕ) → containers_in bytes offset ≡ [])
    (λ k. (k < length bytes) × ((offset : ℕ) → containers_in bytes offset ≡ containers_in (drop k bytes) (offset + k)))

-- the containers of some bytes from an offset on are those of the others, and before them the one that was found
abbrev pub TestsFirst : List ℕ → ℕ → List ℕ → ℕ → Option ℕ → Type 0
TestsFirst bytes offset others next r = MatchOption r
    (containers_in bytes offset ≡ containers_in others next)
    (λ place. containers_in bytes offset ≡ place ∷ containers_in others next)
