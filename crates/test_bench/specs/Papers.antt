-- Files in memory.
use Rattle.std.specs.Prelude.{ℕ, List, [], ◌∷◌, Option, None, Some, if◌then◌else◌, map}
use Rattle.std.specs.Str.{bytes_eq}
use Rattle.test_bench.specs.declared.ports.Paper.{Paper}

-- papers as pairs of a path and bytes
abbrev pub seen : List Paper → List (List ℕ × List ℕ)
seen papers = map (λ p. (p.path.items, p.bytes.items)) papers

-- the bytes at a path: those of the first paper with that path
abbrev pub found_at : List (List ℕ × List ℕ) → List ℕ → Option (List ℕ)
found_at [] path = None
found_at (paper ∷ papers) path = if bytes_eq paper.0 path then Some paper.1 else found_at papers path
