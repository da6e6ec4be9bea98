use Rattle.std.proofs.Common.{◌≡◌, drop}
use Rattle.test_bench.specs.Papers.{found_at, seen}
use Rattle.test_bench.proofs.ports.Papers.bytes.Given as goal

-- the remaining ones decide
abbrev pub invariant-loop-paper : goal.invariant-loop-paper
invariant-loop-paper l = found_at (seen (drop l.paper-index l.self.papers.items)) l.path ≡ found_at (seen l.self.papers.items) l.path
