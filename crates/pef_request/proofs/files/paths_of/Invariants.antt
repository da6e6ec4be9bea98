-- The paths so far are the first words.
use Rattle.std.proofs.Common.{◌≡◌, List, ℕ, map, take}
use Rattle.std.specs.Borrow.{Bor}
use Rattle.pef_request.proofs.files.paths_of.Given as goal

abbrev pub invariant-loop-word : goal.invariant-loop-word
invariant-loop-word l =
    let now : Bor (List ℕ) → List ℕ = λ path. path.now in
    map now l.paths.items ≡ map now (take l.word-index l.words)
