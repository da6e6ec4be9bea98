-- The texts so far are the first words.
use Rattle.std.proofs.Common.{◌≡◌, List, ℕ, map, take}
use Rattle.std.specs.Borrow.{Bor}
use Rattle.pef_request.proofs.files.copied_texts.Given as goal

abbrev pub invariant-loop-word : goal.invariant-loop-word
invariant-loop-word l =
    let now : Bor (List ℕ) → List ℕ = λ text. text.now in
    map now l.texts.items ≡ map now (take l.word-index l.words)
