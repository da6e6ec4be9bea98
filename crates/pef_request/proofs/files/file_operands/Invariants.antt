-- The files so far are those of the first words.
use Rattle.std.proofs.Common.{◌≡◌, List, ℕ, map, take}
use Rattle.std.specs.Borrow.{Bor}
use Rattle.pef_request.specs.Files.{file_operand}
use Rattle.pef_request.specs.Requests.{operand_path}
use Rattle.pef_request.proofs.files.file_operands.Given as goal

abbrev pub invariant-loop-word : goal.invariant-loop-word
invariant-loop-word l =
    let now : Bor (List ℕ) → List ℕ = λ word. word.now in
    map operand_path l.files.items ≡ map file_operand (map now (take l.word-index l.words))
