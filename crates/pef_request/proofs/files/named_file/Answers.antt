-- The parts of `split_once` are those of the word.
use Rattle.std.proofs.Common.{List, ℕ, Option, None, Some, option_and_then, sym, ap, ◌∙◌}
use Rattle.pef_request.specs.Files.{file_at}
use Rattle.pef_request.proofs.FileLemmas.{file_at_some, split_once_is}
use Rattle.pef_request.proofs.files.named_file.Goals as goal

abbrev file_of : Option (List ℕ × List ℕ) → Option (List ℕ × List ℕ)
file_of parts = option_and_then (λ p. file_at p.0 p.1) parts

pub returns-in_err-name : goal.returns-in_err-name
returns-in_err-name c = rw c.from_residual.ensures (ap file_of (split_once_is c.args.word.now None c.in_err-name.ensures.cases))

pub returns : goal.returns
returns c =
    let split = split_once_is c.args.word.now (Some (c.in_ok-name.name, c.in_ok-name.path)) c.in_ok-name.ensures.cases in
    file_at_some c.in_ok-name.name.now c.in_ok-name.path.now (sym c.if-is_empty.ensures) ∙ ap file_of split
