-- The parts of `split_once` are those of the word.
use Rattle.std.proofs.Common.{None, Some, ap, ◌∙◌}
use Rattle.pef_request.specs.Files.{operand_at}
use Rattle.pef_request.proofs.FileLemmas.{split_once_is}
use Rattle.pef_request.proofs.files.file_operand.Goals as goal

pub returns-in-None : goal.returns-in-None
returns-in-None c = ap (operand_at c.args.word.now) (split_once_is c.args.word.now None c.in-None.ensures.cases)

pub returns-in-Some : goal.returns-in-Some
returns-in-Some c =
    let split = split_once_is c.args.word.now (Some (c.in-Some.name, c.in-Some.path)) c.in-Some.ensures.cases in
    ap (λ n. (n, c.in-Some.path.now)) c.given.ensures ∙ ap (operand_at c.args.word.now) split
