-- The files so far, and those that the remaining words name, are all files that the words name.
use Rattle.std.proofs.Common.{◌≡◌, ◌++◌, map, drop, option_map}
use Rattle.pef_request.specs.Files.{named_files}
use Rattle.pef_request.specs.Requests.{named_path}
use Rattle.pef_request.proofs.files.named_files.Given as goal

abbrev pub invariant-loop-word : goal.invariant-loop-word
invariant-loop-word l =
    option_map (λ files. map named_path l.files.items ++ files) (named_files (map (λ w. w.now) (drop l.word-index l.words))) ≡ named_files (map (λ w. w.now) l.words)
