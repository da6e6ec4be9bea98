-- The words left decide.
use Rattle.std.proofs.Common.{◌≡◌, drop, map}
use Rattle.std.specs.Prelude.{string_bytes}
use Rattle.std.specs.List.{list_any}
use Rattle.std.specs.Option.{is_some}
use Rattle.pef_folders.specs.Expansions.{after_flag}
use Rattle.pef_folders.proofs.expansion.names_folder.Given as goal

abbrev pub invariant-loop-word : goal.invariant-loop-word
invariant-loop-word l = list_any (λ w. is_some (after_flag w)) (map string_bytes (drop l.word-index l.words)) ≡ list_any (λ w. is_some (after_flag w)) (map string_bytes l.words)
