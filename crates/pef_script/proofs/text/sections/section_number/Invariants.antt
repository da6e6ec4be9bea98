use Rattle.std.proofs.Common.{◌≡◌, drop, map}
use Rattle.std.specs.List.{position_from}
use Rattle.std.specs.Str.{bytes_eq}
use Rattle.pef_script.specs.Text.SoFar.{number_of_name}
use Rattle.pef_script.proofs.text.sections.section_number.Given as goal

-- the sections left decide
abbrev pub invariant-loop-k : goal.invariant-loop-k
invariant-loop-k l =
    position_from (bytes_eq l.name) l.k (map (λ section. section.header.name) (drop l.k l.sections))
    ≡ number_of_name (map (λ section. section.header.name) l.sections) l.name
