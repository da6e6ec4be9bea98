-- What was taken and what is left are all.
use Rattle.std.proofs.Common.{◌≡◌, ◌++◌, ◌-◌}
use Rattle.std.specs.Option.{option_to_list}
use Rattle.pef_words.specs.Findings.{all_among}
use Rattle.pef_inspect.proofs.checked.check_each.Given as goal

abbrev pub invariant-loop-i : goal.invariant-loop-i
invariant-loop-i g l = g.S.Findings.taken l.sink ++ all_among (λ i. option_to_list (g.C.Checked.error l.parts i)) l.i (l.count - l.i)
    ≡ g.S.Findings.taken l.fn.sink ++ all_among (λ i. option_to_list (g.C.Checked.error l.parts i)) 0 l.count
