-- No target is known.
use Rattle.std.proofs.Common.{◌≡◌, ◌∙◌, None, replicate, ap, rules}
use Rattle.cfm_closure.specs.Kept.Resolutions.{all_meant}
use Rattle.cfm_closure.proofs.RowLemmas.{all_meant-none}
use Rattle.cfm_closure.proofs.targets.Targets.unknown.Goals as goal

pub returns : goal.returns
returns c =
    let is : c.in_ok-known.known.items ≡ replicate c.args.len None = search rules in
    ap all_meant is ∙ all_meant-none c.args.len
