-- One part after the other.
use Rattle.std.proofs.Common.{◌++◌, List, ap, ap₂, append_assoc, option_map, ◌∙◌}
use Rattle.mac_rows.specs.Faults.{entry_faults, faults_of, head_faults, parts_faults, wrapping_faults}
use Rattle.mac_rows.specs.Views.{data_file_seen, wrapping_seen}
use Rattle.mac_rows.specs.declared.file_finding.FileFinding.{FileFinding}
use Rattle.mac_rows.proofs.faults.find_faults.Goals as goal

pub returns : goal.returns
unfolding faults_of
returns g c =
    let w = wrapping_seen c.of-wrapping.result in
    let a = head_faults w in
    let b = entry_faults w.data_fork in
    let d = entry_faults w.resource_fork in
    let parts = ap₂ parts_faults c.members_fork.ensures c.readable.ensures in
    let first = c.in_ok-find_in_head.ensures ∙ ap (λ (xs : List FileFinding). xs ++ a) c.new-found.ensures.items in
    let second = c.in_ok-find_in_entry.ensures ∙ ap (λ (xs : List FileFinding). xs ++ b) first in
    let third = c.in_ok-find_in_entry-2.ensures ∙ ap (λ (xs : List FileFinding). xs ++ d) second in
    c.in_ok-find_in_parts.ensures ∙ ap₂ (λ (xs ys : List FileFinding). xs ++ ys) third parts
    ∙ append_assoc (a ++ b) d _ ∙ append_assoc a b _ ∙ ap (wrapping_faults (option_map data_file_seen c.args.data_file)) c.of-wrapping.ensures
