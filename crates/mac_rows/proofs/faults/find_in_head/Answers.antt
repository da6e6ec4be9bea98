-- One error after the other.
use Rattle.std.proofs.Common.{◌++◌, List, ap, append_assoc, ◌∙◌}
use Rattle.mac_rows.specs.Faults.{header_faults}
use Rattle.mac_rows.specs.declared.file_finding.FileFinding.{FileFinding}
use Rattle.mac_rows.proofs.faults.find_in_head.Goals as goal

pub returns : goal.returns
returns g c =
    let w = c.args.wrapping in
    let old = c.args.found.now.items in
    let a = header_faults w.fault in
    let first_cut = header_faults w.cuts.data_fork in
    let resource = header_faults w.cuts.resource_fork in
    let comment = header_faults w.cuts.comment in
    let rows = header_faults w.cut in
    let first = c.in_ok-find_in_header.ensures in
    let second = c.in_ok-find_in_header-2.ensures ∙ ap (λ (xs : List FileFinding). xs ++ first_cut) first in
    let third = c.in_ok-find_in_header-3.ensures ∙ ap (λ (xs : List FileFinding). xs ++ resource) second in
    let fourth = c.in_ok-find_in_header-4.ensures ∙ ap (λ (xs : List FileFinding). xs ++ comment) third in
    c.in_ok-find_in_header-5.ensures ∙ ap (λ (xs : List FileFinding). xs ++ rows) fourth
    ∙ append_assoc (((old ++ a) ++ first_cut) ++ resource) comment rows ∙ append_assoc ((old ++ a) ++ first_cut) resource (comment ++ rows)
    ∙ append_assoc (old ++ a) first_cut (resource ++ (comment ++ rows)) ∙ append_assoc old a (first_cut ++ (resource ++ (comment ++ rows)))
