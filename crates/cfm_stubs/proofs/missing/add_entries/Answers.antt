-- One more entry is there.
use Rattle.std.proofs.Common.{◌∙◌, ◌+◌, ◌-◌, ◌<◌, ap, sym, arith}
use Rattle.std.specs.Prelude.{fold}
use Rattle.pef_loader.specs.Views.{loaded}
use Rattle.cfm_stubs.specs.Kept.Tables.{lacking_named}
use Rattle.cfm_stubs.specs.Lacking.{entries_on, listed, with_entry}
use Rattle.cfm_stubs.proofs.LackingLemmas.{entries-on-next}
use Rattle.cfm_stubs.proofs.missing.add_entries.Goals as goal

pub loop-k-preserved : goal.loop-k-preserved
loop-k-preserved c =
    let l = loaded c.args.loader.now in
    let step = with_entry c.args.store.now in
    let n = l.header.library_count in
    let k = c.loop-k.k in
    let before = lacking_named c.loop-k.weak.entries in
    let under : k < n = omega (arith, c.libraries-k-end.ensures.count) in
    ap (λ found. fold step found (entries_on l (k + 1) (n - (k + 1)))) (c.in_ok-add_entry.ensures ∙ ap (λ o. fold step before (listed o)) c.library.ensures.value)
    ∙ sym (entries-on-next step before l n k under)
    ∙ c.loop-k.invariant
