-- One more entry is served.
use Rattle.std.proofs.Common.{◌∙◌, ◌+◌, ◌-◌, ◌<◌, ap, sym, arith}
use Rattle.std.specs.Prelude.{fold}
use Rattle.pef_loader.specs.Views.{loaded}
use Rattle.cfm_stubs.specs.Versions.{noted, own_entries, own_entry}
use Rattle.cfm_stubs.proofs.VersionLemmas.{entries-next}
use Rattle.cfm_stubs.proofs.versions.with_entries.Goals as goal

pub loop-k-preserved : goal.loop-k-preserved
loop-k-preserved c =
    let l = loaded c.args.loader.now in
    let library = c.args.library.now in
    let n = l.header.library_count in
    let k = c.loop-k.k in
    let under : k < n = omega (arith, c.libraries-k-end.ensures.count) in
    ap (λ found. fold noted found (own_entries l library (k + 1) (n - (k + 1)))) (c.with_entry-served.ensures ∙ ap (λ o. fold noted c.loop-k.served (own_entry library o)) c.library.ensures.value)
    ∙ sym (entries-next c.loop-k.served l library n k under)
    ∙ c.loop-k.invariant
