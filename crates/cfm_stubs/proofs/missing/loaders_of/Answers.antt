-- One more loader section is there, if it can be read.
use Rattle.std.proofs.Common.{◌∙◌, ◌+◌, ◌-◌, ◌<◌, ◌++◌, length, map, append_assoc, ap, sym, arith}
use Rattle.pef_loader.specs.Views.{loaded}
use Rattle.cfm_closure.specs.Fragments.{loader_at}
use Rattle.cfm_stubs.specs.Lacking.{listed, loaders_from}
use Rattle.cfm_stubs.proofs.LackingLemmas.{loaders-next}
use Rattle.cfm_stubs.proofs.missing.loaders_of.Goals as goal

pub loop-p-preserved : goal.loop-p-preserved
loop-p-preserved c =
    let pairs = c.args.store.now in
    let n = length pairs in
    let p = c.loop-p.p in
    let old = map loaded c.loop-p.loaders.items in
    let rest = loaders_from pairs (p + 1) (n - (p + 1)) in
    let under : p < n = omega (arith, c.len-p-end.ensures.len) in
    ap (λ z. z ++ rest) (c.in_ok-add_loader.ensures ∙ ap (λ o. old ++ listed o) c.read_at.ensures)
    ∙ append_assoc old (listed (loader_at pairs p)) rest
    ∙ ap (λ z. old ++ z) (sym (loaders-next pairs n p under))
    ∙ c.loop-p.invariant
