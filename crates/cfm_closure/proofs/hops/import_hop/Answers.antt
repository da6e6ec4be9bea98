-- A missing symbol is reported by its fragment, library and name. An import that is passed on is one of the library.
use Rattle.std.proofs.Common.{subst, sym}
use Rattle.pef_format.specs.Symbols.{import_seen}
use Rattle.cfm_closure.specs.Views.{fragment_seen}
use Rattle.cfm_closure.specs.Kept.Hops.{LeadsTo}
use Rattle.cfm_closure.proofs.ExportedLemmas.{stays-inside}
use Rattle.cfm_closure.proofs.HopFacts.{hop-missing, import_at-below, loader_at-is}
use Rattle.cfm_closure.proofs.hops.import_hop.Goals as goal

pub returns-in-None-export-clause-answer : goal.returns-in-None-export-clause-answer
returns-in-None-export-clause-answer c =
    let at = rw c.in-Some.is at c.in_ok-symbol.ensures.value in
    let library = fragment_seen c.fragment-library.result.now in
    let found = rw c.in-None-export.is at (c.in_ok-export.ensures.value library.loader (loader_at-is c.args.bindings.now.pairs c.in-Some-library.q library c.fragment-library.ensures)) in
    subst (LeadsTo c.missing-in-None-export.result)
    (sym (hop-missing c.args.bindings.now.pairs c.args.p c.args.j c.in-Some-library.q (fragment_seen c.fragment.result.now) library (import_seen c.in-Some.symbol)
    c.fragment.ensures (sym at) c.in-Some-library.ensures.bound c.fragment-library.ensures found))
    c.missing-in-None-export.ensures

pub returns-in-Some-export-clause-inside : goal.returns-in-Some-export-clause-inside
returns-in-Some-export-clause-inside c =
    let pairs = c.args.bindings.now.pairs in
    let library = fragment_seen c.fragment-library.result.now in
    let means = rw c.in-Some-export.is at (c.in_ok-export.ensures.value library.loader (loader_at-is pairs c.in-Some-library.q library c.fragment-library.ensures)) in
    stays-inside pairs c.args.bindings.now.order c.in-Some-library.q means.index c.in-Some-export.value c.export_hop.result library
    c.in-Some-library.ensures.inside c.fragment-library.ensures means.inside (c.export_hop.ensures means.index)

pub missing-requires-in-None-export : goal.missing-requires-in-None-export
missing-requires-in-None-export c =
    let at = rw c.in-Some.is at c.in_ok-symbol.ensures.value in
    import_at-below c.args.bindings.now.pairs c.args.p c.args.j (fragment_seen c.fragment.result.now) (import_seen c.in-Some.symbol) c.fragment.ensures (sym at)
