-- The fragment that is kept was read from the store.
use Rattle.std.proofs.Common.{◌∙◌, sym, ap}
use Rattle.std.specs.Option.{option_and_then}
use Rattle.pef_loader.specs.Loader.{library_of}
use Rattle.cfm_closure.specs.Views.{fragment_seen}
use Rattle.cfm_closure.proofs.FragmentLemmas.{fragment_at-some}
use Rattle.cfm_closure.proofs.HopFacts.{loader_at-is}
use Rattle.cfm_closure.proofs.removal.needs_marked.Goals as goal

pub returns-in-Some : goal.returns-in-Some
returns-in-Some c = λ never kept free l library entry.
    let f = fragment_seen c.in-Some.view.now in
    let here = c.requires.read c.args.p f (fragment_at-some c.args.views.now c.args.p c.in-Some.view.now (sym c.in-Some.ensures)) in
    let own = sym (ap (option_and_then (λ x. library_of x l)) (loader_at-is c.args.store.now c.args.p f here)) ∙ entry in
    c.names_marked.ensures never l library own
