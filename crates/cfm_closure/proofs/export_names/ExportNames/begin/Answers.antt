-- The loader section in the place is that of the fragment.
use Rattle.std.proofs.Common.{◌≡◌, ◌∙◌, Some, None, refl, sym, ap, subst}
use Rattle.std.specs.Prelude.{IsSome}
use Rattle.std.proofs.lemmas.List.{get_or-set_same}
use Rattle.cfm_store.specs.Exported.{NamedTable}
use Rattle.cfm_closure.specs.Views.{fragment_seen}
use Rattle.cfm_closure.specs.Fragments.{loader_at}
use Rattle.cfm_closure.proofs.HopFacts.{loader_at-is}
use Rattle.cfm_closure.proofs.NameLemmas.{names-set, names_inside}
use Rattle.cfm_closure.proofs.export_names.ExportNames.begin.Goals as goal

pub put-requires : goal.put-requires
put-requires c = names_inside c.args.bindings.now.pairs c.args.bindings.now.order c.args.self.now.tables c.requires.names c.args.q c.requires.place

pub returns-clause-names : goal.returns-clause-names
returns-clause-names c =
    let pairs = c.args.bindings.now.pairs in
    let loader : loader_at pairs c.args.q ≡ Some c.new-names.result.loader = loader_at-is pairs c.args.q (fragment_seen c.fragment-fragment.result.now) c.fragment-fragment.ensures ∙ ap (λ (t : NamedTable). Some t.loader) (sym c.new-names.ensures) in
    rw c.in_ok-put.ensures.ok (names-set pairs c.args.bindings.now.order c.args.self.now.tables c.requires.names c.args.q c.requires.place c.new-names.result loader)

pub returns-clause-begun : goal.returns-clause-begun
returns-clause-begun c =
    let under = names_inside c.args.bindings.now.pairs c.args.bindings.now.order c.args.self.now.tables c.requires.names c.args.q c.requires.place in
    rw c.in_ok-put.ensures.ok (subst IsSome (sym (get_or-set_same c.args.self.now.tables c.args.q (Some c.new-names.result) None under)) refl)
