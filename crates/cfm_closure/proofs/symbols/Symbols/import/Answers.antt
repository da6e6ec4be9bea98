-- The table's entry is that of the fragment.
use Rattle.std.proofs.Common.{◌≡◌, ◌∙◌, Some, sym, ap}
use Rattle.cfm_closure.specs.Views.{fragment_seen}
use Rattle.cfm_closure.specs.Fragments.{loader_at}
use Rattle.cfm_closure.proofs.HopFacts.{loader_at-is}
use Rattle.cfm_closure.proofs.SymbolLemmas.{IsSymbol, symbol-is, table_found, table_inside, tables-set}
use Rattle.cfm_closure.proofs.symbols.Symbols.import.Goals as goal

told : (c : goal.After-get-in-Some-Some) → IsSymbol c.args.bindings.now.pairs c.args.p c.args.j c.get-in-Some-Some.result
told c =
    let pairs = c.args.bindings.now.pairs in
    let found = table_found pairs c.args.bindings.now.order c.args.self.now.tables c.requires.symbols c.args.p c.requires.place c.in-Some-Some.table (sym c.in-Some-Some.ensures ∙ ap Some c.in-Some-Some.field-0-is) in
    symbol-is pairs c.args.p c.args.j c.in-Some-Some.table c.get-in-Some-Some.result found c.get-in-Some-Some.ensures.value c.get-in-Some-Some.ensures.library

pub returns-in-Some-Some-clause-value : goal.returns-in-Some-Some-clause-value
returns-in-Some-Some-clause-value c = (told c).value

pub returns-in-Some-Some-clause-library : goal.returns-in-Some-Some-clause-library
returns-in-Some-Some-clause-library c = (told c).library

pub put-requires : goal.put-requires
put-requires c = table_inside c.args.bindings.now.pairs c.args.bindings.now.order c.args.self.now.tables c.requires.symbols c.args.p c.requires.place

pub returns-clause-symbols : goal.returns-clause-symbols
returns-clause-symbols c =
    let pairs = c.args.bindings.now.pairs in
    let loader : loader_at pairs c.args.p ≡ Some c.in_ok-table.table = loader_at-is pairs c.args.p (fragment_seen c.fragment-fragment.result.now) c.fragment-fragment.ensures ∙ ap Some (sym c.in_ok-table.ensures) in
    rw c.in_ok-put.ensures.ok (tables-set pairs c.args.bindings.now.order c.args.self.now.tables c.requires.symbols c.args.p c.requires.place (Some c.in_ok-table.table)
    (λ l is. loader ∙ is))
