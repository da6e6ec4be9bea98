-- A new name goes last. A name that is there stays as it is.
use Rattle.std.proofs.Common.{◌≡◌, ◌∙◌, ◌∷◌, ◌++◌, [], true, false, sym, ap}
use Rattle.std.specs.Prelude.{if◌then◌else◌}
use Rattle.std.proofs.lemmas.List.{map-append}
use Rattle.indexmap.proofs.CallerLemmas.{insert_entry-new}
use Rattle.cfm_stubs.specs.Kept.Tables.{symbol_in, symbols_in}
use Rattle.cfm_stubs.specs.Symbols.{are_named}
use Rattle.cfm_stubs.proofs.SymbolLemmas.{lookup-named, none_if}
use Rattle.cfm_stubs.proofs.symbols.add_symbol.Goals as goal

pub returns : goal.returns
returns c =
    let old = symbols_in c.args.classes.now.entries in
    let i = c.args.import in
    let unnamed : are_named old i.name.now ≡ false = sym (lookup-named i.name.now c.args.classes.now.entries) ∙ sym c.if-contains_key.ensures in
    ap symbols_in (c.in_ok-insert.ensures.entries ∙ insert_entry-new _ c.args.classes.now (record { bytes = i.name }) i.fields.class (none_if _ (sym c.if-contains_key.ensures)))
    ∙ map-append symbol_in c.args.classes.now.entries _
    ∙ ap (λ b. if b then old else old ++ (record { name = i.name.now; class = i.fields.class }) ∷ []) (sym unnamed)

pub returns-then-contains_key : goal.returns-then-contains_key
returns-then-contains_key c =
    let old = symbols_in c.args.classes.now.entries in
    let i = c.args.import in
    let named : are_named old i.name.now ≡ true = sym (lookup-named i.name.now c.args.classes.now.entries) ∙ sym c.if-contains_key.ensures in
    ap (λ b. if b then old else old ++ (record { name = i.name.now; class = i.fields.class }) ∷ []) (sym named)
