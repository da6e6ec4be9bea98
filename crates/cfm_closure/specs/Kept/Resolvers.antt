-- The state of the search for targets.
use Rattle.std.specs.Prelude.{◌≡◌, ℕ, ◌≤◌, ◌^◌, List}
use Rattle.cfm_store.specs.Stores.{Pair}
use Rattle.cfm_closure.specs.declared.resolve.Resolver.{Resolver}
use Rattle.cfm_closure.specs.Targets.{exports_among}
use Rattle.cfm_closure.specs.Kept.Names.{AreNamesOf}
use Rattle.cfm_closure.specs.Kept.Symbols.{AreSymbolsOf}

-- a resolver is one for a closure order
pub record IsResolver (pairs : List Pair) (order : List ℕ) (r : Resolver) : Type 0 where
  pub exports : r.exports ≡ exports_among pairs order
  pub few : r.exports ≤ 2 ^ 40
  pub symbols : AreSymbolsOf pairs order r.symbols
  pub names : AreNamesOf pairs order r.names
