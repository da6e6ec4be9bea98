-- The values of borrowed names and bytes, without places in memory.
use Rattle.std.specs.Prelude.{ℕ, List, false, Option, None, Some}
use Rattle.std.specs.Borrow.{Bor}
use Rattle.cfm_store.specs.Stores.{Pair, free_place}

abbrev pub pair_seen : Bor (List ℕ) × Bor (List ℕ) → Pair
pair_seen p = record { name = p.0.now; bytes = p.1.now; free = false }

-- a place of a store, which has a pair or is free
abbrev pub place_seen : Option (Bor (List ℕ) × Bor (List ℕ)) → Pair
place_seen None = free_place
place_seen (Some p) = pair_seen p
