-- What a context is made with. The format says nothing of it, so these are this project's own rules.
use Rattle.std.specs.Prelude.{ℕ, Option, None}
use Rattle.cfm_memory.specs.Limits.{grain}

-- what its preparations may take: how many connections it gives in all, and how many steps the relocation programs of one
-- preparation may take together, and how many bytes its sections. Without a number there is no end
pub record Bounds : Type 0 where
  pub connections : ℕ
  pub steps : Option ℕ
  pub bytes : Option ℕ

-- the address that no section may exceed, the granule, of which sections begin at and take multiples, and the bounds
pub record Choices : Type 0 where
  pub limit : ℕ
  pub granule : ℕ
  pub bounds : Bounds

-- how many connections a context gives in all, if no other number is asked for
abbrev pub most_connections : ℕ
most_connections = 65536

-- the highest limit of the commands, which a context has if no other is asked for (10000000 in hex)
abbrev pub usual_limit : ℕ
usual_limit = 268435456

-- the bounds, and the other choices but the limit, if nothing else is asked for
abbrev pub usual_bounds : Bounds
usual_bounds = record { connections = most_connections; steps = None; bytes = None }

abbrev pub usual_choices : ℕ → Choices
usual_choices limit = record { limit = limit; granule = grain; bounds = usual_bounds }
