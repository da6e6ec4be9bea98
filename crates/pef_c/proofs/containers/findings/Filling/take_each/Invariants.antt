-- The findings before this one were taken.
use Rattle.std.proofs.Common.{◌≡◌, ◌++◌, take}
use Rattle.pef_c.specs.Containers.Fillings.{start_of}
use Rattle.pef_c.specs.Containers.Kept.{kept}
use Rattle.pef_c.specs.Containers.Told.{told_items}
use Rattle.pef_c.proofs.containers.findings.Filling.take_each.Given as goal

abbrev pub invariant-loop-finding : goal.invariant-loop-finding
invariant-loop-finding l =
    kept l.self.places.ghost_name l.self.from (start_of l.self) ++ told_items l.self.taken
    ≡ (kept l.fn.self.places.ghost_name l.fn.self.from (start_of l.fn.self) ++ told_items l.fn.self.taken) ++ take l.finding-index l.found
