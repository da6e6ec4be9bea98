-- Two windows that take turns.
use Rattle.std.specs.Prelude.{Bool, true, false}
use Rattle.pef_plan.specs.Windows.Windows.{Windowed}

-- the window of a fixup, and that of the next one
pub record Turns : Type 0 where
  pub here : Windowed
  pub next : Windowed

-- the same, from whether the odd window is the one of the fixup
abbrev pub turns : Bool → Windowed → Windowed → Turns
turns true even odd = record { here = odd; next = even }
turns false even odd = record { here = even; next = odd }
