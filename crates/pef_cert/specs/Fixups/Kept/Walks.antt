-- The walk of a program along fixups: instruction by instruction, with the fixups that are left.
use Rattle.std.specs.Prelude.{if◌then◌else◌, List, [], ◌∷◌, Option, None, Some}
use Rattle.std.specs.Option.{option_map, option_and_then}
use Rattle.pef_reloc.specs.declared.fixup.Fixup.{Fixup}
use Rattle.pef_reloc.specs.declared.instr.Instr.{Instr}
use Rattle.pef_reloc.specs.Deliveries.{is_flat_instr}
use Rattle.pef_reloc.specs.Steps.{State, additions, next_state, start}
use Rattle.pef_cert.specs.declared.fixups.walk.Walk.{Walk}
use Rattle.pef_cert.specs.Fixups.Additions.{behind}

-- a state, and the fixups that are left to make from there
pub record Place : Type 0 where
  pub state : State
  pub left : List Fixup

abbrev pub state_of : Walk → State
state_of w = record { position = w.position; import_index = w.import_index; c = w.c; d = w.d }

abbrev pub place_of : Walk → Place
place_of w = record { state = state_of w; left = w.left.now }

-- the place after additions that the fixups begin with, at a state
abbrev pub placed : State → Option (List Fixup) → Option Place
placed s left = option_map (λ rest. record { state = s; left = rest }) left

-- the place after an instruction, if the fixups begin with its additions
abbrev pub stepped : Instr → Place → Option Place
stepped x p = placed (next_state x p.state) (behind (additions x p.state) p.left)

-- and if it fits and isn't a repeat
abbrev pub passed : Instr → Place → Option Place
passed x p = if is_flat_instr x then stepped x p else None

-- the place after a list of instructions
abbrev pub walked : List Instr → Place → Option Place
walked [] p = Some p
walked (x ∷ xs) p = option_and_then (walked xs) (passed x p)

abbrev pub start_place : List Fixup → Place
start_place fixups = record { state = start; left = fixups }
