-- Where packed bytes are refused: at the first instruction that can't be read, or whose output has no room.
use Rattle.std.specs.Prelude.{◌≡◌, ℕ, zero, suc, ◌-◌, List, length, Some, Ok, Err}
use Rattle.pef_pidata.specs.Faults.{fault_offset}
use Rattle.pef_pidata.specs.Pattern.{next_output, pattern_text}
use Rattle.pef_pidata.specs.declared.fault.PackFault.{PackFault}

-- the first n instructions of so many packed bytes, from some of these on, aren't refused: they leave these bytes and this room
abbrev pub Passes : ℕ → ℕ → List ℕ → ℕ → List ℕ → ℕ → Type 0
Passes len zero packed room rest left = (rest ≡ packed) × (left ≡ room)
Passes len (suc n) packed room rest left =
    (next : List ℕ × List ℕ) × (next_output (len - length packed) room packed ≡ Ok next) × Passes len n next.1 (room - length next.0) rest left

-- packed bytes are refused at an offset: the instruction there is, and those before it aren't
pub record IsRefusedAt (packed : List ℕ) (room : ℕ) (fault : PackFault) (at : ℕ) : Type 0 where
  pub count : ℕ
  pub rest : List ℕ
  pub left : ℕ
  pub passes : Passes (length packed) count packed room rest left
  pub here : at ≡ length packed - length rest
  pub refused : next_output at left rest ≡ Err fault

-- the place of each refusal is that of the instruction that is refused
abbrev pub RefusalsHavePlaces : Type 0
RefusalsHavePlaces = (packed : List ℕ) (room : ℕ) (fault : PackFault) → pattern_text packed room ≡ Err fault → (at : ℕ) × (fault_offset fault ≡ Some at) × IsRefusedAt packed room fault at
