-- Packed data are refused at the place of an instruction.
use Rattle.std.proofs.Common.{◌≡◌, ℕ, zero, suc, ◌+◌, ◌-◌, ◌<◌, ◌≤◌, ◌^◌, Bool, true, false, cond, List, [], ◌∷◌, ◌++◌, Some, Result, Ok, Err, length, take, drop, refl, ap, subst, arith}
use Rattle.std.specs.Prelude.{◌==◌, ◌/◌, ◌%◌, nat_lt}
use Rattle.std.proofs.lemmas.List.{length-drop}
use Rattle.pef_words.specs.Refusals.{result_map}
use Rattle.pef_words.specs.Results.{◌>>=◌}
use Rattle.pef_pidata.specs.Faults.{fault_offset}
use Rattle.pef_pidata.specs.declared.fault.PackFault.{PackFault}
use Rattle.pef_pidata.specs.declared.fault.PackFault.TheVariants.{Truncated, BadOpcode, CountTooLarge, TooLong, TooShort}
use Rattle.pef_pidata.specs.declared.instruction.Instruction.{Instruction}
use Rattle.pef_pidata.specs.declared.instruction.Instruction.TheVariants.{Zeros, Block, Repeat, Weave, WeaveZeros}
use Rattle.pef_pidata.specs.Instructions.{Read, argument, argument_from, by_opcode, counted, next_instruction, with_byte, woven_arguments}
use Rattle.pef_pidata.specs.Pattern.{copied_len, next_output, output, output_of, pattern, pattern_text, spelled_len}
use Rattle.pef_pidata.specs.Refused.{Passes, RefusalsHavePlaces}

-- what was read of some bytes leaves no more than these; what is refused is refused at the instruction
abbrev Reads : {A : Type 0} → ℕ → List ℕ → Read A → Type 0
Reads at bytes (Ok x) = length x.1 ≤ length bytes
Reads at bytes (Err fault) = fault_offset fault ≡ Some at

record IsRead {A : Type 0} (at : ℕ) (bytes : List ℕ) (r : Read A) : Type 0 where
  pub is : Reads at bytes r

read-if : {A : Type 0} {at : ℕ} {bytes : List ℕ} (b : Bool) {x y : Read A} → IsRead at bytes x → IsRead at bytes y → IsRead at bytes (cond b x y)
read-if true x y = x
read-if false x y = y

read-ok : {A : Type 0} (at : ℕ) (bytes : List ℕ) (x : A) (rest : List ℕ) → length rest ≤ length bytes → IsRead {A = A} at bytes (Ok (x, rest))
read-ok at bytes x rest low = record { is = low }

read-err : {A : Type 0} (at : ℕ) (bytes : List ℕ) (fault : PackFault) → fault_offset fault ≡ Some at → IsRead {A = A} at bytes (Err fault)
read-err at bytes fault is = record { is = is }

read-then : {A B : Type 0} {at : ℕ} {bytes : List ℕ} (r : Read A) (on : A × List ℕ → Read B) → IsRead at bytes r → ((x : A × List ℕ) → IsRead at x.1 (on x)) → IsRead at bytes (r >>= on)
read-then {A} {B} {at} {bytes} (Ok x) on first next = by (on x) (next x)
  where
    by : (s : Read B) → IsRead at x.1 s → IsRead at bytes s
    by (Ok y) read = record { is = (let low = first.is in let less = read.is in omega (arith, low, less)) }
    by (Err fault) read = record { is = read.is }
read-then (Err fault) on first next = record { is = first.is }

read-longer : {A : Type 0} (at : ℕ) (bytes : List ℕ) (b : ℕ) (r : Read A) → IsRead at bytes r → IsRead at (b ∷ bytes) r
read-longer at bytes b (Ok x) read = record { is = (let low = read.is in omega (arith, low)) }
read-longer at bytes b (Err fault) read = record { is = read.is }

from-read : (at read value : ℕ) (bytes : List ℕ) → IsRead at bytes (argument_from at read value bytes)
from-read at read value [] = read-err at [] (Truncated at) refl
from-read at read value (b ∷ rest) =
    read-if (nat_lt b 128)
    (read-if (nat_lt (with_byte value b) (2 ^ 32)) (read-ok at (b ∷ rest) (with_byte value b) rest (omega arith)) (read-err at (b ∷ rest) (CountTooLarge at) refl))
    (read-if (read == 4) (read-err at (b ∷ rest) (CountTooLarge at) refl) (read-longer at rest b (argument_from at (read + 1) (with_byte value b) rest) (from-read at (read + 1) (with_byte value b) rest)))

argument-read : (at : ℕ) (bytes : List ℕ) → IsRead at bytes (argument at bytes)
unfolding argument
argument-read at bytes = from-read at 0 0 bytes

counted-read : (at low : ℕ) (bytes : List ℕ) → IsRead at bytes (counted at low bytes)
unfolding counted
counted-read at low bytes = read-if (low == 0) (argument-read at bytes) (read-ok at bytes low bytes (omega arith))

woven-read : (at low : ℕ) (bytes : List ℕ) → IsRead at bytes (woven_arguments at low bytes)
unfolding woven_arguments
woven-read at low bytes =
    read-then (counted at low bytes) _ (counted-read at low bytes) (λ common.
    read-then (argument at common.1) _ (argument-read at common.1) (λ custom.
    read-then (argument at custom.1) _ (argument-read at custom.1) (λ parts.
    read-ok at parts.1 (record { common = common.0; custom = custom.0; parts = parts.0 }) parts.1 (omega arith))))

opcode-read : (at opcode low : ℕ) (bytes : List ℕ) → IsRead at bytes (by_opcode at opcode low bytes)
unfolding by_opcode
opcode-read at opcode low bytes =
    read-if (opcode == 0) (read-then (counted at low bytes) _ (counted-read at low bytes) (λ count. read-ok at count.1 (Zeros count.0) count.1 (omega arith)))
    (read-if (opcode == 1) (read-then (counted at low bytes) _ (counted-read at low bytes) (λ count. read-ok at count.1 (Block count.0) count.1 (omega arith)))
    (read-if (opcode == 2)
    (read-then (counted at low bytes) _ (counted-read at low bytes) (λ count.
    read-then (argument at count.1) _ (argument-read at count.1) (λ repeats. read-ok at repeats.1 (Repeat count.0 repeats.0) repeats.1 (omega arith))))
    (read-if (opcode == 3) (read-then (woven_arguments at low bytes) _ (woven-read at low bytes) (λ w. read-ok at w.1 (Weave w.0) w.1 (omega arith)))
    (read-if (opcode == 4) (read-then (woven_arguments at low bytes) _ (woven-read at low bytes) (λ w. read-ok at w.1 (WeaveZeros w.0) w.1 (omega arith)))
    (read-err at bytes (BadOpcode at) refl)))))

output-read : (at room : ℕ) (x : Instruction × List ℕ) → IsRead at x.1 (output_of at room x)
unfolding output_of
output-read at room x =
    read-if (nat_lt room (spelled_len x.0)) (read-err at x.1 (TooLong at) refl)
    (read-if (nat_lt (length x.1) (copied_len x.0)) (read-err at x.1 (Truncated at) refl)
    (read-ok at x.1 (output x.0 (take (copied_len x.0) x.1)) (drop (copied_len x.0) x.1) (omega (arith, length-drop (copied_len x.0) x.1))))

-- an instruction takes a byte at least, and is refused at its own place
abbrev Takes : ℕ → List ℕ → Read (List ℕ) → Type 0
Takes at packed (Ok next) = length next.1 < length packed
Takes at packed (Err fault) = fault_offset fault ≡ Some at

next-takes : (at room : ℕ) (packed : List ℕ) → Takes at packed (next_output at room packed)
unfolding next_output next_instruction
next-takes at room [] = refl
next-takes at room (b ∷ rest) = by (by_opcode at (b / 32) (b % 32) rest >>= output_of at room) (read-then (by_opcode at (b / 32) (b % 32) rest) (output_of at room) (opcode-read at (b / 32) (b % 32) rest) (output-read at room))
  where
    by : (r : Read (List ℕ)) → IsRead at rest r → Takes at (b ∷ rest) r
    by (Ok next) read = (let low = read.is in omega (arith, low))
    by (Err fault) read = read.is

-- some instructions pass, and the next one is refused
record Stops (len : ℕ) (packed : List ℕ) (room : ℕ) (fault : PackFault) : Type 0 where
  pub count : ℕ
  pub rest : List ℕ
  pub left : ℕ
  pub passes : Passes len count packed room rest left
  pub refused : next_output (len - length rest) left rest ≡ Err fault

stops : (len n : ℕ) (packed : List ℕ) (room : ℕ) (fault : PackFault) → length packed ≤ n → pattern len n packed room ≡ Err fault → Stops len packed room fault
unfolding next_output next_instruction
stops len zero (b ∷ packed) room fault few is = absurd (omega (arith, few))
stops len zero [] room fault few is = by (room == 0) is
  where
    by : (b : Bool) → (let R : Type 0 = Result (List ℕ) PackFault in ◌≡◌ {A = R} (cond b (Ok []) (Err (TooShort (len - 0)))) (Err fault)) → Stops len [] room fault
    by true is = absurd (cc)
    by false is = record { count = 0; rest = []; left = room; passes = (refl, refl); refused = is' }
      where
        same : TooShort (len - 0) ≡ fault
        same = cc

        is' : next_output (len - 0) room [] ≡ Err fault
        is' = ap (λ f. Err f) same
stops len (suc n) packed room fault few is = by (room == 0) is (λ packed room fault. stops len n packed room fault)
  where
    after : (next : List ℕ × List ℕ) → next_output (len - length packed) room packed ≡ Ok next → length next.1 < length packed → (r : Result (List ℕ) PackFault) → pattern len n next.1 (room - length next.0) ≡ r → result_map (λ more. next.0 ++ more) r ≡ Err fault
        → ((packed : List ℕ) (room : ℕ) (fault : PackFault) → length packed ≤ n → pattern len n packed room ≡ Err fault → Stops len packed room fault) → Stops len packed room fault
    after next read takes (Ok more) was is deeper = absurd (cc)
    after next read takes (Err f) was is deeper =
        let same : f ≡ fault = cc in
        let later = deeper next.1 (room - length next.0) f (omega (arith, takes, few)) was in
        let other : next_output (len - length later.rest) later.left later.rest ≡ Err fault = subst (λ f. next_output (len - length later.rest) later.left later.rest ≡ Err f) same later.refused in
        record { count = suc later.count; rest = later.rest; left = later.left; passes = (next, read, later.passes); refused = other }

    step : (r : Read (List ℕ)) → next_output (len - length packed) room packed ≡ r → Takes (len - length packed) packed r → (r >>= (λ next. result_map (λ more. next.0 ++ more) (pattern len n next.1 (room - length next.0)))) ≡ Err fault
        → ((packed : List ℕ) (room : ℕ) (fault : PackFault) → length packed ≤ n → pattern len n packed room ≡ Err fault → Stops len packed room fault) → Stops len packed room fault
    step (Err f) read takes is deeper = (let same : f ≡ fault = cc in record { count = 0; rest = packed; left = room; passes = (refl, refl); refused = subst (λ f. next_output (len - length packed) room packed ≡ Err f) same read })
    step (Ok next) read takes is deeper = after next read takes (pattern len n next.1 (room - length next.0)) refl is deeper

    by : (b : Bool) → cond b (Ok []) (next_output (len - length packed) room packed >>= (λ next. result_map (λ more. next.0 ++ more) (pattern len n next.1 (room - length next.0)))) ≡ Err fault
        → ((packed : List ℕ) (room : ℕ) (fault : PackFault) → length packed ≤ n → pattern len n packed room ≡ Err fault → Stops len packed room fault) → Stops len packed room fault
    by true is deeper = absurd (cc)
    by false is deeper = step (next_output (len - length packed) room packed) refl (next-takes (len - length packed) room packed) is deeper

pub refusals_have_places : RefusalsHavePlaces
unfolding pattern_text
refusals_have_places packed room fault is =
    let s = stops (length packed) (length packed) packed room fault (omega arith) is in
    let at = length packed - length s.rest in
    let own = subst (Takes at s.rest) s.refused (next-takes at s.left s.rest) in
    (at, own, record { count = s.count; rest = s.rest; left = s.left; passes = s.passes; here = refl; refused = s.refused })
