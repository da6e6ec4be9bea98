-- What packed bytes spell has the length that they are expanded to.
use Rattle.std.proofs.Common.{◌≡◌, ℕ, zero, suc, ◌-◌, ◌≤◌, Bool, true, false, cond, List, [], ◌++◌, Result, Ok, Err, length, take, drop, refl, ap, arith}
use Rattle.std.specs.Prelude.{◌==◌, nat_lt}
use Rattle.std.proofs.lemmas.Bool.{eqb-true, ltb-false}
use Rattle.std.proofs.lemmas.List.{length-append, length-take-le}
use Rattle.pef_words.specs.Refusals.{result_map}
use Rattle.pef_words.specs.Results.{◌>>=◌}
use Rattle.pef_pidata.specs.declared.fault.PackFault.{PackFault}
use Rattle.pef_pidata.specs.declared.fault.PackFault.TheVariants.{Truncated, TooLong, TooShort}
use Rattle.pef_pidata.specs.declared.instruction.Instruction.{Instruction}
use Rattle.pef_pidata.specs.Instructions.{Read, next_instruction}
use Rattle.pef_pidata.specs.Pattern.{copied_len, next_output, output, output_of, pattern, pattern_text, spelled_len}
use Rattle.pef_pidata.proofs.Verifying.{length-output}

abbrev spelled : Instruction → List ℕ → Read (List ℕ)
spelled i bytes = Ok (output i (take (copied_len i) bytes), drop (copied_len i) bytes)

abbrev front_of : Read (List ℕ) → List ℕ
front_of (Ok next) = next.0
front_of (Err fault) = []

-- the output of an instruction has room
fits-output : (at room : ℕ) (i : Instruction) (bytes out rest : List ℕ) → output_of at room (i, bytes) ≡ Ok (out, rest) → length out ≤ room
unfolding output_of
fits-output at room i bytes out rest is = by (nat_lt room (spelled_len i)) (nat_lt (length bytes) (copied_len i)) refl refl is
  where
    by : (long short : Bool) → nat_lt room (spelled_len i) ≡ long → nat_lt (length bytes) (copied_len i) ≡ short → cond long (Err (TooLong at)) (cond short (Err (Truncated at)) (spelled i bytes)) ≡ Ok (out, rest) → length out ≤ room
    by true short was were is = absurd (cc is)
    by false true was were is = absurd (cc is)
    by false false was were is =
        let same : output i (take (copied_len i) bytes) ≡ out = ap front_of is in
        let copied = length-take-le (copied_len i) bytes (ltb-false (length bytes) (copied_len i) were) in
        let long = length-output i (take (copied_len i) bytes) copied in
        let room-left = ltb-false room (spelled_len i) was in
        let len = ap length same in
        omega (arith, long, room-left, len)

fits-next : (at room : ℕ) (r : Read Instruction) (out rest : List ℕ) → (r >>= output_of at room) ≡ Ok (out, rest) → length out ≤ room
fits-next at room (Ok (i, bytes)) out rest is = fits-output at room i bytes out rest is
fits-next at room (Err fault) out rest is = absurd (cc is)

-- an image of no bytes
none-left : (room : ℕ) (image : List ℕ) (fault : PackFault) (b : Bool) → (room == 0) ≡ b → cond b (Ok []) (Err fault) ≡ Ok image → length image ≡ room
none-left room image fault true was is =
    let same : [] ≡ image = cc is in
    let len = ap length same in
    let none = eqb-true room 0 was in
    omega (arith, len, none)
none-left room image fault false was is = absurd (cc is)

-- the outputs after one
abbrev following : ℕ → ℕ → ℕ → List ℕ × List ℕ → Result (List ℕ) PackFault
following len n room next = result_map (λ more. next.0 ++ more) (pattern len n next.1 (room - length next.0))

pattern-len : (len n : ℕ) (packed : List ℕ) (room : ℕ) (image : List ℕ) → pattern len n packed room ≡ Ok image → length image ≡ room
unfolding next_output
pattern-len len zero packed room image is = none-left room image (TooShort (len - length packed)) (room == 0) refl is
pattern-len len (suc n) packed room image is = by (room == 0) refl is (λ packed room image. pattern-len len n packed room image)
  where
    joined : (out : List ℕ) (r : Result (List ℕ) PackFault) → length out ≤ room → result_map (λ more. out ++ more) r ≡ Ok image → ((more : List ℕ) → r ≡ Ok more → length more ≡ room - length out) → length image ≡ room
    joined out (Ok more) fits is later =
        let same : out ++ more ≡ image = cc is in
        let len = ap length same in
        let both = length-append out more in
        let rest = later more refl in
        omega (arith, fits, len, both, rest)
    joined out (Err fault) fits is later = absurd (cc is)

    step : (r : Read (List ℕ)) → next_output (len - length packed) room packed ≡ r → (r >>= following len n room) ≡ Ok image → ((packed : List ℕ) (room : ℕ) (image : List ℕ) → pattern len n packed room ≡ Ok image → length image ≡ room) → length image ≡ room
    step (Ok (out, rest)) read is later =
        joined out (pattern len n rest (room - length out)) (fits-next (len - length packed) room (next_instruction (len - length packed) packed) out rest read) is (λ more there. later rest (room - length out) more there)
    step (Err fault) read is later = absurd (cc is)

    by : (b : Bool) → (room == 0) ≡ b → cond b (Ok []) (next_output (len - length packed) room packed >>= following len n room) ≡ Ok image → ((packed : List ℕ) (room : ℕ) (image : List ℕ) → pattern len n packed room ≡ Ok image → length image ≡ room) → length image ≡ room
    by true was is later =
        let same : [] ≡ image = cc is in
        let len = ap length same in
        let none = eqb-true room 0 was in
        omega (arith, len, none)
    by false was is later = step (next_output (len - length packed) room packed) refl is later

pub pattern_text-length : (packed : List ℕ) (room : ℕ) (image : List ℕ) → pattern_text packed room ≡ Ok image → length image ≡ room
unfolding pattern_text
pattern_text-length packed room image is = pattern-len (length packed) (length packed) packed room image is
