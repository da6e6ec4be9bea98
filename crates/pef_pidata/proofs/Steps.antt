-- The rest of a pattern after an instruction.
use Rattle.std.proofs.Common.{◌≡◌, ℕ, zero, suc, ◌+◌, ◌-◌, ◌<◌, ◌≤◌, List, [], ◌∷◌, ◌++◌, Result, Ok, Err, length, take, drop, refl, sym, ap, ◌∙◌, inl, inr, arith, append_assoc}
use Rattle.std.proofs.lemmas.Bool.Decides.{eqb_tells}
use Rattle.std.proofs.lemmas.List.{length-append, length-take-le, length-drop}
use borrow.Rule.Slice.PartMut.{put_mid}
use Rattle.pef_words.specs.Refusals.{result_map}
use Rattle.pef_pidata.specs.declared.fault.PackFault.{PackFault}
use Rattle.pef_pidata.specs.declared.fault.PackFault.TheVariants.{TooShort}
use Rattle.pef_pidata.specs.Instructions.{next_instruction}
use Rattle.pef_pidata.specs.Pattern.{pattern, pattern_text, next_output}

-- the bytes written, and those that the rest of the packed bytes spells, are what all of them spell
pub record IsLeft (packed out rest : List ℕ) (at : ℕ) : Type 0 where
  pub most : ℕ
  pub bound : length rest ≤ most
  pub within : length rest ≤ length packed
  pub same : result_map (λ more. take at out ++ more) (pattern (length packed) most rest (length out - at)) ≡ pattern_text packed (length out)

map_same : {A F : Type 0} (r : Result A F) → result_map (λ x. x) r ≡ r
map_same (Ok x) = refl
map_same (Err fault) = refl

map_joined : {F : Type 0} (front piece : List ℕ) (r : Result (List ℕ) F) → result_map (λ more. (front ++ piece) ++ more) r ≡ result_map (λ more. front ++ more) (result_map (λ more. piece ++ more) r)
map_joined front piece (Ok more) = ap Ok (append_assoc front piece more)
map_joined front piece (Err fault) = refl

same_fault : {A F : Type 0} (f g : F) → (let R : Type 0 = Result A F in ◌≡◌ {A = R} (Err f) (Err g)) → f ≡ g
same_fault f g is = cc

pub left_begun : (packed out : List ℕ) → IsLeft packed out packed 0
unfolding pattern_text
left_begun packed out =
    let all : length out - 0 ≡ length out = omega arith in
    record { most = length packed; bound = omega arith; within = omega arith; same = rw all (map_same (pattern (length packed) (length packed) packed (length out))) }

-- an instruction's output goes before what the others spell
pub pattern_next : (len n : ℕ) (rest after piece : List ℕ) (room : ℕ) → 0 < room → next_output (len - length rest) room rest ≡ Ok (piece, after) → pattern len (suc n) rest room ≡ result_map (λ more. piece ++ more) (pattern len n after (room - length piece))
pattern_next len n rest after piece room some is =
    elim (eqb_tells room 0) [
      | inl none ↦ absurd (omega (arith, none.1))
      | inr other ↦ rw (other.0, is) refl
    ]

pub left_next : (packed out written rest after piece : List ℕ) (at len : ℕ) → IsLeft packed out rest at → at < length out → next_output (length packed - length rest) (length out - at) rest ≡ Ok (piece, after) → length after < length rest
    → length written ≡ length out → len ≡ length piece → take (at + len) written ≡ take at out ++ piece → IsLeft packed written after (at + len)
left_next packed out written rest after piece at len left under is shorter same_len len_is written_is = go left.most left.bound left.same
  where
    go : (n : ℕ) → length rest ≤ n → result_map (λ more. take at out ++ more) (pattern (length packed) n rest (length out - at)) ≡ pattern_text packed (length out) → IsLeft packed written after (at + len)
    go zero bound same = absurd (omega arith)
    go (suc n) bound same =
        let room : length written - (at + len) ≡ length out - at - length piece = omega arith in
        let next = pattern_next (length packed) n rest after piece (length out - at) (omega arith) is in
        record {
          most = n;
          bound = omega arith;
          within = omega (arith, left.within);
          same = rw (room, written_is, same_len) (map_joined (take at out) piece (pattern (length packed) n after (length out - at - length piece)) ∙ rw next at same);
        }

-- a refusal of the next instruction is that of all
pub pattern_refused : (len n : ℕ) (rest : List ℕ) (room : ℕ) (fault : PackFault) → 0 < room → length rest ≤ n → next_output (len - length rest) room rest ≡ Err fault → pattern len n rest room ≡ Err fault
unfolding next_output next_instruction
pattern_refused len zero [] room fault some bound is =
    elim (eqb_tells room 0) [
      | inl none ↦ absurd (omega (arith, none.1))
      | inr other ↦ (let same : TooShort (len - 0) ≡ fault = same_fault {A = List ℕ × List ℕ} (TooShort (len - 0)) fault is in rw (other.0, same) refl)
    ]
pattern_refused len zero (b ∷ rest) room fault some bound is = absurd (omega arith)
pattern_refused len (suc n) rest room fault some bound is =
    elim (eqb_tells room 0) [
      | inl none ↦ absurd (omega (arith, none.1))
      | inr other ↦ rw (other.0, is) refl
    ]

pub left_refused : (packed out rest : List ℕ) (at : ℕ) (fault : PackFault) → IsLeft packed out rest at → at < length out → next_output (length packed - length rest) (length out - at) rest ≡ Err fault → pattern_text packed (length out) ≡ Err fault
left_refused packed out rest at fault left under is =
    let refused = pattern_refused (length packed) left.most rest (length out - at) fault (omega arith) left.bound is in
    sym left.same ∙ rw refused refl

-- a part of a list has its length, and the list keeps its own when the part is written
pub part_len : (xs : List ℕ) (at k len : ℕ) → at + len ≤ length xs → k ≡ len → length (take k (drop at xs)) ≡ len
part_len xs at k len inside is =
    let within : k ≤ length (drop at xs) = omega (arith, length-drop at xs) in
    length-take-le k (drop at xs) within ∙ is

pub written_len : (xs piece : List ℕ) (at k len : ℕ) → at + len ≤ length xs → k ≡ len → length piece ≡ len → length (put_mid at k xs piece) ≡ length xs
written_len xs piece at k len inside is len_is =
    omega (arith, length-append (take at xs) (piece ++ drop k (drop at xs)), length-append piece (drop k (drop at xs)), length-take-le at xs (omega arith), length-drop k (drop at xs), length-drop at xs)
