-- What the rest of packed bytes is refused for, if none of their output is kept.
use Rattle.std.proofs.Common.{◌≡◌, ℕ, zero, suc, ◌+◌, ◌-◌, ◌*◌, ◌<◌, ◌≤◌, List, ◌++◌, None, Some, Result, Ok, Err, length, take, drop, replicate, refl, sym, ap, ◌∙◌, arith}
use Rattle.std.specs.Result.{result_err}
use Rattle.std.proofs.lemmas.List.{length-take-le, length-drop, length-replicate}
use Rattle.pef_words.specs.Refusals.{result_map}
use Rattle.pef_pidata.specs.declared.fault.PackFault.{PackFault}
use Rattle.pef_pidata.specs.declared.instruction.Instruction.{Instruction}
use Rattle.pef_pidata.specs.declared.instruction.Instruction.TheVariants.{Zeros, Block, Repeat, Weave, WeaveZeros}
use Rattle.pef_pidata.specs.Pattern.{copied_len, next_output, output, pattern, pattern_text, spelled_len}
use Rattle.pef_pidata.proofs.Repeats.{length-repeated}
use Rattle.pef_pidata.proofs.Steps.{pattern_next, pattern_refused}
use Rattle.pef_pidata.proofs.Weaves.{length-woven}

-- an instruction's output is as long as it says
pub length-output : (i : Instruction) (bytes : List ℕ) → length bytes ≡ copied_len i → length (output i bytes) ≡ spelled_len i
length-output (Zeros count) bytes len = length-replicate count 0
length-output (Block count) bytes len = len
length-output (Repeat count repeats) bytes len = length-repeated (repeats + 1) bytes ∙ ap (λ n. n * (repeats + 1)) len
length-output (Weave w) bytes len =
    let parts : length (drop w.common bytes) ≡ w.custom * w.parts = omega (arith, length-drop w.common bytes) in
    let common : length (take w.common bytes) ≡ w.common = length-take-le w.common bytes (omega arith) in
    length-woven w.parts w.custom (take w.common bytes) (drop w.common bytes) parts ∙ ap (λ n. n * (w.parts + 1) + w.custom * w.parts) common
length-output (WeaveZeros w) bytes len =
    length-woven w.parts w.custom (replicate w.common 0) bytes len ∙ ap (λ n. n * (w.parts + 1) + w.custom * w.parts) (length-replicate w.common 0)

-- the rest of the packed bytes is refused as all of them are
pub record IsRefusedAs (packed rest : List ℕ) (len at : ℕ) : Type 0 where
  pub most : ℕ
  pub bound : length rest ≤ most
  pub within : length rest ≤ length packed
  pub same : result_err (pattern (length packed) most rest (len - at)) ≡ result_err (pattern_text packed len)

err_mapped : {A B F : Type 0} (f : A → B) (r : Result A F) → result_err (result_map f r) ≡ result_err r
err_mapped f (Ok x) = refl
err_mapped f (Err fault) = refl

pub refused_begun : (packed : List ℕ) (len : ℕ) → IsRefusedAs packed packed len 0
unfolding pattern_text
refused_begun packed len =
    let all : len - 0 ≡ len = omega arith in
    record { most = length packed; bound = omega arith; within = omega arith; same = rw all refl }

pub refused_next : (packed rest after piece : List ℕ) (len at k : ℕ) → IsRefusedAs packed rest len at → at < len → next_output (length packed - length rest) (len - at) rest ≡ Ok (piece, after) → length after < length rest → length piece ≡ k → k ≤ len - at → IsRefusedAs packed after len (at + k)
refused_next packed rest after piece len at k left under is shorter piece_len room = go left.most left.bound left.same
  where
    go : (n : ℕ) → length rest ≤ n → result_err (pattern (length packed) n rest (len - at)) ≡ result_err (pattern_text packed len) → IsRefusedAs packed after len (at + k)
    go zero bound same = absurd (omega arith)
    go (suc n) bound same =
        let e : len - (at + k) ≡ len - at - length piece = omega arith in
        let next = pattern_next (length packed) n rest after piece (len - at) (omega arith) is in
        let dropped = err_mapped (λ more. piece ++ more) (pattern (length packed) n after (len - at - length piece)) in
        record {
          most = n;
          bound = omega arith;
          within = omega (arith, left.within);
          same = rw e (sym dropped ∙ sym (ap result_err next) ∙ same);
        }

pub refused_here : (packed rest : List ℕ) (len at : ℕ) (fault : PackFault) → IsRefusedAs packed rest len at → at < len → next_output (length packed - length rest) (len - at) rest ≡ Err fault → Some fault ≡ result_err (pattern_text packed len)
refused_here packed rest len at fault left under is =
    let refused = pattern_refused (length packed) left.most rest (len - at) fault (omega arith) left.bound is in
    sym (ap result_err refused) ∙ left.same

-- if there is no room left, nothing is refused
unrefused : (len n : ℕ) (rest : List ℕ) → result_err (pattern len n rest 0) ≡ None
unrefused len zero rest = refl
unrefused len (suc n) rest = refl

pub refused_nowhere : (packed rest : List ℕ) (len at : ℕ) → IsRefusedAs packed rest len at → len ≤ at → None ≡ result_err (pattern_text packed len)
refused_nowhere packed rest len at left past =
    let none : len - at ≡ 0 = omega arith in
    sym (unrefused (length packed) left.most rest) ∙ (rw none at left.same)
