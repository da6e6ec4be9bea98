-- Blocks, one after another.
use Rattle.std.proofs.Common.{◌≡◌, ℕ, zero, suc, ◌+◌, ◌-◌, ◌*◌, ◌<◌, ◌≤◌, List, [], ◌∷◌, ◌++◌, length, take, refl, sym, ap, ◌∙◌, arith, append_assoc, length-append, min, inl, inr}
use Rattle.std.proofs.Math.Seq.{take-append_seam, take-length}
use Rattle.std.proofs.lemmas.List.{nil_from_length}
use Rattle.std.proofs.Math.Nat.{mul-le-mul_left, le_of_mul-le-mul_left}
use Rattle.std.proofs.lemmas.Bool.{cases_lt}
use Rattle.pef_pidata.specs.Pattern.{repeated}

-- a prefix of some bytes is a block some times
pub record IsBegun (block bytes : List ℕ) (done : ℕ) : Type 0 where
  pub times : ℕ
  pub done_is : done ≡ length block * times
  pub written : take done bytes ≡ repeated times block

-- some bytes are whole blocks
pub record IsWhole (block : List ℕ) (len : ℕ) : Type 0 where
  pub times : ℕ
  pub len_is : len ≡ length block * times

-- how long a repeated block is
pub length-repeated : (n : ℕ) (block : List ℕ) → length (repeated n block) ≡ length block * n
length-repeated zero block = omega arith
length-repeated (suc n) block = omega (arith, length-append block (repeated n block), length-repeated n block)

-- a block some times, and some times more
pub repeated-add : (m n : ℕ) (block : List ℕ) → repeated (m + n) block ≡ repeated m block ++ repeated n block
repeated-add zero n block = (let e : 0 + n ≡ n = omega arith in rw e refl)
repeated-add (suc m) n block = (let e : suc m + n ≡ suc (m + n) = omega arith in rw (e, append_assoc) (ap (λ xs. block ++ xs) (repeated-add m n block)))

-- the front of a repeated block
pub take-repeated : (m n : ℕ) (block : List ℕ) → take (length block * m) (repeated (m + n) block) ≡ repeated m block
take-repeated m n block =
    rw (repeated-add m n block, ← length-repeated m block) (take-append_seam (repeated m block) (repeated n block))

-- lists without elements are equal
pub both_empty : (xs ys : List ℕ) → length xs ≡ 0 → length ys ≡ 0 → xs ≡ ys
both_empty xs ys a b = nil_from_length xs a ∙ sym (nil_from_length ys b)

-- a block repeated some times isn't empty, so the block isn't
pub some_block : (block : List ℕ) (n : ℕ) (m : ℕ) → m < length block * n → 0 < length block
some_block [] n m less = absurd (omega arith)
some_block (b ∷ block) n m less = omega arith

-- the next piece is all that is written, or the rest
pub next_whole : (block target : List ℕ) (done n more : ℕ) → IsBegun block target done → length target ≡ length block * n → done < length target → more ≡ min done (length target - done) → IsWhole block more
next_whole block target done n more begun len_is under is =
    let done_is = begun.done_is in
    elim (cases_lt done (length target - done)) as (λ _. IsWhole block more) [
      | inl less ↦ record { times = begun.times; len_is = omega arith }
      | inr le ↦
          (let enough : begun.times ≤ n = elim (cases_lt n begun.times) as (λ _. begun.times ≤ n) [
            | inl less ↦ (let up : n ≤ begun.times = omega arith in absurd (omega (arith, mul-le-mul_left (length block) up)))
            | inr le ↦ le
          ] in
          let apart : n ≡ begun.times + (n - begun.times) = omega arith in
          let parts : length block * n ≡ length block * (begun.times + (n - begun.times)) = ap (λ k. length block * k) apart in
          record { times = n - begun.times; len_is = omega arith })
    ]

-- a piece of the bytes written is copied after them
pub piece_written : (block target front copied rest : List ℕ) (done more n : ℕ) → IsBegun block target done → IsWhole block more → more ≤ done → done < length target → length target ≡ length block * n
    → front ≡ take done target → copied ≡ take more front → IsBegun block (front ++ (copied ++ rest)) (done + more)
piece_written block target front copied rest done more n begun whole most under len_is front_is copied_is =
    let some : 0 < length block = some_block block n done (rw len_is at under) in
    let done_is = begun.done_is in
    let more_is = whole.len_is in
    let fewer : whole.times ≤ begun.times = le_of_mul-le-mul_left {k = length block} (omega arith) some in
    let apart : begun.times ≡ whole.times + (begun.times - whole.times) = omega arith in
    let front_written : front ≡ repeated begun.times block = front_is ∙ begun.written in
    let copied_written : copied ≡ repeated whole.times block =
    copied_is ∙ rw (front_written, more_is, apart) (take-repeated whole.times (begun.times - whole.times) block) in
    let len : done + more ≡ length (repeated begun.times block ++ repeated whole.times block) =
    omega (arith, length-append (repeated begun.times block) (repeated whole.times block), length-repeated begun.times block, length-repeated whole.times block) in
    record {
      times = begun.times + whole.times;
      done_is = omega arith;
      written = rw (front_written, copied_written, len, ← append_assoc) (take-append_seam (repeated begun.times block ++ repeated whole.times block) rest ∙ sym (repeated-add begun.times whole.times block));
    }

-- at the end all is written
pub all_written : (block target : List ℕ) (done n : ℕ) → IsBegun block target done → length target ≡ length block * n → done ≡ length target → target ≡ repeated n block
all_written block target done n begun len_is end =
    let done_is = begun.done_is in
    let here : target ≡ repeated begun.times block = sym (rw end (take-length target)) ∙ begun.written in
    elim (cases_lt 0 (length block)) [
      | inl some ↦
          (let up : begun.times ≤ n = le_of_mul-le-mul_left {k = length block} (omega arith) some in
          let down : n ≤ begun.times = le_of_mul-le-mul_left {k = length block} (omega arith) some in
          let same : begun.times ≡ n = omega arith in
          here ∙ ap (λ k. repeated k block) same)
      | inr none ↦
          (let nothing : length block ≡ 0 = omega arith in
          let zero_len : length block * n ≡ 0 = rw nothing (omega arith) in
          both_empty target (repeated n block) (omega arith) (omega (arith, length-repeated n block)))
    ]
