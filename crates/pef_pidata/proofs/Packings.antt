-- Packed bytes expand to their image.
use Rattle.std.proofs.Common.{◌≡◌, ℕ, zero, suc, ◌+◌, ◌-◌, ◌*◌, ◌/◌, ◌%◌, ◌^◌, ◌<◌, ◌≤◌, List, [], ◌∷◌, ◌++◌, Ok, length, replicate, refl, sym, ap, ◌∙◌, inl, inr, add-one, arith, append_assoc}
use Rattle.std.proofs.Math.Dec.{leb-suc-zero}
use Rattle.std.proofs.Math.Seq.{drop-append_seam, take-append_seam}
use Rattle.std.proofs.lemmas.Bool.Decides.{eqb_tells, leb_tells}
use Rattle.std.proofs.lemmas.List.{length-append, length-replicate}
use Rattle.pef_pidata.specs.declared.instruction.Instruction.TheVariants.{Block, Zeros}
use Rattle.pef_pidata.specs.Instructions.{argument, by_opcode, counted, next_instruction}
use Rattle.pef_pidata.specs.Kept.Runs.{part_len}
use Rattle.pef_pidata.specs.Packing.{PackedExpands, Part, argument_bytes, block, bytes_before, counted_bytes, leading_byte, packed_of, part_bytes, parts_of, runs, spelling, without_short, zero_before, zeros}
use Rattle.pef_pidata.specs.Pattern.{next_output, output_of, pattern, pattern_text}
use Rattle.pef_pidata.proofs.Arguments.{argument-read}
use Rattle.pef_pidata.proofs.Steps.{pattern_next}

-- the bytes of an image that are a part, and some parts
abbrev part_image : Part → List ℕ
part_image (zeros count) = replicate count 0
part_image (block bytes) = bytes

abbrev image_of : List Part → List ℕ
image_of [] = []
image_of (part ∷ parts) = part_image part ++ image_of parts

image-bytes_before : (xs : List ℕ) (parts : List Part) → image_of (bytes_before xs parts) ≡ xs ++ image_of parts
image-bytes_before xs [] = refl
image-bytes_before xs (zeros count ∷ parts) = refl
image-bytes_before xs (block more ∷ parts) = append_assoc xs more (image_of parts)

image-zero_before : (parts : List Part) → image_of (zero_before parts) ≡ 0 ∷ image_of parts
image-zero_before [] = refl
image-zero_before (zeros count ∷ parts) = rw (add-one count) refl
image-zero_before (block more ∷ parts) = refl

image-runs : (xs : List ℕ) → image_of (runs xs) ≡ xs
image-runs [] = refl
image-runs (b ∷ rest) = elim (eqb_tells b 0) [
  | inl is ↦ rw is.0 (image-zero_before (runs rest) ∙ ap (λ more. 0 ∷ more) (image-runs rest) ∙ ap (λ x. x ∷ rest) (sym is.1))
  | inr not ↦ rw not.0 (image-bytes_before (b ∷ []) (runs rest) ∙ ap (λ more. b ∷ more) (image-runs rest))
]

image-without_short : (parts : List Part) → image_of (without_short parts) ≡ image_of parts
image-without_short [] = refl
image-without_short (zeros count ∷ parts) = elim (leb_tells (suc count) 3) [
  | inl short ↦ rw short.0 (image-bytes_before (replicate count 0) (without_short parts) ∙ ap (λ more. replicate count 0 ++ more) (image-without_short parts))
  | inr long ↦ rw long.0 (ap (λ more. replicate count 0 ++ more) (image-without_short parts))
]
image-without_short (block bytes ∷ parts) = image-bytes_before bytes (without_short parts) ∙ ap (λ more. bytes ++ more) (image-without_short parts)

image-parts : (image : List ℕ) → image_of (parts_of image) ≡ image
unfolding parts_of
image-parts image = image-without_short (runs image) ∙ image-runs image

-- no part is empty
abbrev AreSome : List Part → Type 0
AreSome [] = Unit {0}
AreSome (part ∷ parts) = (0 < part_len part) × AreSome parts

some-bytes_before : (xs : List ℕ) (parts : List Part) → 0 < length xs → AreSome parts → AreSome (bytes_before xs parts)
some-bytes_before xs [] some all = (some, tt)
some-bytes_before xs (zeros count ∷ parts) some all = (some, all)
some-bytes_before xs (block more ∷ parts) some all = (omega (arith, some, length-append xs more), all.1)

some-zero_before : (parts : List Part) → AreSome parts → AreSome (zero_before parts)
some-zero_before [] all = (omega arith, tt)
some-zero_before (zeros count ∷ parts) all = (omega arith, all.1)
some-zero_before (block more ∷ parts) all = (omega arith, all)

some-runs : (xs : List ℕ) → AreSome (runs xs)
some-runs [] = tt
some-runs (b ∷ rest) = elim (eqb_tells b 0) [
  | inl is ↦ rw is.0 (some-zero_before (runs rest) (some-runs rest))
  | inr not ↦ rw not.0 (some-bytes_before (b ∷ []) (runs rest) (omega arith) (some-runs rest))
]

some-without_short : (parts : List Part) → AreSome parts → AreSome (without_short parts)
some-without_short [] all = tt
some-without_short (zeros count ∷ parts) all = elim (leb_tells (suc count) 3) [
  | inl short ↦ rw short.0 (some-bytes_before (replicate count 0) (without_short parts) (omega (arith, all.0, length-replicate {A = ℕ} count 0)) (some-without_short parts all.1))
  | inr long ↦ rw long.0 (all.0, some-without_short parts all.1)
]
some-without_short (block bytes ∷ parts) all = some-bytes_before bytes (without_short parts) all.0 (some-without_short parts all.1)

some-parts : (image : List ℕ) → AreSome (parts_of image)
unfolding parts_of
some-parts image = some-without_short (runs image) (some-runs image)

-- the first byte of an instruction with its count, and the bytes after them
record IsHead (at opcode count : ℕ) (rest all : List ℕ) : Type 0 where
  first : ℕ
  behind : List ℕ
  all_is : all ≡ first ∷ behind
  opcode_is : first / 32 ≡ opcode
  counted_is : counted at (first % 32) behind ≡ Ok (count, rest)

counted-low : (at count : ℕ) (rest : List ℕ) → 0 < count → counted at count rest ≡ Ok (count, rest)
unfolding counted
counted-low at count rest some = elim (eqb_tells count 0) [
  | inl none ↦ absurd (omega (arith, some, none.1))
  | inr other ↦ rw other.0 refl
]

counted-argument : (at : ℕ) (bytes : List ℕ) → counted at 0 bytes ≡ argument at bytes
unfolding counted
counted-argument at bytes = refl

head : (at opcode count : ℕ) (rest : List ℕ) → 0 < count → count < 2 ^ 32 → IsHead at opcode count rest (counted_bytes opcode count ++ rest)
unfolding counted_bytes
head at opcode count rest some fits = elim (leb_tells (suc count) 32) [
  | inl low ↦
      (let count_is : (opcode * 32 + count) % 32 ≡ count = omega (arith, low.1) in
      rw low.0 (record {
        first = opcode * 32 + count;
        behind = rest;
        all_is = refl;
        opcode_is = omega (arith, low.1);
        counted_is = rw count_is (counted-low at count rest some);
      }))
  | inr high ↦
      (let count_is : opcode * 32 % 32 ≡ 0 = omega arith in
      rw high.0 (record {
        first = opcode * 32;
        behind = argument_bytes count ++ rest;
        all_is = refl;
        opcode_is = omega arith;
        counted_is = rw count_is (counted-argument at (argument_bytes count ++ rest) ∙ argument-read at count rest fits);
      }))
]

next-zeros : (at count : ℕ) (rest all : List ℕ) → IsHead at 0 count rest all → next_instruction at all ≡ Ok (Zeros count, rest)
unfolding next_instruction by_opcode
next-zeros at count rest all h = rw (h.all_is, h.opcode_is, h.counted_is) refl

next-block : (at count : ℕ) (rest all : List ℕ) → IsHead at 1 count rest all → next_instruction at all ≡ Ok (Block count, rest)
unfolding next_instruction by_opcode
next-block at count rest all h = rw (h.all_is, h.opcode_is, h.counted_is) refl

output_of-zeros : (at room count : ℕ) (rest : List ℕ) → count ≤ room → output_of at room (Zeros count, rest) ≡ Ok (replicate count 0, rest)
unfolding output_of
output_of-zeros at room count rest within = elim (leb_tells (suc room) count) [
  | inl above ↦ absurd (omega (arith, within, above.1))
  | inr not ↦ rw (not.0, leb-suc-zero (length rest)) refl
]

output_of-block : (at room : ℕ) (bytes rest : List ℕ) → length bytes ≤ room → output_of at room (Block (length bytes), bytes ++ rest) ≡ Ok (bytes, rest)
unfolding output_of
output_of-block at room bytes rest within = elim (leb_tells (suc room) (length bytes)) [
  | inl above ↦ absurd (omega (arith, within, above.1))
  | inr not ↦ (elim (leb_tells (suc (length (bytes ++ rest))) (length bytes)) [
    | inl few ↦ absurd (omega (arith, few.1, length-append bytes rest))
    | inr enough ↦ rw (not.0, enough.0, take-append_seam bytes rest, drop-append_seam bytes rest) refl
  ])
]

-- an instruction spells its part
part-read : (at : ℕ) (part : Part) (room : ℕ) (rest : List ℕ) → 0 < part_len part → part_len part ≤ room → part_len part < 2 ^ 32 → next_output at room (part_bytes part ++ rest) ≡ Ok (part_image part, rest)
unfolding next_output part_bytes
part-read at (zeros count) room rest some within fits =
    let next = next-zeros at count rest (counted_bytes 0 count ++ rest) (head at 0 count rest some fits) in
    rw next (output_of-zeros at room count rest within)
part-read at (block bytes) room rest some within fits =
    let next = next-block at (length bytes) (bytes ++ rest) (counted_bytes 1 (length bytes) ++ (bytes ++ rest)) (head at 1 (length bytes) (bytes ++ rest) some fits) in
    rw (append_assoc (counted_bytes 1 (length bytes)) bytes rest, next) (output_of-block at room bytes rest within)

length-part_image : (part : Part) → length (part_image part) ≡ part_len part
length-part_image (zeros count) = length-replicate count 0
length-part_image (block bytes) = refl

parts-read : (len n : ℕ) (parts : List Part) → length parts ≤ n → AreSome parts → length (image_of parts) < 2 ^ 32 → pattern len n (spelling parts) (length (image_of parts)) ≡ Ok (image_of parts)
parts-read len zero [] enough all fits = refl
parts-read len (suc n) [] enough all fits = refl
parts-read len zero (part ∷ parts) enough all fits = absurd (omega arith)
parts-read len (suc n) (part ∷ parts) enough all fits =
    let both = length-append (part_image part) (image_of parts) in
    let part_is = length-part_image part in
    let room : ℕ = length (part_image part ++ image_of parts) in
    let left : room - length (part_image part) ≡ length (image_of parts) = omega (arith, both) in
    let next = part-read (len - length (part_bytes part ++ spelling parts)) part room (spelling parts) all.0 (omega (arith, both, part_is)) (omega (arith, both, part_is, fits)) in
    let others = parts-read len n parts (omega arith) all.1 (omega (arith, both, fits)) in
    pattern_next len n (part_bytes part ++ spelling parts) (spelling parts) (part_image part) room (omega (arith, both, part_is, all.0)) next ∙ rw (left, others) refl

-- an instruction has at least one byte
some_bytes : (opcode count : ℕ) → 0 < length (counted_bytes opcode count)
unfolding counted_bytes
some_bytes opcode count = elim (leb_tells (suc count) 32) [
  | inl low ↦ rw low.0 (omega arith)
  | inr high ↦ rw high.0 (omega arith)
]

some_part_bytes : (part : Part) → 0 < length (part_bytes part)
unfolding part_bytes
some_part_bytes (zeros count) = some_bytes 0 count
some_part_bytes (block bytes) = omega (arith, some_bytes 1 (length bytes), length-append (counted_bytes 1 (length bytes)) bytes)

length-spelling : (parts : List Part) → length parts ≤ length (spelling parts)
length-spelling [] = omega arith
length-spelling (part ∷ parts) = omega (arith, length-spelling parts, some_part_bytes part, length-append (part_bytes part) (spelling parts))

-- an instruction has no more bytes than its count says, apart from those that it copies
leading_most : (unit value : ℕ) → length (leading_byte unit value) ≤ 1
leading_most unit value = elim (leb_tells (suc value) unit) [
  | inl below ↦ rw below.0 (omega arith)
  | inr above ↦ rw above.0 (omega arith)
]

argument_most : (value : ℕ) → length (argument_bytes value) ≤ 5
unfolding argument_bytes
argument_most value =
    let first = leading_byte (2 ^ 28) value in
    let second = leading_byte (2 ^ 21) value in
    let third = leading_byte (2 ^ 14) value in
    let fourth = leading_byte (2 ^ 7) value in
    let last : List ℕ = (value % 128) ∷ [] in
    omega (arith, leading_most (2 ^ 28) value, leading_most (2 ^ 21) value, leading_most (2 ^ 14) value, leading_most (2 ^ 7) value, length-append first (second ++ (third ++ (fourth ++ last))), length-append second (third ++ (fourth ++ last)), length-append third (fourth ++ last), length-append fourth last)

counted_most : (opcode count : ℕ) → 0 < count → length (counted_bytes opcode count) ≤ count
unfolding counted_bytes
counted_most opcode count some = elim (leb_tells (suc count) 32) [
  | inl low ↦ rw low.0 (omega (arith, some))
  | inr high ↦ rw high.0 (omega (arith, high.1, argument_most count))
]

part_most : (part : Part) → 0 < part_len part → length (part_bytes part) ≤ 2 * length (part_image part)
unfolding part_bytes
part_most (zeros count) some = omega (arith, counted_most 0 count some, length-replicate {A = ℕ} count 0)
part_most (block bytes) some = omega (arith, counted_most 1 (length bytes) some, length-append (counted_bytes 1 (length bytes)) bytes)

spelling_most : (parts : List Part) → AreSome parts → length (spelling parts) ≤ 2 * length (image_of parts)
spelling_most [] all = omega arith
spelling_most (part ∷ parts) all = omega (arith, part_most part all.0, spelling_most parts all.1, length-append (part_bytes part) (spelling parts), length-append (part_image part) (image_of parts))

-- there are at most twice as many packed bytes as the image has
pub length-packed_of : (image : List ℕ) → length (packed_of image) ≤ 2 * length image
unfolding packed_of
length-packed_of image =
    let most = spelling_most (parts_of image) (some-parts image) in
    rw (image-parts image) at most

pub packed-expands : PackedExpands
unfolding pattern_text packed_of
packed-expands image fits =
    let same = image-parts image in
    let read = parts-read (length (spelling (parts_of image))) (length (spelling (parts_of image))) (parts_of image) (length-spelling (parts_of image)) (some-parts image) (rw same fits) in
    rw same at read
