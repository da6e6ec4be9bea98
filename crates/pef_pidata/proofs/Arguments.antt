-- How the bytes of an argument are read.
use Rattle.std.proofs.Common.{◌≡◌, ◌≢◌, ℕ, suc, ◌+◌, ◌*◌, ◌/◌, ◌%◌, ◌^◌, ◌<◌, ◌≤◌, List, [], ◌∷◌, ◌++◌, Ok, refl, sym, ap, ◌∙◌, inl, inr, arith, append_assoc}
use Rattle.std.proofs.lemmas.Bool.Decides.{eqb_tells, leb_tells}
use Rattle.pef_pidata.specs.Instructions.{argument, argument_from}
use Rattle.pef_pidata.specs.Packing.{argument_bytes, leading_byte}

-- a byte with its top bit set is passed over
pub passed : (at i value b : ℕ) (rest : List ℕ) → 128 ≤ b → i ≢ 4 → argument_from at i value (b ∷ rest) ≡ argument_from at (i + 1) (value * 128 + b % 128) rest
passed at i value b rest more few =
    elim (leb_tells (suc b) 128) [
      | inl below ↦ absurd (omega (arith, below.1))
      | inr above ↦ (elim (eqb_tells i 4) [
        | inl last ↦ absurd (few last.1)
        | inr other ↦ rw (above.0, other.0) refl
      ])
    ]

-- a byte that has seven bits of a number
next-leading : (at read n : ℕ) (bytes : List ℕ) → read < 4 → argument_from at read (n / 128) ((128 + n % 128) ∷ bytes) ≡ argument_from at (read + 1) n bytes
next-leading at read n bytes few =
    let whole : n / 128 * 128 + (128 + n % 128) % 128 ≡ n = omega arith in
    passed at read (n / 128) (128 + n % 128) bytes (omega arith) (λ four. absurd (omega (arith, four, few))) ∙ ap (λ value. argument_from at (read + 1) value bytes) whole

-- at most this many bytes of an argument of the instruction at a place were read, they have some value, and some bytes are left
abbrev IsReadTo : ℕ → ℕ → ℕ → List ℕ → List ℕ → Type 0
IsReadTo at most value bytes all = (read : ℕ) × (read ≤ most) × (argument at all ≡ argument_from at read value bytes)

next-unit : (at most unit value before : ℕ) (bytes all : List ℕ) → most < 4 → (value < unit → value / unit ≡ 0) → before ≡ value / unit / 128
    → IsReadTo at most before (leading_byte unit value ++ bytes) all → IsReadTo at (most + 1) (value / unit) bytes all
next-unit at most unit value before bytes all few small before_is (read, within, is) =
    elim (leb_tells (suc value) unit) [
      | inl below ↦
          (let none : value / unit ≡ 0 = small below.1 in
          let same : before ≡ value / unit = before_is ∙ ap (λ n. n / 128) none ∙ sym none in
          (read, omega arith, rw below.0 at is ∙ ap (λ n. argument_from at read n bytes) same))
      | inr above ↦
          (read + 1, omega arith, rw above.0 at is ∙ ap (λ n. argument_from at read n ((128 + value / unit % 128) ∷ bytes)) before_is ∙ next-leading at read (value / unit) bytes (omega arith))
    ]

last-read : (at read value : ℕ) (rest : List ℕ) → value < 2 ^ 32 → argument_from at read (value / 128) ((value % 128) ∷ rest) ≡ Ok (value, rest)
last-read at read value rest fits =
    let whole : value / 128 * 128 + value % 128 % 128 ≡ value = omega arith in
    elim (leb_tells (suc (value % 128)) 128) [
      | inl low ↦ (elim (leb_tells (suc value) (2 ^ 32)) [
        | inl below ↦ rw (low.0, whole, below.0) refl
        | inr above ↦ absurd (omega (arith, fits, above.1))
      ])
      | inr high ↦ absurd (omega (arith, high.1))
    ]

joined : (a b c d e rest : List ℕ) → (a ++ (b ++ (c ++ (d ++ e)))) ++ rest ≡ a ++ (b ++ (c ++ (d ++ (e ++ rest))))
joined a b c d e rest =
    append_assoc a (b ++ (c ++ (d ++ e))) rest
    ∙ ap (λ more. a ++ more) (append_assoc b (c ++ (d ++ e)) rest ∙ ap (λ more. b ++ more) (append_assoc c (d ++ e) rest ∙ ap (λ more. c ++ more) (append_assoc d e rest)))

-- the bytes written for an argument are read as it
pub argument-read : (at value : ℕ) (rest : List ℕ) → value < 2 ^ 32 → argument at (argument_bytes value ++ rest) ≡ Ok (value, rest)
unfolding argument argument_bytes
argument-read at value rest fits =
    let last : List ℕ = (value % 128) ∷ rest in
    let low : List ℕ = leading_byte (2 ^ 7) value ++ last in
    let middle : List ℕ = leading_byte (2 ^ 14) value ++ low in
    let high : List ℕ = leading_byte (2 ^ 21) value ++ middle in
    let all : List ℕ = leading_byte (2 ^ 28) value ++ high in
    let none : IsReadTo at 0 0 all all = (0, omega arith, refl) in
    let one : IsReadTo at 1 (value / 2 ^ 28) high all = next-unit at 0 (2 ^ 28) value 0 high all (omega arith) (λ below. omega (arith, below)) (omega (arith, fits)) none in
    let two : IsReadTo at 2 (value / 2 ^ 21) middle all = next-unit at 1 (2 ^ 21) value (value / 2 ^ 28) middle all (omega arith) (λ below. omega (arith, below)) (omega arith) one in
    let three : IsReadTo at 3 (value / 2 ^ 14) low all = next-unit at 2 (2 ^ 14) value (value / 2 ^ 21) low all (omega arith) (λ below. omega (arith, below)) (omega arith) two in
    let four : IsReadTo at 4 (value / 2 ^ 7) last all = next-unit at 3 (2 ^ 7) value (value / 2 ^ 14) last all (omega arith) (λ below. omega (arith, below)) (omega arith) three in
    rw (joined (leading_byte (2 ^ 28) value) (leading_byte (2 ^ 21) value) (leading_byte (2 ^ 14) value) (leading_byte (2 ^ 7) value) ((value % 128) ∷ []) rest) (four.2 ∙ last-read at four.0 value rest fits)
