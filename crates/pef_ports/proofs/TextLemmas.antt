-- How printed memory is put together.
use Rattle.std.proofs.Common.{◌≡◌, ℕ, zero, suc, ◌+◌, ◌-◌, ◌*◌, ◌/◌, ◌%◌, ◌<◌, ◌≤◌, ◌⊎◌, inl, inr, List, [], ◌∷◌, ◌++◌, length, get_or, take, drop, refl, sym, ap, subst, ◌∙◌, arith}
use Rattle.std.proofs.lemmas.List.{append_assoc, append-nil, drop-append-le, length-append, length-drop, length-take-le, take-append-drop, take-append-le, take_all, take_more, drop_all, drop_more}
use Rattle.pef_ports.specs.Text.{hex_digit, hex_text, word_text, groups, group_text, row_text, rows, dump_text}

-- bytes after bytes
pub hex_text-append : (xs ys : List ℕ) → hex_text (xs ++ ys) ≡ hex_text xs ++ hex_text ys
hex_text-append [] ys = refl
hex_text-append (x ∷ xs) ys = ap (λ (t : List ℕ). hex_digit (x / 16) ∷ hex_digit (x % 16) ∷ t) (hex_text-append xs ys)

-- one byte more
pub hex_text-more : (bytes : List ℕ) (i : ℕ) → i < length bytes → hex_text (take (i + 1) bytes) ≡ hex_text (take i bytes) ++ (hex_digit (get_or bytes i 0 / 16) ∷ hex_digit (get_or bytes i 0 % 16) ∷ [])
hex_text-more bytes i under = ap hex_text (take_more bytes i 0 under) ∙ hex_text-append (take i bytes) (get_or bytes i 0 ∷ [])

-- one group, and the others
pub group_text-more : (bytes : List ℕ) → 0 < length bytes → group_text bytes ≡ 32 ∷ hex_text (take 4 bytes) ++ group_text (drop 4 bytes)
unfolding groups
group_text-more bytes some =
    let left = length-drop 4 bytes in
    let count : (length bytes + 3) / 4 ≡ suc ((length (drop 4 bytes) + 3) / 4) = rw left (omega arith) in
    rw count refl

-- one line, and the others
pub dump_text-more : (address : ℕ) (bytes : List ℕ) → 0 < length bytes → dump_text address bytes ≡ row_text address (take 16 bytes) ++ dump_text (address + 16) (drop 16 bytes)
unfolding rows
dump_text-more address bytes some =
    let left = length-drop 16 bytes in
    let count : (length bytes + 15) / 16 ≡ suc ((length (drop 16 bytes) + 15) / 16) = rw left (omega arith) in
    rw count refl

-- no byte, no group
pub group_text-none : (bytes : List ℕ) → length bytes ≡ 0 → group_text bytes ≡ []
unfolding groups
group_text-none [] none = refl
group_text-none (b ∷ bytes) none = absurd (omega arith)

-- no byte, no line
pub dump_text-none : (address : ℕ) (bytes : List ℕ) → length bytes ≡ 0 → dump_text address bytes ≡ []
unfolding rows
dump_text-none address [] none = refl
dump_text-none address (b ∷ bytes) none = absurd (omega arith)

-- the last line
pub dump_text-last : (address : ℕ) (bytes : List ℕ) → 0 < length bytes → length bytes ≤ 16 → dump_text address bytes ≡ row_text address bytes
unfolding rows
dump_text-last address bytes some few =
    let count : (length bytes + 15) / 16 ≡ suc 0 = omega arith in
    rw (count, take_all 16 bytes few) (append-nil (row_text address bytes))

-- the address counts only if there are bytes
pub dump_text-at : (a b : ℕ) (bytes : List ℕ) → (0 < length bytes → a ≡ b) → dump_text a bytes ≡ dump_text b bytes
unfolding rows
dump_text-at a b [] same = refl
dump_text-at a b (x ∷ bytes) same = ap (λ (at : ℕ). dump_text at (x ∷ bytes)) (same (omega arith))

-- full lines, and the others
pub dump_text-append : (k a : ℕ) (front back : List ℕ) → length front ≡ 16 * k → dump_text a (front ++ back) ≡ dump_text a front ++ dump_text (a + length front) back
dump_text-append zero a [] back full = dump_text-at a (a + 0) back (λ more. omega arith) ∙ ap (λ t. t ++ dump_text (a + 0) back) (sym (dump_text-none a [] refl))
dump_text-append zero a (b ∷ front) back full = absurd (omega (arith, full))
dump_text-append (suc k) a front back full =
    let left = length-drop 16 front in
    let long = length-append front back in
    let one = row_text a (take 16 front) in
    let at : a + 16 + length (drop 16 front) ≡ a + length front = omega (arith, left, full) in
    dump_text-more a (front ++ back) (omega (arith, long, full))
    ∙ (ap (λ bytes. row_text a bytes ++ dump_text (a + 16) (drop 16 (front ++ back))) (take-append-le 16 front back (omega (arith, full)))
    ∙ (ap (λ bytes. one ++ dump_text (a + 16) bytes) (drop-append-le 16 front back (omega (arith, full)))
    ∙ (ap (λ t. one ++ t) (dump_text-append k (a + 16) (drop 16 front) back (omega (arith, left, full)) ∙ ap (λ n. dump_text (a + 16) (drop 16 front) ++ dump_text n back) at)
    ∙ (sym (append_assoc one (dump_text (a + 16) (drop 16 front)) (dump_text (a + length front) back))
    ∙ ap (λ t. t ++ dump_text (a + length front) back) (sym (dump_text-more a front (omega (arith, full))))))))

-- one line or four of what is left, and the others
pub dump_text-lines : (count a n : ℕ) (rest : List ℕ) → (count ≡ 16) ⊎ (count ≡ 64) → count ≤ length rest → length rest ≤ n
    → dump_text (a + (n - length rest)) rest ≡ dump_text (a + (n - length rest)) (take count rest) ++ dump_text (a + (n - length (drop count rest))) (drop count rest)
dump_text-lines count a n rest lines some inside = elim lines [ inl one ↦ taken 1 one | inr four ↦ taken 4 four ]
  where
    taken : (k : ℕ) → count ≡ 16 * k → dump_text (a + (n - length rest)) rest ≡ dump_text (a + (n - length rest)) (take count rest) ++ dump_text (a + (n - length (drop count rest))) (drop count rest)
    taken k is =
        let len = length-take-le count rest some in
        let left = length-drop count rest in
        let here = a + (n - length rest) in
        ap (λ bytes. dump_text here bytes) (sym (take-append-drop count rest))
        ∙ (dump_text-append k here (take count rest) (drop count rest) (len ∙ is)
        ∙ ap (λ t. dump_text here (take count rest) ++ t) (dump_text-at (here + length (take count rest)) (a + (n - length (drop count rest))) (drop count rest) (λ more. omega (arith, len, left, some, inside))))

-- four lines
pub dump_text-four : (a : ℕ) (bytes : List ℕ) → length bytes ≡ 64
    → dump_text a bytes ≡ (row_text a (take 16 bytes) ++ row_text (a + 16) (take 16 (drop 16 bytes))) ++ (row_text (a + 16 + 16) (take 16 (drop 16 (drop 16 bytes))) ++ row_text (a + 16 + 16 + 16) (drop 16 (drop 16 (drop 16 bytes))))
dump_text-four a bytes full =
    let one = length-drop 16 bytes in
    let two = length-drop 16 (drop 16 bytes) in
    let three = length-drop 16 (drop 16 (drop 16 bytes)) in
    let last = drop 16 (drop 16 (drop 16 bytes)) in
    dump_text-more a bytes (omega (arith, full))
    ∙ (ap (λ t. row_text a (take 16 bytes) ++ t)
    (dump_text-more (a + 16) (drop 16 bytes) (omega (arith, full, one))
    ∙ ap (λ t. row_text (a + 16) (take 16 (drop 16 bytes)) ++ t)
    (dump_text-more (a + 16 + 16) (drop 16 (drop 16 bytes)) (omega (arith, full, one, two))
    ∙ ap (λ t. row_text (a + 16 + 16) (take 16 (drop 16 (drop 16 bytes))) ++ t) (dump_text-last (a + 16 + 16 + 16) last (omega (arith, full, one, two, three)) (omega (arith, full, one, two, three)))))
    ∙ sym (append_assoc (row_text a (take 16 bytes)) (row_text (a + 16) (take 16 (drop 16 bytes))) (row_text (a + 16 + 16) (take 16 (drop 16 (drop 16 bytes))) ++ row_text (a + 16 + 16 + 16) last)))

-- n elements from the one at an index
abbrev gets : ℕ → ℕ → List ℕ → List ℕ
gets zero i xs = []
gets (suc n) i xs = get_or xs i 0 ∷ gets n (i + 1) xs

listed : (n i : ℕ) (xs : List ℕ) → i + n ≡ length xs → drop i xs ≡ gets n i xs
listed zero i xs all = drop_all i xs (omega arith)
listed (suc n) i xs all = drop_more xs i 0 (omega arith) ∙ ap (λ (t : List ℕ). get_or xs i 0 ∷ t) (listed n (i + 1) xs (omega arith))

-- the digits of an address and of four groups, and what stands between them
abbrev pub row_of : List ℕ → List ℕ → List ℕ → List ℕ → List ℕ → List ℕ
row_of at a b c d = gets 8 0 at ++ 32 ∷ gets 8 0 a ++ 32 ∷ gets 8 0 b ++ 32 ∷ gets 8 0 c ++ 32 ∷ gets 8 0 d ++ 10 ∷ []

-- the line of sixteen bytes
pub row_of-sixteen : (address : ℕ) (bytes : List ℕ) → length bytes ≡ 16 → row_of (word_text address) (hex_text (take 4 bytes)) (hex_text (take 4 (drop 4 bytes))) (hex_text (take 4 (drop 8 bytes))) (hex_text (drop 4 (drop 8 bytes))) ≡ row_text address bytes
unfolding groups
row_of-sixteen address bytes all =
    let P : List ℕ → Type 0 = λ (xs : List ℕ). row_of (word_text address) (hex_text (take 4 xs)) (hex_text (take 4 (drop 4 xs))) (hex_text (take 4 (drop 8 xs))) (hex_text (drop 4 (drop 8 xs))) ≡ row_text address xs in
    subst P (sym (listed 16 0 bytes (sym all))) refl
