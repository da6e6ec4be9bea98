-- A name ends at the first zero byte from its place on, which a mark of a later place can tell.
use Rattle.std.proofs.Common.{◌≡◌, ℕ, ◌+◌, ◌-◌, ◌*◌, ◌^◌, ◌<◌, ◌≤◌, ◌≢◌, inl, inr, List, [], None, Some, true, length, replicate, set, take, drop, refl, subst, sym, ◌∙◌, ap, eq-eqb, length-drop, length-take, arith}
use Rattle.std.specs.Prelude.{IfSome, Option, nat_le, slice_index}
use Rattle.std.proofs.lemmas.Bool.{eqb-true}
use Rattle.std.proofs.lemmas.Bool.Decides.{eqb_tells, leb_tells}
use Rattle.std.proofs.lemmas.List.{get_or-drop, get_or-replicate, get_or-set_other, get_or-set_same, get_or-take, length-replicate, length-set, nil_from_length}
use Rattle.std.specs.Option.{is_none}
use Rattle.memchr.specs.Find.{IsFirstByte, is_byte}
use Rattle.pef_words.specs.Bytes.{before_zero, name_at}
use Rattle.pef_words.proofs.Laws.Names.{before_zero-none, before_zero-some}
use Rattle.pef_loader.specs.Kept.Marks.{AreMarks, AreNonzero, FindsZero, IsFirstZero}
use Rattle.pef_loader.specs.Kept.Names.{NamesEndAt}

-- a byte of a part
pub in-part : (bytes : List ℕ) (from n k : ℕ) → k < n → slice_index (take n (drop from bytes)) k ≡ slice_index bytes (from + k)
in-part bytes from n k under = get_or-take n (drop from bytes) k 0 under ∙ get_or-drop from bytes k 0

-- a search in a part finds its first zero byte
pub zero-some : (bytes : List ℕ) (from to at : ℕ) → from ≤ to → to ≤ length bytes → IsFirstByte (is_byte 0) (take (to - from) (drop from bytes)) (Some at) → FindsZero bytes from to (Some (from + at))
zero-some bytes from to at low high found =
    let len = length-drop from bytes in
    let size = length-take (to - from) (drop from bytes) in
    let inside : at < length (take (to - from) (drop from bytes)) = found.0.high in
    let is : IsFirstZero bytes from (from + at) = record {
      ahead = omega arith;
      within = omega arith;
      zero = sym (in-part bytes from (to - from) at (omega arith)) ∙ eqb-true _ 0 found.1;
      before = λ k above under _ zero. (
          let e : from + (k - from) ≡ k = omega arith in
          let here = in-part bytes from (to - from) (k - from) (omega arith) ∙ ap (slice_index bytes) e ∙ zero in
          found.0.before (k - from) (omega arith) (omega arith) (eq-eqb _ 0 here));
    } in
    (is, omega arith)

-- or that it has none
pub zero-none : (bytes : List ℕ) (from to : ℕ) → from ≤ to → IsFirstByte (is_byte 0) (take (to - from) (drop from bytes)) None → FindsZero bytes from to None
zero-none bytes from to low found = λ k above under inside zero.
    let len = length-drop from bytes in
    let size = length-take (to - from) (drop from bytes) in
    let e : from + (k - from) ≡ k = omega arith in
    let here = in-part bytes from (to - from) (k - from) (omega arith) ∙ ap (slice_index bytes) e ∙ zero in
    found (k - from) (omega arith) (omega arith) (eq-eqb _ 0 here)

-- a name ends at the first zero byte
pub name-to : (bytes : List ℕ) (from end : ℕ) → IsFirstZero bytes from end → name_at bytes from ≡ Some (take (end - from) (drop from bytes))
unfolding name_at
name-to bytes from end is =
    let low = is.ahead in
    let high = is.within in
    let len = length-drop from bytes in
    let e : from + (end - from) ≡ end = omega arith in
    before_zero-some (drop from bytes) (end - from) (omega arith)
    (λ k under zero. is.before (from + k) (omega arith) (omega arith) (omega arith) (sym (get_or-drop from bytes k 0) ∙ zero))
    (get_or-drop from bytes (end - from) 0 ∙ ap (λ x. slice_index bytes x) e ∙ is.zero)

-- without a zero byte there is no name
pub no-name : (bytes : List ℕ) (from : ℕ) → AreNonzero bytes from (length bytes) → name_at bytes from ≡ None
unfolding name_at
no-name bytes from nowhere =
    let len = length-drop from bytes in
    before_zero-none (drop from bytes) (λ k under zero. nowhere (from + k) (omega arith) (omega arith) (omega arith) (sym (get_or-drop from bytes k 0) ∙ zero))

-- no name begins at the end of the bytes
pub ends-inside : (bytes : List ℕ) (end : ℕ) → NamesEndAt bytes end → end ≤ length bytes
unfolding name_at
ends-inside bytes end ended =
    let none : drop (length bytes) bytes ≡ [] = nil_from_length (drop (length bytes) bytes) (let len = length-drop (length bytes) bytes in omega arith) in
    let gone : is_none (before_zero (drop (length bytes) bytes)) ≡ true = rw none refl in
    let is : true ≡ nat_le end (length bytes) = sym gone ∙ ended (length bytes) in
    elim (leb_tells end (length bytes)) [
      | inl inside ↦ inside.1
      | inr outside ↦ absurd (cc (is, outside.0))
    ]

-- no place is marked
pub none-marked : (bytes : List ℕ) (step n : ℕ) → AreMarks bytes step (replicate n (2 ^ 32 - 1))
none-marked bytes step n k under known =
    let len = length-replicate n (2 ^ 32 - 1) in
    absurd (known (get_or-replicate n k (2 ^ 32 - 1) 0 (omega arith)))

-- a place is marked with the first zero byte from there on, or not
pub marks-set : (bytes : List ℕ) (step k mark : ℕ) (marks : List ℕ) (next : Option ℕ)
    → AreMarks bytes step marks → IfSome next (IsFirstZero bytes (k * step)) → (mark ≢ 2 ^ 32 - 1 → next ≡ Some mark) → k < length marks → AreMarks bytes step (set marks k mark)
marks-set bytes step k mark marks next were first known inside j under told = elim (eqb_tells j k) [
  | inr other ↦ (
      let is = get_or-set_other marks k j mark 0 other.1 in
      let len = length-set marks k mark in
      subst (IsFirstZero bytes (j * step)) (sym is) (were j (omega (arith, under, len)) (λ none. told (is ∙ none))))
  | inl same ↦ (
      let is : slice_index (set marks k mark) j ≡ mark = ap (slice_index (set marks k mark)) same.1 ∙ get_or-set_same marks k mark 0 inside in
      let here : IsFirstZero bytes (k * step) mark = subst (λ found. IfSome found (IsFirstZero bytes (k * step))) (known (λ none. told (is ∙ none))) first in
      subst (IsFirstZero bytes (j * step)) (sym is) (subst (λ n. IsFirstZero bytes (n * step) mark) (sym same.1) here))
]

-- there is one first zero byte
pub first-one : (bytes : List ℕ) (from a b : ℕ) → IsFirstZero bytes from a → IsFirstZero bytes from b → a ≡ b
first-one bytes from a b x y = elim (leb_tells a b) [
  | inl up ↦ elim (leb_tells b a) [
    | inl down ↦ omega (arith, up.1, down.1)
    | inr under ↦ absurd (y.before a x.ahead under.1 x.within x.zero)
  ]
  | inr under ↦ absurd (x.before b y.ahead under.1 y.within y.zero)
]

-- no byte of two parts is zero
pub nonzero-on : (bytes : List ℕ) (a b c : ℕ) → AreNonzero bytes a b → AreNonzero bytes b c → AreNonzero bytes a c
nonzero-on bytes a b c near far = λ k low high inside zero. elim (leb_tells b k) [
  | inl up ↦ far k up.1 high inside zero
  | inr under ↦ near k low under.1 inside zero
]

-- the mark of a place is the first zero byte from there on
pub marked-here : (bytes : List ℕ) (step k mark at : ℕ) (next : Option ℕ)
    → IfSome next (IsFirstZero bytes (k * step)) → (next ≡ None → AreNonzero bytes (k * step) (64 * step)) → IfSome next (λ at. at < 2 ^ 32 - 1 → mark ≡ at)
    → at < 64 * step → at < 2 ^ 32 - 1 → IsFirstZero bytes (k * step) at → mark ≡ at
marked-here bytes step k mark at None first gone kept below small is = absurd (gone refl at is.ahead below is.within is.zero)
marked-here bytes step k mark at (Some end) first gone kept below small is =
    let one : end ≡ at = first-one bytes (k * step) end at first is in
    kept (subst (λ n. n < 2 ^ 32 - 1) (sym one) small) ∙ one

-- all places are marked from one on whose mark is that of the first zero byte, if the later ones are
pub all-marked : (bytes : List ℕ) (step k mark : ℕ) (marks : List ℕ) (next : Option ℕ)
    → IfSome next (IsFirstZero bytes (k * step)) → (next ≡ None → AreNonzero bytes (k * step) (64 * step)) → IfSome next (λ at. at < 2 ^ 32 - 1 → mark ≡ at) → k < length marks
    → ((j at : ℕ) → k + 1 ≤ j → j < 64 → at < 64 * step → at < 2 ^ 32 - 1 → IsFirstZero bytes (j * step) at → slice_index marks j ≡ at)
    → (j at : ℕ) → k ≤ j → j < 64 → at < 64 * step → at < 2 ^ 32 - 1 → IsFirstZero bytes (j * step) at → slice_index (set marks k mark) j ≡ at
all-marked bytes step k mark marks next first gone kept inside later j at low high below small is = elim (eqb_tells j k) [
  | inr other ↦ get_or-set_other marks k j mark 0 other.1 ∙ later j at (omega (arith, low, other.1)) high below small is
  | inl same ↦ (
      let here : IsFirstZero bytes (k * step) at = subst (λ n. IsFirstZero bytes (n * step) at) same.1 is in
      let told : mark ≡ at = marked-here bytes step k mark at next first gone kept below small here in
      ap (slice_index (set marks k mark)) same.1 ∙ get_or-set_same marks k mark 0 inside ∙ told)
]
