-- A name that is cut is looked for in its first bytes alone.
use Rattle.std.proofs.Common.{◌≡◌, ℕ, zero, suc, ◌+◌, ◌-◌, ◌<◌, ◌≤◌, inl, inr, List, [], ◌∷◌, Option, None, Some, true, false, length, take, drop, min, refl, sym, ◌∙◌, ap, length-drop, arith}
use Rattle.std.specs.Option.{is_none, option_map}
use Rattle.std.proofs.lemmas.Option.{same_Some}
use Rattle.std.proofs.lemmas.Bool.Decides.{eqb_tells, leb_tells}
use Rattle.std.proofs.lemmas.Bool.{lt-leb}
use Rattle.std.proofs.lemmas.List.{nil_from_length, take-take, take_min}
use Rattle.pef_words.specs.Bytes.{before_zero, name_at, part_of}
use Rattle.pef_loader.specs.CutNames.{cut_name}
use Rattle.pef_loader.specs.Kept.Names.{NamesEndAt, front_name}

-- what a name with a byte before it is
some-cons : (b : ℕ) (o : Option (List ℕ)) (name : List ℕ) → option_map (λ n. b ∷ n) o ≡ Some name → (rest : List ℕ) × (o ≡ Some rest) × (name ≡ b ∷ rest)
some-cons b None name is = absurd (cc)
some-cons b (Some rest) name is = (rest, refl, sym (same_Some (b ∷ rest) name is))

-- what the first n bytes say of a name that begins with them
record Begins (bytes name : List ℕ) (n : ℕ) : Type 0 where
  long : n ≤ length name → before_zero (take n bytes) ≡ None
  same : n ≤ length name → take n bytes ≡ take n name
  short : length name < n → before_zero (take n bytes) ≡ Some name

begins : (bytes name : List ℕ) (n : ℕ) → before_zero bytes ≡ Some name → Begins bytes name n
begins [] name n is = absurd (cc)
begins (b ∷ bytes) name zero is = record { long = λ _. refl; same = λ _. refl; short = λ less. absurd (omega arith) }
begins (b ∷ bytes) name (suc n) is =
    elim (eqb_tells b 0) [
      | inl same ↦ (
          let empty : [] ≡ name = same_Some [] name (rw same.0 at is) in
          let none : length name ≡ 0 = sym (ap length empty) in
          record {
            long = λ fits. absurd (omega arith);
            same = λ fits. absurd (omega arith);
            short = λ less. rw same.0 (ap Some empty);
          })
      | inr other ↦ (
          let rest = some-cons b (before_zero bytes) name (rw other.0 at is) in
          let later = begins bytes rest.0 n rest.1 in
          let len : length name ≡ suc (length rest.0) = ap length rest.2 in
          record {
            long = λ fits. rw (other.0, later.long (omega arith)) refl;
            same = λ fits. rw rest.2 (ap (λ bytes. b ∷ bytes) (later.same (omega arith)));
            short = λ less. rw (other.0, later.short (omega arith)) (ap Some (sym rest.2));
          })
    ]

-- the first bytes of a name give the name as it is cut
front-cut : (bytes name : List ℕ) (most : ℕ) → before_zero bytes ≡ Some name → front_name most (take (suc most) bytes) ≡ cut_name most name
unfolding name_at cut_name
front-cut bytes name most is =
    let front = begins bytes name (suc most) is in
    elim (leb_tells (suc most) (length name)) [
      | inl long ↦ rw (long.0, front.long long.1) (
          ap (λ (cut : List ℕ). record { bytes = cut; whole = false })
          (take_min most (take (suc most) bytes) ∙ ap (take most) (front.same long.1) ∙ take-take most (suc most) name (omega arith)))
      | inr short ↦ rw (short.0, front.short short.1) refl
    ]

-- a name that is there, and one that isn't
is-some : (o : Option (List ℕ)) → is_none o ≡ false → (name : List ℕ) × (o ≡ Some name)
is-some None not = absurd (cc)
is-some (Some name) not = (name, refl)

missing : (most : ℕ) (o : Option (List ℕ)) → is_none o ≡ true → option_map (cut_name most) o ≡ None
missing most None is = refl
missing most (Some name) is = absurd (cc)

-- a name that begins before the last zero byte is there, and its first bytes give it
pub cut-there : (bytes : List ℕ) (from most end : ℕ) → NamesEndAt bytes end → from < end → option_map (cut_name most) (name_at bytes from) ≡ Some (front_name most (take (suc most) (drop from bytes)))
unfolding name_at
cut-there bytes from most end ended before =
    let there = is-some (name_at bytes from) (ended from ∙ lt-leb end from before) in
    rw there.1 (ap Some (sym (front-cut (drop from bytes) there.0 most there.1)))

-- no name begins past the end
pub cut-outside : (bytes : List ℕ) (from most : ℕ) → length bytes < from → option_map (cut_name most) (name_at bytes from) ≡ None
unfolding name_at
cut-outside bytes from most outside =
    let none : drop from bytes ≡ [] = nil_from_length (drop from bytes) (let len = length-drop from bytes in omega arith) in
    rw none refl

-- the part that is looked at has the first bytes of what is left
part-is : (bytes : List ℕ) (from most : ℕ) → take (min (length bytes - from) (most + 1)) (drop from bytes) ≡ take (suc most) (drop from bytes)
part-is bytes from most =
    let len = length-drop from bytes in
    let same : min (length bytes - from) (most + 1) ≡ min (suc most) (length (drop from bytes)) = omega arith in
    rw same (take_min (suc most) (drop from bytes))

-- a name that begins before the last zero byte is what that part gives
pub cut-part : (bytes front : List ℕ) (from most end : ℕ) → NamesEndAt bytes end → from < end
    → Some front ≡ part_of bytes from (min (length bytes - from) (most + 1)) → Some (front_name most front) ≡ option_map (cut_name most) (name_at bytes from)
unfolding part_of
cut-part bytes front from most end ended before part =
    let n = min (length bytes - from) (most + 1) in
    elim (leb_tells (from + n) (length bytes)) [
      | inl inside ↦ (
          let is : front ≡ take n (drop from bytes) = same_Some front (take n (drop from bytes)) (rw inside.0 at part) in
          rw is (ap (λ front. Some (front_name most front)) (part-is bytes from most) ∙ sym (cut-there bytes from most end ended before)))
      | inr outside ↦ (let none = rw outside.0 at part in absurd (cc none))
    ]

-- without it no name is there
pub cut-no-part : (bytes : List ℕ) (from most : ℕ) → None ≡ part_of bytes from (min (length bytes - from) (most + 1)) → option_map (cut_name most) (name_at bytes from) ≡ None
unfolding part_of
cut-no-part bytes from most part =
    let n = min (length bytes - from) (most + 1) in
    elim (leb_tells (from + n) (length bytes)) [
      | inl inside ↦ (let none = rw inside.0 at part in absurd (cc none))
      | inr outside ↦ cut-outside bytes from most (let p = outside.1 in omega arith)
    ]
