-- The places where a container begins, one after another.
use Rattle.std.proofs.Common.{◌≡◌, ℕ, zero, suc, ◌+◌, ◌<◌, ◌≤◌, Bool, true, false, List, [], ◌∷◌, length, take, drop, slice_index, refl, arith}
use Rattle.std.specs.Prelude.{Option, None, Some, nat_le, cond}
use Rattle.std.proofs.Common.{eq-eqb}
use Rattle.memchr.specs.Find.{IsFirstByte, is_byte}
use Rattle.cfm_members.specs.Kept.Places.{SkipsTo}
use Rattle.std.specs.Str.{bytes_eq}
use Rattle.std.proofs.lemmas.Bool.{and_parts, false_from_ne_true}
use Rattle.std.proofs.lemmas.Slice.Eq.{bytes_eq-Decides}
use Rattle.cfm_members.specs.Search.{begins_container, containers_in, tags}

head-of : (b : ℕ) (bytes : List ℕ) → take 8 (b ∷ bytes) ≡ tags → b ≡ 0x4A
head-of b bytes same = cc

-- a container begins with the first byte of its tags
begins-head : (b : ℕ) (bytes : List ℕ) → begins_container (b ∷ bytes) ≡ true → b ≡ 0x4A
unfolding begins_container
begins-head b bytes begins =
    let parts = and_parts (nat_le 40 (length (b ∷ bytes))) (bytes_eq (take 8 (b ∷ bytes)) tags) begins in
    head-of b bytes ((bytes_eq-Decides (take 8 (b ∷ bytes)) tags).0 parts.1)

other-head : (b : ℕ) (bytes : List ℕ) → (b ≡ 0x4A → ⊥) → begins_container (b ∷ bytes) ≡ false
other-head b bytes other = false_from_ne_true (begins_container (b ∷ bytes)) (λ begins. other (begins-head b bytes begins))

-- without that byte there is no container
pub containers-none : (bytes : List ℕ) (offset : ℕ) → ((j : ℕ) → j < length bytes → slice_index bytes j ≡ 0x4A → ⊥) → containers_in bytes offset ≡ []
containers-none [] offset none = refl
containers-none (b ∷ bytes) offset none =
    let later = containers-none bytes (offset + 1) (λ j under is. none (suc j) (omega arith) is) in
    rw (other-head b bytes (none 0 (omega arith)), later) refl

-- there is none before the first such byte
pub containers-skip : (bytes : List ℕ) (k offset : ℕ) → k < length bytes → ((j : ℕ) → j < k → slice_index bytes j ≡ 0x4A → ⊥) → containers_in bytes offset ≡ containers_in (drop k bytes) (offset + k)
containers-skip [] k offset under none = absurd (omega arith)
containers-skip (b ∷ bytes) zero offset under none =
    let e : offset + 0 ≡ offset = omega arith in
    rw e refl
containers-skip (b ∷ bytes) (suc k) offset under none =
    let later = containers-skip bytes k (offset + 1) (omega arith) (λ j below is. none (suc j) (omega arith) is) in
    let e : offset + 1 + k ≡ offset + suc k = omega arith in
    rw (other-head b bytes (none 0 (omega arith)), later, e) refl

-- what a search for the byte finds
pub skips : (bytes : List ℕ) (r : Option ℕ) → IsFirstByte (is_byte 0x4A) bytes r → SkipsTo bytes r
skips bytes None nowhere = λ offset. containers-none bytes offset (λ j under is. nowhere j (omega arith) under (eq-eqb _ 0x4A is))
skips bytes (Some k) found = (
  found.0.high,
  λ offset. containers-skip bytes k offset found.0.high (λ j below is. found.0.before j (omega arith) below (eq-eqb _ 0x4A is)),
)

choice-few : (b : Bool) (offset : ℕ) (others : List ℕ) (n : ℕ) → length others ≤ n → length (cond b (offset ∷ others) others) ≤ suc n
choice-few true offset others n few = omega arith
choice-few false offset others n few = omega arith

-- no more places than bytes
pub places_few : (bytes : List ℕ) (offset : ℕ) → length (containers_in bytes offset) ≤ length bytes
places_few [] offset = omega arith
places_few (b ∷ bytes) offset = choice-few (begins_container (b ∷ bytes)) offset (containers_in bytes (offset + 1)) (length bytes) (places_few bytes (offset + 1))
