-- The containers in some bytes, one after the other.
use Rattle.std.proofs.Common.{◌≡◌, ◌∙◌, ℕ, suc, ◌+◌, ◌<◌, Bool, true, false, List, [], ◌∷◌, length, drop, refl, sym, ap, subst, slice_get, arith}
use Rattle.std.specs.Prelude.{None, Some, cond, map}
use Rattle.std.proofs.lemmas.List.{drop-drop}
use Rattle.cfm_members.specs.Search.{begins_container, containers_in}
use Rattle.pef_c.specs.Reports.Found.{FoundFollow}

moved : (b : Bool) (k offset : ℕ) (others : List ℕ) → cond b ((k + offset) ∷ map (λ p. k + p) others) (map (λ p. k + p) others) ≡ map (λ p. k + p) (cond b (offset ∷ others) others)
moved true k offset others = refl
moved false k offset others = refl

-- if the first byte is at another offset, so are all places
places_moved : (bytes : List ℕ) (k offset : ℕ) → containers_in bytes (k + offset) ≡ map (λ p. k + p) (containers_in bytes offset)
places_moved [] k offset = refl
places_moved (b ∷ bytes) k offset =
    let e : k + offset + 1 ≡ k + (offset + 1) = omega arith in
    let later : containers_in bytes (k + offset + 1) ≡ map (λ p. k + p) (containers_in bytes (offset + 1)) = rw e (places_moved bytes k (offset + 1)) in
    rw later (moved (begins_container (b ∷ bytes)) k offset (containers_in bytes (offset + 1)))

from_zero : (bytes : List ℕ) (from : ℕ) → containers_in bytes from ≡ map (λ p. from + p) (containers_in bytes 0)
from_zero bytes from =
    let e : from + 0 ≡ from = omega arith in
    subst (λ n. containers_in bytes n ≡ map (λ p. from + p) (containers_in bytes 0)) e (places_moved bytes from 0)

-- the first place, and none
pub first_moved : (bytes : List ℕ) (from p : ℕ) (others : List ℕ) → containers_in bytes 0 ≡ p ∷ others → Some (from + p) ≡ slice_get (containers_in bytes from) 0
first_moved bytes from p others is = rw (from_zero bytes from, is) refl

pub none_moved : (bytes : List ℕ) (from : ℕ) → containers_in bytes 0 ≡ [] → None ≡ slice_get (containers_in bytes from) 0
none_moved bytes from none = rw (from_zero bytes from, none) refl

-- the first place is so many bytes after the first one, and the other places are those of the bytes after it
pub record Follows (bytes : List ℕ) (offset at : ℕ) (others : List ℕ) : Type 0 where
  pub k : ℕ
  pub at_is : at ≡ offset + k
  pub within : k < length bytes
  pub others_are : others ≡ containers_in (drop (suc k) bytes) (at + 1)

head_is : (x y : ℕ) (xs ys : List ℕ) → ◌≡◌ {A = List ℕ} (x ∷ xs) (y ∷ ys) → x ≡ y
head_is x y xs ys e = cc e

tail_is : (x y : ℕ) (xs ys : List ℕ) → ◌≡◌ {A = List ℕ} (x ∷ xs) (y ∷ ys) → xs ≡ ys
tail_is x y xs ys e = cc e

follows_if : (c : Bool) (b : ℕ) (bytes : List ℕ) (offset at : ℕ) (others : List ℕ) → (containers_in bytes (offset + 1) ≡ at ∷ others → Follows bytes (offset + 1) at others)
    → cond c (offset ∷ containers_in bytes (offset + 1)) (containers_in bytes (offset + 1)) ≡ at ∷ others → Follows (b ∷ bytes) offset at others
follows_if true b bytes offset at others later is =
    let here = head_is offset at _ others is in
    record {
      k = 0;
      at_is = omega (arith, here);
      within = omega arith;
      others_are = sym (tail_is offset at _ others is) ∙ ap (λ n. containers_in bytes (n + 1)) here;
    }
follows_if false b bytes offset at others later is =
    let next = later is in
    record { k = suc next.k; at_is = omega (arith, next.at_is); within = omega (arith, next.within); others_are = next.others_are }

pub follows : (bytes : List ℕ) (offset at : ℕ) (others : List ℕ) → containers_in bytes offset ≡ at ∷ others → Follows bytes offset at others
follows [] offset at others is = absurd (cc is)
follows (b ∷ bytes) offset at others is =
    follows_if (begins_container (b ∷ bytes)) b bytes offset at others (λ later. follows bytes (offset + 1) at others later) is

pub found_follow : FoundFollow
found_follow file from at others is =
    let f = follows (drop from file) from at others is in
    let e : from + suc f.k ≡ at + 1 = omega (arith, f.at_is) in
    f.others_are ∙ ap (λ (bytes : List ℕ). containers_in bytes (at + 1)) (drop-drop (suc f.k) from file ∙ ap (λ n. drop n file) e)
