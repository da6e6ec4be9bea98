-- One member after another.
use Rattle.std.proofs.Common.{◌≡◌, ℕ, zero, suc, ◌+◌, ◌-◌, ◌<◌, ◌≤◌, Bool, true, false, List, [], ◌∷◌, Option, None, Some, length, refl, arith}
use Rattle.std.specs.Prelude.{Result, Ok, Err, nat_le, take, drop, cond}
use Rattle.std.proofs.lemmas.Bool.{leb-true}
use Rattle.pef_words.specs.Bytes.{part_of}
use Rattle.pef_words.specs.Refusals.{◌>>=◌}
use Rattle.cfm_members.specs.declared.member.MemberHeader.{MemberHeader}
use Rattle.cfm_members.specs.Members.{MemberIs, TableIs, all_members, fields_of, header_at, member_at, member_then, members_from, next_place}
use Rattle.cfm_members.specs.declared.fault.MemberFault.{MemberFault}
use Rattle.cfm_members.specs.declared.fault.MemberFault.TheVariants.{MemberCut}

inside-tested : (b : Bool) (part : List ℕ) (h : MemberHeader) → (cond b (Some part) None >>= fields_of) ≡ Some h → b ≡ true
inside-tested true part h some = refl
inside-tested false part h some = absurd (cc)

-- fields that are read lie in the table
pub header_inside : (bytes : List ℕ) (at : ℕ) (h : MemberHeader) → header_at bytes at ≡ Some h → at + 42 ≤ length bytes
unfolding header_at part_of
header_inside bytes at h some =
    leb-true (at + 42) (length bytes) (inside-tested (nat_le (at + 42) (length bytes)) (take 42 (drop at bytes)) h some)

-- the next member, and those after it
pub members_from-next : (bytes : List ℕ) (i n at : ℕ) → i < n → members_from bytes i (n - i) at ≡ member_then bytes at i (members_from bytes (i + 1) (n - (i + 1))) (header_at bytes at)
unfolding members_from
members_from-next bytes i n at under =
    let e : n - i ≡ suc (n - (i + 1)) = omega arith in
    rw e refl

-- no member is left
pub members_from-end : (bytes : List ℕ) (i n at : ℕ) → n ≤ i → members_from bytes i (n - i) at ≡ []
unfolding members_from
members_from-end bytes i n at past =
    let e : n - i ≡ 0 = omega arith in
    rw e refl

-- a member and those after it
pub left-member : (bytes : List ℕ) (i n at : ℕ) (h : MemberHeader) → i < n → header_at bytes at ≡ Some h
    → members_from bytes i (n - i) at ≡ Ok (member_at bytes at i h) ∷ members_from bytes (i + 1) (n - (i + 1)) (next_place bytes at h)
left-member bytes i n at h under is = rw (members_from-next bytes i n at under, is) refl

-- a member that is cut is the last one
pub left-cut : (bytes : List ℕ) (i n at : ℕ) → i < n → header_at bytes at ≡ None
    → members_from bytes i (n - i) at ≡ Err (MemberCut i at) ∷ members_from bytes n (n - n) at
left-cut bytes i n at under is = rw (members_from-next bytes i n at under, is, members_from-end bytes n n at (omega arith)) refl

then-few : (bytes : List ℕ) (at i n : ℕ) (others : ℕ → List (Result MemberIs MemberFault)) (h : Option MemberHeader) → ((p : ℕ) → length (others p) ≤ n) → length (member_then bytes at i others h) ≤ suc n
then-few bytes at i n others None few = omega arith
then-few bytes at i n others (Some h) few = (let rest = few (next_place bytes at h) in omega (arith, rest))

members-few : (bytes : List ℕ) (i n at : ℕ) → length (members_from bytes i n at) ≤ n
unfolding members_from
members-few bytes i zero at = omega arith
members-few bytes i (suc n) at = then-few bytes at i n (members_from bytes (i + 1) n) (header_at bytes at) (λ p. members-few bytes (i + 1) n p)

-- no more rows than the table says that it has members
pub all_few : (t : TableIs) → length (all_members t) ≤ t.member_count
all_few t = (let few = members-few t.bytes 0 (t.member_count - 0) 32 in omega (arith, few))
