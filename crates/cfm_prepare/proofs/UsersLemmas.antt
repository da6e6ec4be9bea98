-- The counts of the users of fragments.
use Rattle.std.proofs.Common.{◌≡◌, ◌≢◌, ℕ, zero, suc, ◌==◌, ◌+◌, ◌<◌, ◌≤◌, Bool, true, false, List, [], ◌∷◌, ◌++◌, Some, nat_lt, not, length, refl, sym, ap, ap₂, subst, ◌∙◌, inl, inr, cond, arith}
use Rattle.std.proofs.Math.ListN.{set}
use Rattle.std.proofs.lemmas.Bool.Decides.{eqb_tells, nat_tests}
use Rattle.std.proofs.lemmas.List.{get_or-set_other, get_or-set_same}
use Rattle.cfm_prepare.specs.Lists.{has}
use Rattle.cfm_prepare.specs.Readers.{needless_among}
use Rattle.pef_words.proofs.Laws.Tests.{cond-later}
use Rattle.cfm_prepare.specs.Fragments.{Present, is_present}
use Rattle.cfm_prepare.proofs.ListLemmas.{has-first}
use Rattle.cfm_prepare.proofs.SlotLemmas.{present-append}
use Rattle.std.proofs.lemmas.Option.{same_Some}
use Rattle.cfm_prepare.specs.Contexts.{Open, is_needed, needed_of, open_of, open_without, unneeded_of}
use Rattle.cfm_prepare.specs.Kept.Users.{AreUsedBut, CountsMore, CountUsers, count_at, counted, is_used, unshared_among, unused_of, used_of, users_of}

-- a fragment is needed if it has users
needed-one : (b c : Bool) (n : ℕ) → c ≡ nat_lt 0 n → cond b true c ≡ nat_lt 0 (cond b 1 0 + n)
needed-one true c n is = grind (arith, nat_tests)
needed-one false c n is = (let plus : n ≡ 0 + n = omega arith in is ∙ ap (nat_lt 0) plus)

pub needed-is : (os : List Open) (p : ℕ) → is_needed os p ≡ nat_lt 0 (users_of os p)
needed-is [] p = refl
needed-is (o ∷ os) p = needed-one (has o.closed.order p) (is_needed os p) (users_of os p) (needed-is os p)

used-is : (counts : List ℕ) (os : List Open) (f : Present) → CountUsers counts os → is_used counts f ≡ is_needed os f.position
used-is counts os f is = ap (nat_lt 0) (is f.position) ∙ sym (needed-is os f.position)

-- so the fragments with users are those that are needed
pub used-needed : (counts : List ℕ) (os : List Open) (fs : List Present) → CountUsers counts os → used_of counts fs ≡ needed_of os fs
used-needed counts os [] is = refl
used-needed counts os (f ∷ fs) is = ap₂ (λ b ys. cond b (f ∷ ys) ys) (used-is counts os f is) (used-needed counts os fs is)

other-way : (b : Bool) (xs ys : List Present) → cond (not b) xs ys ≡ cond b ys xs
other-way true xs ys = refl
other-way false xs ys = refl

pub unused-unneeded : (counts : List ℕ) (os : List Open) (fs : List Present) → CountUsers counts os → unused_of counts fs ≡ unneeded_of os fs
unused-unneeded counts os [] is = refl
unused-unneeded counts os (f ∷ fs) is =
    ap₂ (λ b ys. cond (not b) (f ∷ ys) ys) (used-is counts os f is) (unused-unneeded counts os fs is) ∙ other-way (is_needed os f.position) (f ∷ unneeded_of os fs) (unneeded_of os fs)

at-most-one : (b : Bool) → cond b 1 0 ≤ 1
at-most-one true = omega arith
at-most-one false = omega arith

-- each connection is counted once at most
pub users-few : (os : List Open) (p : ℕ) → users_of os p ≤ length os
users-few [] p = omega arith
users-few (o ∷ os) p = let one = at-most-one (has o.closed.order p) in let more = users-few os p in omega (arith, one, more)

-- with one more connection
pub users-push : (os : List Open) (o : Open) (p : ℕ) → users_of (os ++ o ∷ []) p ≡ users_of os p + counted o.closed.order p
users-push [] o p = omega arith
users-push (x ∷ os) o p = let more = users-push os o p in omega (arith, more)

-- without one of them
pub users-without : (os : List Open) (number : ℕ) (o : Open) (p : ℕ) → open_of os number ≡ Some o → users_of os p ≡ counted o.closed.order p + users_of (open_without os number) p
users-without [] number o p is = absurd (cc)
users-without (x ∷ os) number o p is = elim (eqb_tells x.number number) [
  | inl same ↦ (
      let found : Some x ≡ Some o = rw same.0 at is in
      let one : x ≡ o = same_Some x o found in
      rw (same.0, one) refl
      )
  | inr other ↦ (
      let found : open_of os number ≡ Some o = rw other.0 at is in
      let more = users-without os number o p found in
      rw other.0 (omega (arith, more))
      )
]

-- past the last count there is none
pub under-length : (counts : List ℕ) (p : ℕ) → 0 < count_at counts p → p < length counts
under-length [] p some = absurd (omega (arith, some))
under-length (c ∷ counts) zero some = omega arith
under-length (c ∷ counts) (suc p) some = let more = under-length counts p some in omega (arith, more)

-- one count that is changed
count-here : (counts : List ℕ) (q v : ℕ) → q < length counts → count_at (set counts q v) q ≡ v
count-here counts q v under = get_or-set_same counts q v 0 under

count-other : (counts : List ℕ) (q v p : ℕ) → p ≢ q → count_at (set counts q v) p ≡ count_at counts p
count-other counts q v p apart = get_or-set_other counts q p v 0 apart

one-first : (q : ℕ) (qs : List ℕ) → counted (q ∷ qs) q ≡ 1
one-first q qs = ap (λ b. cond b 1 0) (has-first q qs)

none-later : (q : ℕ) (qs : List ℕ) → has qs q ≡ false → counted qs q ≡ 0
none-later q qs once = ap (λ b. cond b 1 0) once

-- the first of an order is counted, then the others
pub more-first : (q : ℕ) (qs before after : List ℕ) (v : ℕ) → q < length before → v ≡ count_at before q + 1 → has qs q ≡ false → CountsMore qs (set before q v) after → CountsMore (q ∷ qs) before after
more-first q qs before after v under v_is once more = λ p.
    elim (eqb_tells q p) [
      | inl same ↦ subst (λ n. count_at after n ≡ count_at before n + counted (q ∷ qs) n) same.1 (omega (arith, more q, count-here before q v under, v_is, one-first q qs, none-later q qs once))
      | inr other ↦ (let there = count-other before q v p (λ e. other.1 (sym e)) in rw other.0 (more p ∙ ap (λ n. n + counted qs p) there))
    ]

-- the same, one user less
pub less-first : (q : ℕ) (qs before after : List ℕ) (v : ℕ) → q < length after → count_at after q ≡ v + 1 → has qs q ≡ false → CountsMore qs before (set after q v) → CountsMore (q ∷ qs) before after
less-first q qs before after v under v_is once more = λ p.
    elim (eqb_tells q p) [
      | inl same ↦ subst (λ n. count_at after n ≡ count_at before n + counted (q ∷ qs) n) same.1 (omega (arith, more q, count-here after q v under, v_is, one-first q qs, none-later q qs once))
      | inr other ↦ (let there = count-other after q v p (λ e. other.1 (sym e)) in rw other.0 (sym there ∙ more p))
    ]

-- an empty order counts nothing
pub none-more : (counts : List ℕ) → CountsMore [] counts counts
none-more counts = λ p. omega arith

-- the others of an order have unchanged counts
pub still-to-come : (q : ℕ) (qs counts : List ℕ) (v p : ℕ) → has qs q ≡ false → has qs p ≡ true → count_at (set counts q v) p ≡ count_at counts p
still-to-come q qs counts v p once there = count-other counts q v p (λ e. absurd (let wrong : has qs q ≡ true = rw e at there in cc))

-- the users after one connection less
pub left-count : (os : List Open) (number : ℕ) (o : Open) (before after : List ℕ) → open_of os number ≡ Some o → CountUsers before os → CountsMore o.closed.order after before → CountUsers after (open_without os number)
left-count os number o before after is counts more = λ p. (let a = counts p in let b = more p in let c = users-without os number o p is in omega (arith, a, b, c))

-- and after one more
pub entered-count : (os : List Open) (o : Open) (before after : List ℕ) → CountUsers before os → CountsMore o.closed.order before after → CountUsers after (os ++ o ∷ [])
entered-count os o before after counts more = λ p. more p ∙ ap (λ n. n + counted o.closed.order p) (counts p) ∙ sym (users-push os o p)

-- a connection uses each fragment of its closure
pub used-of : (os : List Open) (number : ℕ) (o : Open) (counts : List ℕ) (p : ℕ) → open_of os number ≡ Some o → CountUsers counts os → has o.closed.order p ≡ true → 0 < count_at counts p
used-of os number o counts p is users there =
    let a = users p in
    let c = users-without os number o p is in
    let one : counted o.closed.order p ≡ 1 = rw there refl in
    omega (arith, a, c, one)

-- unchanged counts are those of the same users
pub same_users : (before after : List ℕ) (os : List Open) → ((p : ℕ) → count_at after p ≡ count_at before p) → CountUsers before os → CountUsers after os
same_users before after os same counts = λ p. same p ∙ counts p

-- the fragments outside an order keep their users
pub used-but : (before after : List ℕ) (fs : List Present) (order : List ℕ) → CountsMore order after before → ((p : ℕ) → is_present fs p ≡ true → 0 < count_at before p) → AreUsedBut after fs order
used-but before after fs order more used = λ p out there. go (has order p) (count_at after p) (count_at before p) (more p) (used p there) out
  where
    go : (b : Bool) (a n : ℕ) → n ≡ a + cond b 1 0 → 0 < n → nat_lt 0 a ≡ false → b ≡ true
    go true a n is some out = refl
    go false a n is some out = absurd (let less : nat_lt 0 a ≡ true = grind (arith, nat_tests, is, some) in (let wrong : true ≡ false = sym less ∙ out in cc))

-- a fragment that stays has users
pub still-used : (counts : List ℕ) (fs : List Present) (p : ℕ) → is_present (used_of counts fs) p ≡ true → 0 < count_at counts p
still-used counts [] p there = absurd (cc)
still-used counts (f ∷ fs) p there = go (is_used counts f) refl there (λ here. still-used counts fs p here)
  where
    go : (b : Bool) → is_used counts f ≡ b → is_present (cond b (f ∷ used_of counts fs) (used_of counts fs)) p ≡ true → (is_present (used_of counts fs) p ≡ true → 0 < count_at counts p) → 0 < count_at counts p
    go false is there more = more there
    go true is there more = elim (eqb_tells f.position p) [
      | inl same ↦ subst (λ n. 0 < count_at counts n) same.1 (grind (arith, nat_tests, is))
      | inr other ↦ more (ap (λ b. cond b true (is_present (used_of counts fs) p)) (sym other.0) ∙ there)
    ]

-- new fragments of an order have users when it is counted
pub entered-used : (before after : List ℕ) (there now fresh : List Present) (order : List ℕ) → CountsMore order before after → ((p : ℕ) → is_present there p ≡ true → 0 < count_at before p)
    → now ≡ there ++ fresh → ((p : ℕ) → is_present fresh p ≡ true → has order p ≡ true) → (p : ℕ) → is_present now p ≡ true → 0 < count_at after p
entered-used before after there now fresh order more used behind inside p is =
    go (is_present there p) refl (sym (ap (λ fs. is_present fs p) behind ∙ present-append there fresh p) ∙ is)
  where
    go : (b : Bool) → is_present there p ≡ b → cond b true (is_present fresh p) ≡ true → 0 < count_at after p
    go true here some = (let a = more p in let u = used p here in omega (arith, a, u))
    go false none here = (let a = more p in let one : counted order p ≡ 1 = rw (inside p here) refl in omega (arith, a, one))

one-more : (a n u : ℕ) → a ≡ n → n ≡ 1 + u → nat_lt 1 a ≡ nat_lt 0 u
one-more a n u same more = grind (arith, nat_tests)

-- a fragment of a connection's closure has one user at most exactly if no other connection needs it
pub unshared-needless : (os : List Open) (number : ℕ) (o : Open) (counts ps : List ℕ) → open_of os number ≡ Some o → CountUsers counts os → ((p : ℕ) → has ps p ≡ true → has o.closed.order p ≡ true)
    → unshared_among counts ps ≡ needless_among (open_without os number) ps
unshared-needless os number o counts [] is users inside = refl
unshared-needless os number o counts (p ∷ ps) is users inside =
    let there : has o.closed.order p ≡ true = inside p (has-first p ps) in
    let one : counted o.closed.order p ≡ 1 = rw there refl in
    let split : users_of os p ≡ 1 + users_of (open_without os number) p = users-without os number o p is ∙ ap (λ n. n + users_of (open_without os number) p) one in
    let same : nat_lt 1 (count_at counts p) ≡ is_needed (open_without os number) p =
    one-more (count_at counts p) (users_of os p) (users_of (open_without os number) p) (users p) split ∙ sym (needed-is (open_without os number) p) in
    ap₂ (λ b (qs : List ℕ). cond b qs (p ∷ qs)) same (unshared-needless os number o counts ps is users (λ q here. inside q (cond-later (p == q) (has ps q) here)))
