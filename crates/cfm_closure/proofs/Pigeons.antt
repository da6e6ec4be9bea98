-- If there are more numbers than different ones, two are the same.
use Rattle.std.proofs.Common.{◌≡◌, ℕ, zero, suc, ◌+◌, ◌<◌, ◌≤◌, ◌⊎◌, Bool, true, false, not, [], length, refl, sym, ◌∙◌, inl, inr, true≢false, arith}
use Rattle.std.specs.Prelude.{replicate}
use Rattle.std.proofs.lemmas.Bool.Decides.{eqb_tells}
use Rattle.std.proofs.lemmas.List.{get_or-replicate, get_or-set_other, length-replicate}
use Rattle.std.proofs.lemmas.List.Sums.{count_by-le-length}
use Rattle.cfm_closure.specs.Walk.{Walked, is_marked, left, marking}
use Rattle.cfm_closure.proofs.WalkRules.{left-marking}

-- two places with the same number
pub record Twice (f : ℕ → ℕ) (from n : ℕ) : Type 0 where
  pub first : ℕ
  pub second : ℕ
  pub low : from ≤ first
  pub later : first < second
  pub high : second < from + n
  pub same : f first ≡ f second

-- a place whose number is marked
record Marked (f : ℕ → ℕ) (from n : ℕ) (s : Walked) : Type 0 where
  pub at : ℕ
  pub low : from ≤ at
  pub high : at < from + n
  pub is : is_marked s (f at) ≡ true

-- if there are more places than numbers left, one has a marked number, or two have the same
more_than_left : (f : ℕ → ℕ) (n from : ℕ) (s : Walked) → left s < n → Marked f from n s ⊎ Twice f from n
more_than_left f zero from s few = absurd (omega arith)
more_than_left f (suc n) from s few = by (is_marked s (f from)) refl (more_than_left f n (from + 1) (marking (f from) s))
  where
    by : (b : Bool) → is_marked s (f from) ≡ b → (left (marking (f from) s) < n → Marked f (from + 1) n (marking (f from) s) ⊎ Twice f (from + 1) n) → Marked f from (suc n) s ⊎ Twice f from (suc n)
    by true met deeper = inl (record { at = from; low = omega arith; high = omega arith; is = met })
    by false unmet deeper =
        let one = left-marking s (f from) unmet in
        elim (deeper (omega arith)) [
          | inl m ↦ (let low = m.low in let high = m.high in elim (eqb_tells (f m.at) (f from)) [
            | inl same ↦ inr (record { first = from; second = m.at; low = omega arith; later = omega arith; high = omega arith; same = sym same.1 })
            | inr other ↦ inl (record { at = m.at; low = omega arith; high = omega arith; is = sym (get_or-set_other s.marked (f from) (f m.at) true true other.1) ∙ m.is })
          ])
          | inr t ↦ (let low = t.low in let high = t.high in inr (record { first = t.first; second = t.second; low = omega arith; later = t.later; high = omega arith; same = t.same }))
        ]

-- more than n numbers below n
pub pigeons : (f : ℕ → ℕ) (n : ℕ) → ((i : ℕ) → i < n + 1 → f i < n) → Twice f 0 (n + 1)
pigeons f n below =
    let none : Walked = record { marked = replicate n false; order = [] } in
    let few : left none ≤ length none.marked = count_by-le-length not none.marked in
    let size : length none.marked ≡ n = length-replicate n false in
    elim (more_than_left f (n + 1) 0 none (omega arith)) [
      | inl m ↦ (let high = m.high in
          let under : f m.at < n = below m.at (omega arith) in
          absurd (true≢false (sym m.is ∙ get_or-replicate n (f m.at) false true under)))
      | inr t ↦ t
    ]
