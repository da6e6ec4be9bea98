-- The backward search finds the last dot, or none.
use Rattle.std.proofs.Common.{◌≡◌, ◌<◌, ◌∙◌, ℕ, Some, arith, eq-eqb, get_or, subst, sym, take}
use Rattle.std.proofs.lemmas.Bool.{eqb-true}
use Rattle.pef_gather.specs.Names.{before_dot}
use Rattle.pef_gather.proofs.NameLemmas.{last_dot, no_dot, stem-first, stem-front, stem-none}
use Rattle.pef_gather.proofs.names.stem.Goals as goal

pub returns-then-last-eq0 : goal.returns-then-last-eq0
returns-then-last-eq0 c =
    let found = c.in-Some.ensures in
    let name = c.args.name.now in
    let last = c.in-Some.last in
    let here : get_or name last 0 ≡ 46 = eqb-true _ 46 found.1 in
    let front = last_dot name last found.0.high here (λ k low high is. found.0.after k (omega (arith, low)) high (eq-eqb _ 46 is)) in
    let P : ℕ → Type 0 = λ (n : ℕ). before_dot name ≡ Some (take n name) in
    sym (stem-first name (subst P c.if-last-eq0.true front))

pub returns-else-last-eq0 : goal.returns-else-last-eq0
returns-else-last-eq0 c =
    let found = c.in-Some.ensures in
    let name = c.args.name.now in
    let last = c.in-Some.last in
    let here : get_or name last 0 ≡ 46 = eqb-true _ 46 found.1 in
    let front = last_dot name last found.0.high here (λ k low high is. found.0.after k (omega (arith, low)) high (eq-eqb _ 46 is)) in
    let some : 0 < last = omega arith in
    c.split_at.ensures.front ∙ sym (stem-front name last some found.0.high front)

pub returns-in-None : goal.returns-in-None
returns-in-None c =
    let name = c.args.name.now in
    sym (stem-none name (no_dot name (λ k under is. c.in-None.ensures k (omega arith) under (eq-eqb _ 46 is))))
