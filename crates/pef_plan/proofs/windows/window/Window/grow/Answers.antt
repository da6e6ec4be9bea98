use Rattle.std.proofs.Common.{Err, List, Ok, ap, arith, length, replicate, take, ℕ, ◌++◌, ◌-◌, ◌∙◌, ◌≡◌}
use Rattle.std.specs.Prelude.{OnOk, Result}
use Rattle.std.proofs.lemmas.List.{append-nil, take_all}
use Rattle.pef_plan.proofs.WindowsProofs.WindowLemmas.{some_numbers, window-same}
use Rattle.pef_plan.proofs.windows.window.Window.grow.Goals as goal

on_ok : {T E P : Type 0} (r : Result T E) → P → OnOk r P
on_ok (Ok x) p = p
on_ok (Err e) p = tt

-- numbers that have the length already
resized : (n len : ℕ) (xs : List ℕ) → length xs ≡ n → len ≡ length xs → take n xs ++ replicate (n - len) 0 ≡ xs
resized n len xs size is =
    let none : n - len ≡ 0 = omega (arith, size, is) in
    ap (λ k. take n xs ++ replicate k 0) none ∙ (append-nil (take n xs) ∙ take_all n xs (omega (arith, size)))

pub returns-clause-same : goal.returns-clause-same
returns-clause-same c =
    let s = c.self.inside in
    let i = c.self.invariant in
    let wide = rw (← c.self.view_is) at c.requires.some in
    let more = rw (← c.self.view_is) at c.requires.more in
    let len = s.values.ok.0 in
    on_ok c.resize-2.result
    (rw (← c.self.view_is)
    (λ width limit rows w.
    window-same width limit rows _ c.resize-2.new.self.items c.resize.new.self.items w i.newer_inside i.older_inside
    (λ p under. c.resize-2.ensures.by_index.0 p 0 (omega (arith, under, more)) (omega (arith, under, len)))
    (λ newer. c.in_ok-resize.ensures.items ∙ resized s.width s.low.len s.low.items (i.low_wide (some_numbers s.newer s.width (length s.values.items) newer wide i.newer_inside)) s.low.ok.0)))
