-- How reads add up.
use Rattle.std.proofs.Common.{ℕ, List, ◌++◌, Option, None, Some, sym, ap, subst, ◌∙◌, append_assoc}
use Rattle.pef_ports.specs.Ports.{Begins}

-- bytes that were read after others
pub Begins-then : (a b c : Option (List ℕ)) (x y : List ℕ) → Begins a b x → Begins b c y → Begins a c (x ++ y)
Begins-then None b c x y p q = tt
Begins-then (Some w) b c x y p q =
    let P : Option (List ℕ) → Type 0 = λ o. Begins o c y in
    let r : Begins (Some p.0) c y = subst P p.2 q in
    (r.0, p.1 ∙ ap (λ (z : List ℕ). x ++ z) r.1 ∙ sym (append_assoc x y r.0), r.2)
