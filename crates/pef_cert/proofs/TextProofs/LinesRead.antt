-- Lines that are read are those that are printed.
use Rattle.std.proofs.Common.{◌≡◌, ℕ, ◌+◌, List, ◌∷◌, ◌++◌, Option, Some, Result, Ok, Err, refl, ap, ◌∙◌}
use Rattle.std.specs.Option.{ok_or}
use Rattle.pef_lines.specs.Lines.{cut_at}
use Rattle.pef_lines.proofs.Laws.{cut_at-parts}
use Rattle.std.specs.Result.{result_unwrap_or}
use Rattle.pef_words.specs.Results.{◌>>=◌}
use Rattle.pef_cert.specs.Text.Grammar.{Left, line_read}
use Rattle.pef_cert.proofs.TextProofs.ReadLemmas.{said_first}

-- the result of two steps comes from the result of the first
pub step_ok : {A B P : Type 0} (step : Result A ℕ) (others : A → Result B ℕ) (y : B) → (step >>= others) ≡ Ok y → ((x : A) → step ≡ Ok x → others x ≡ Ok y → P) → P
step_ok (Ok x) others y is go = go x refl is
step_ok (Err line) others y is go = absurd (cc)

-- a line that is read is in front of the rest
pub line_read-ok : {A P : Type 0} (says : List ℕ → Option A) (old new : Left) (x : A) → line_read says old ≡ Ok (x, new) → ((line : List ℕ) → says line ≡ Some x → old.text ≡ line ++ 0x0A ∷ new.text → P) → P
unfolding line_read
line_read-ok {A = A} says old new x is go =
    step_ok (ok_or (cut_at 0x0A old.text) old.number) (λ cut. ok_or (says cut.0) old.number >>= λ y. Ok (y, record { number = old.number + 1; text = cut.1 })) (x, new) is
    (λ cut found rest. step_ok (ok_or (says cut.0) old.number) (λ y. Ok (y, record { number = old.number + 1; text = cut.1 })) (x, new) rest
    (λ y said made.
    let same : y ≡ x = ap (λ (r : Result (A × Left) ℕ). (result_unwrap_or r (x, new)).0) made in
    let left : cut.1 ≡ new.text = ap (λ (r : Result (A × Left) ℕ). (result_unwrap_or r (x, new)).1.text) made in
    go cut.0 (said_first (says cut.0) old.number y said ∙ ap Some same)
    (cut_at-parts 0x0A old.text cut.0 cut.1 (said_first (cut_at 0x0A old.text) old.number cut found) ∙ ap (λ (t : List ℕ). cut.0 ++ 0x0A ∷ t) left)))
