-- What holds if a step of the grammar isn't refused.
use Rattle.std.proofs.Common.{◌≡◌, Bool, true, false, cond, Option, None, Some, Result, Ok, Err, refl, ap, subst}
use Rattle.pef_words.specs.Refusals.{unless}
use Rattle.pef_words.specs.Results.{◌>>=◌}
use Rattle.std.specs.Result.{result_unwrap_or}
use Rattle.pef_script.specs.declared.text.fault.LineFault.{LineFault}

-- P holds for the result of a step
abbrev pub Leads : {A : Type 0} → (A → Type 0) → Result A LineFault → Type 0
Leads P (Ok x) = P x
Leads P (Err fault) = Unit {0}

pub leads_then : {A B : Type 0} (P : B → Type 0) (step : Result A LineFault) (others : A → Result B LineFault) → ((x : A) → step ≡ Ok x → Leads P (others x)) → Leads P (step >>= others)
leads_then P (Ok x) others holds = holds x refl
leads_then P (Err fault) others holds = tt

-- the same if the result of the first step is known
pub leads_on : {A B : Type 0} (Q : A → Type 0) (P : B → Type 0) (step : Result A LineFault) (others : A → Result B LineFault) → Leads Q step → ((x : A) → Q x → Leads P (others x)) → Leads P (step >>= others)
leads_on Q P (Ok x) others holds on = on x holds
leads_on Q P (Err fault) others holds on = tt

pub leads_unless : {A : Type 0} (P : A → Type 0) (refusal : Option LineFault) (otherwise : Result A LineFault) → (refusal ≡ None → Leads P otherwise) → Leads P (unless refusal otherwise)
leads_unless P None otherwise holds = holds refl
leads_unless P (Some fault) otherwise holds = tt

pub leads_if : {A : Type 0} (P : A → Type 0) (test : Bool) (then otherwise : Result A LineFault) → (test ≡ true → Leads P then) → (test ≡ false → Leads P otherwise) → Leads P (cond test then otherwise)
leads_if P true then otherwise met unmet = met refl
leads_if P false then otherwise met unmet = unmet refl

-- for a step with a result
pub led : {A : Type 0} (P : A → Type 0) (step : Result A LineFault) (x : A) → step ≡ Ok x → Leads P step → P x
led P (Ok y) x is holds = subst P (ap (λ r. result_unwrap_or r y) is) holds
led P (Err fault) x is holds = absurd (cc)
