-- The last name ends at the last zero byte.
use Rattle.std.proofs.Common.{◌≡◌, ◌≢◌, ℕ, zero, suc, ◌+◌, ◌-◌, ◌<◌, ◌≤◌, inl, inr, List, [], ◌∷◌, Option, None, Some, false, length, get_or, drop, refl, sym, ◌∙◌, ap, length-drop, arith}
use Rattle.std.specs.Option.{is_none, option_map}
use Rattle.std.proofs.Common.{eq-eqb}
use Rattle.std.proofs.lemmas.Bool.{le-leb}
use Rattle.std.proofs.lemmas.Bool.Decides.{eqb_tells, leb_tells}
use Rattle.std.proofs.lemmas.List.{get_or-drop}
use Rattle.pef_words.specs.Bytes.{before_zero, name_at}
use Rattle.pef_words.proofs.Laws.Names.{before_zero-none}
use Rattle.pef_loader.specs.Kept.Names.{NamesEndAt}

-- a name is there, whatever comes before it
is_none-cons : (b : ℕ) (o : Option (List ℕ)) → is_none (option_map (λ name. b ∷ name) o) ≡ is_none o
is_none-cons b None = refl
is_none-cons b (Some name) = refl

-- if there is a zero byte, there is a name before it
before_zero-there : (bytes : List ℕ) (k : ℕ) → k < length bytes → get_or bytes k 0 ≡ 0 → is_none (before_zero bytes) ≡ false
before_zero-there [] k under here = absurd (omega arith)
before_zero-there (b ∷ bytes) zero under here = rw (eq-eqb b 0 here) refl
before_zero-there (b ∷ bytes) (suc k) under here =
    let later = before_zero-there bytes k (omega arith) here in
    elim (eqb_tells b 0) [
      | inl same ↦ rw same.0 refl
      | inr other ↦ rw other.0 (is_none-cons b (before_zero bytes) ∙ later)
    ]

-- without a zero byte there is no name
pub no_names : (bytes : List ℕ) → ((k : ℕ) → k < length bytes → get_or bytes k 0 ≢ 0) → NamesEndAt bytes 0
unfolding name_at
no_names bytes nowhere at =
    let none = before_zero-none (drop at bytes) (λ k under is. nowhere (at + k) (let len = length-drop at bytes in omega arith) (sym (get_or-drop at bytes k 0) ∙ is)) in
    rw (none, le-leb 0 at (omega arith)) refl

-- names stand up to the last zero byte
pub names_to_last : (bytes : List ℕ) (last : ℕ) → last < length bytes → get_or bytes last 0 ≡ 0 → ((k : ℕ) → last < k → k < length bytes → get_or bytes k 0 ≢ 0) → NamesEndAt bytes (last + 1)
unfolding name_at
names_to_last bytes last under here nowhere at =
    let len = length-drop at bytes in
    elim (leb_tells (last + 1) at) [
      | inl past ↦ (
          let behind : last < at = (let p = past.1 in omega arith) in
          let none = before_zero-none (drop at bytes) (λ k less is. nowhere (at + k) (omega arith) (omega arith) (sym (get_or-drop at bytes k 0) ∙ is)) in
          rw (none, past.0) refl)
      | inr before ↦ (
          let low : at ≤ last = (let p = before.1 in omega arith) in
          let e : at + (last - at) ≡ last = omega arith in
          let zero_here : get_or (drop at bytes) (last - at) 0 ≡ 0 = get_or-drop at bytes (last - at) 0 ∙ ap (λ x. get_or bytes x 0) e ∙ here in
          rw before.0 (before_zero-there (drop at bytes) (last - at) (omega arith) zero_here))
    ]
