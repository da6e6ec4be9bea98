-- The places in folders above, one after the other, and after those in the same folder.
use Rattle.std.proofs.Common.{◌≡◌, ◌++◌, ◌∷◌, ℕ, suc, Bool, true, false, not, List, [], Option, None, Some, ap, drop, inl, inr, if◌then◌else◌, subst, sym}
use Rattle.pef_ports.specs.Ports.{FilesPort}
use Rattle.pef_tool.specs.Companions.{CompanionIs, Looks, is_start, is_unnamed, mirror_of, mirrors_before}

-- what is known of the offset before: no name begins there, none can be mirrored, or one can
module _ (folder name : List ℕ) (at : ℕ) where
  chosen : Bool → Bool → List (List ℕ)
  chosen start unnamed = if not start then mirrors_before folder name at else if unnamed then [] else mirror_of folder name at ∷ mirrors_before folder name at

  pub inside_name : is_start folder at ≡ false → mirrors_before folder name (suc at) ≡ mirrors_before folder name at
  unfolding chosen
  inside_name is = ap (λ (start : Bool). chosen start (is_unnamed (drop at folder))) is

  pub before_none : is_start folder at ≡ true → is_unnamed (drop at folder) ≡ true → mirrors_before folder name (suc at) ≡ []
  unfolding chosen
  before_none start unnamed = subst (λ (b : Bool). chosen b (is_unnamed (drop at folder)) ≡ []) (sym start) (ap (λ (b : Bool). chosen true b) unnamed)

  pub before_name : is_start folder at ≡ true → is_unnamed (drop at folder) ≡ false → mirrors_before folder name (suc at) ≡ mirror_of folder name at ∷ mirrors_before folder name at
  unfolding chosen
  before_name start named = subst (λ (b : Bool). chosen b (is_unnamed (drop at folder)) ≡ mirror_of folder name at ∷ mirrors_before folder name at) (sym start) (ap (λ (b : Bool). chosen true b) named)

module _ {F : Type 0} (port : FilesPort F) (path : List ℕ) where
  -- places without a companion, and then others
  pub looks_on : (places others : List (List ℕ)) (before between after : F) (companion : Option CompanionIs)
      → Looks port path before between places None → Looks port path between after others companion → Looks port path before after (places ++ others) companion
  looks_on [] others before between after companion none later = subst (λ (f : F). Looks port path f after others companion) none.1 later
  looks_on (place ∷ places) others before between after companion (inl found) later = absurd (cc found.2)
  looks_on (place ∷ places) others before between after companion (inr passed) later = inr (passed.0, passed.1, looks_on places others passed.0 between after companion passed.2 later)

  -- no others are looked at after a companion
  pub looks_no_further : (places others : List (List ℕ)) (before after : F) (found : CompanionIs)
      → Looks port path before after places (Some found) → Looks port path before after (places ++ others) (Some found)
  looks_no_further [] others before after found looks = absurd (cc looks.0)
  looks_no_further (place ∷ places) others before after found (inl here) = inl here
  looks_no_further (place ∷ places) others before after found (inr later) = inr (later.0, later.1, looks_no_further places others later.0 after found later.2)
