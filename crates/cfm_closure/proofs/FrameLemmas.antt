-- A frame of the path, with one library entry more.
use Rattle.std.proofs.Common.{◌≡◌, ℕ, zero, suc, ◌+◌, ◌<◌, ◌⊎◌, Bool, true, false, cond, List, [], ◌∷◌, ◌++◌, length, Option, None, Some, Ok, refl, sym, ap, ◌∙◌, subst, get_or, inl, inr, arith}
use Rattle.std.specs.Prelude.{slice_get, IfSome}
use Rattle.std.proofs.lemmas.List.{length_push}
use Rattle.pef_loader.specs.Library.{Library}
use Rattle.pef_loader.specs.Loader.{library_of}
use Rattle.cfm_store.specs.Stores.{Pair}
use Rattle.pef_words.specs.Results.{◌>>=◌}
use Rattle.cfm_closure.specs.declared.fault.BindFault.{BindFault}
use Rattle.cfm_closure.specs.declared.fragment.FragmentView.{FragmentView}
use Rattle.cfm_closure.specs.declared.walk.Frame.{Frame}
use Rattle.cfm_closure.specs.Faults.{FailsAs}
use Rattle.cfm_closure.specs.Libraries.{bound, bound_to}
use Rattle.cfm_closure.specs.Walk.{Walked, walk_to}
use Rattle.cfm_closure.specs.Kept.Paths.{AreBound, IsFrame, NextOf, count_of, frame_and_rest, rest_of, rest_of_frame, rest_of_path, visit, visit_and_rest}
use Rattle.cfm_closure.specs.Kept.Views.{AreKept, AreRead, fragment_at}
use Rattle.cfm_closure.specs.Views.{fragment_seen}
use Rattle.cfm_closure.specs.Kept.Walks.{unmet_of}
use Rattle.cfm_closure.proofs.PathLemmas.{Fails-also, bound_to-is, passed_by, rest_of-next, rest_of-refused, rest_of_path-push, then_assoc, then_same}

-- an element of a list with one more is one of the list's, or the last
pub slice_get-push : {A : Type 0} (xs : List A) (y : A) (i : ℕ) (x : A) → slice_get (xs ++ y ∷ []) i ≡ Some x → (slice_get xs i ≡ Some x) ⊎ ((i ≡ length xs) × (y ≡ x))
slice_get-push [] y zero x is = inr (refl, cc)
slice_get-push [] y (suc i) x is = absurd (cc)
slice_get-push (z ∷ xs) y zero x is = inl is
slice_get-push (z ∷ xs) y (suc i) x is = elim (slice_get-push xs y i x is) [
  | inl before ↦ inl before
  | inr last ↦ inr (let e = last.0 in omega arith, last.1)
]

pub AreBound-push : (pairs : List Pair) (p : ℕ) (bounds : List (Option ℕ)) (b : Option ℕ) → AreBound pairs p bounds → bound_to pairs p (length bounds) ≡ Ok b → AreBound pairs p (bounds ++ b ∷ [])
AreBound-push pairs p bounds b are is l x there = elim (slice_get-push bounds b l x there) [
  | inl before ↦ are l x before
  | inr last ↦ (let P : ℕ → Type 0 = λ l. bound_to pairs p l ≡ Ok x in subst P (sym last.0) (is ∙ ap Ok last.1))
]

unmet-some : (marked : List Bool) (b : Option ℕ) (q : ℕ) → unmet_of marked b ≡ Some q → b ≡ Some q
unmet-some marked None q is = absurd (cc)
unmet-some marked (Some x) q is = by (get_or marked x true) is
  where
    by : (m : Bool) → cond m None (Some x) ≡ Some q → Some x ≡ Some q
    by true is = absurd (cc)
    by false is = is

pub unmet-unmarked : (marked : List Bool) (b : Option ℕ) (q : ℕ) → unmet_of marked b ≡ Some q → get_or marked q true ≡ false
unmet-unmarked marked None q is = absurd (cc)
unmet-unmarked marked (Some x) q is = by (get_or marked x true) refl is
  where
    by : (m : Bool) → get_or marked x true ≡ m → cond m None (Some x) ≡ Some q → get_or marked q true ≡ false
    by true met is = absurd (cc)
    by false none is = let P : ℕ → Type 0 = λ q. get_or marked q true ≡ false in subst P (cc) none

pub unmet-below : (marked : List Bool) (b : Option ℕ) (q n : ℕ) → unmet_of marked b ≡ Some q → IfSome b (λ q. q < n) → q < n
unmet-below marked b q n is below = let P : Option ℕ → Type 0 = λ b. IfSome b (λ q. q < n) in subst P (unmet-some marked b q is) below

module _ (pairs : List Pair) (table : List (Option FragmentView)) (f : Frame) (read : AreRead pairs table) (frame : IsFrame pairs table f)
    (library : Library) (is : library_of (fragment_seen f.fragment).loader (length f.libraries) ≡ Some library) (under : length f.libraries < count_of f) where
  -- the fragment of the next library entry
  next_bound : bound_to pairs f.p (length f.libraries) ≡ bound pairs (fragment_seen f.fragment) (length f.libraries) library
  next_bound = bound_to-is pairs f.p (length f.libraries) (fragment_seen f.fragment) library (read f.p (fragment_seen f.fragment) frame.read) is

  -- if it is refused, so is the rest
  pub frame-refused : (e : BindFault) (s : Walked) → FailsAs e (bound pairs (fragment_seen f.fragment) (length f.libraries) library) → FailsAs e (rest_of_frame pairs f s)
  frame-refused e s fails =
      Fails-also e (bound pairs (fragment_seen f.fragment) (length f.libraries) library) (rest_of_frame pairs f s)
      (λ r refused. rest_of-refused pairs f.p (length f.libraries) (count_of f) s r under (next_bound ∙ refused)) fails

  module _ (b : Option ℕ) (bounds : List (Option ℕ)) (bound_is : bound pairs (fragment_seen f.fragment) (length f.libraries) library ≡ Ok b) (more : bounds ≡ f.libraries ++ b ∷ []) where
    long : length bounds ≡ length f.libraries + 1
    long = ap length more ∙ length_push f.libraries b

    -- with it, the frame is sound still
    pub frame-more : (table' : List (Option FragmentView)) → AreKept table table' → IsFrame pairs table' (record f { libraries = bounds })
    frame-more table' kept = record {
      inside = frame.inside;
      read = kept f.p (fragment_seen f.fragment) frame.read;
      bound = subst (AreBound pairs f.p) (sym more) (AreBound-push pairs f.p f.libraries b frame.bound (next_bound ∙ bound_is));
      few = let l = long in omega arith;
    }

    -- and the rest is the walk to it with the entries left then
    frame-next : (s : Walked) → rest_of_frame pairs f s ≡ (walk_to (visit pairs) b s >>= rest_of_frame pairs (record f { libraries = bounds }))
    frame-next s =
        rest_of-next pairs f.p (length f.libraries) (count_of f) s b under (next_bound ∙ bound_is)
        ∙ ap (λ n. walk_to (visit pairs) b s >>= rest_of pairs f.p n (count_of f)) (sym long)

    pub frame-unmet : (s : Walked) (q : ℕ) → unmet_of s.marked b ≡ Some q → rest_of_frame pairs f s ≡ (visit pairs q s >>= rest_of_frame pairs (record f { libraries = bounds }))
    frame-unmet s q some =
        frame-next s
        ∙ ap (λ b. walk_to (visit pairs) b s >>= rest_of_frame pairs (record f { libraries = bounds })) (unmet-some s.marked b q some)

    pub frame-passed : (s : Walked) → length s.marked ≡ length pairs → unmet_of s.marked b ≡ None → rest_of_frame pairs f s ≡ rest_of_frame pairs (record f { libraries = bounds }) s
    frame-passed s size none =
        frame-next s
        ∙ ap (λ r. r >>= rest_of_frame pairs (record f { libraries = bounds })) (passed_by pairs s size b none)

-- a frame without library entries
pub new_frame : (pairs : List Pair) (table : List (Option FragmentView)) (f : Frame) → f.p < length pairs → fragment_at table f.p ≡ Some (fragment_seen f.fragment) → f.libraries ≡ [] → IsFrame pairs table f
new_frame pairs table f inside read none = record {
  inside = inside;
  read = read;
  bound = rw none (λ l b there. absurd (cc));
  few = rw none (omega arith);
}

-- if a frame continues with the walk to a fragment, so does the path
pub met_and_rest : (pairs : List Pair) (f g : Frame) (path : List Frame) (s : Walked) (q : ℕ) → rest_of_frame pairs f s ≡ (visit pairs q s >>= rest_of_frame pairs g) → frame_and_rest pairs f path s ≡ visit_and_rest pairs q (path ++ g ∷ []) s
met_and_rest pairs f g path s q is =
    ap (λ r. r >>= rest_of_path pairs path) is
    ∙ then_assoc (visit pairs q s) (rest_of_frame pairs g) (rest_of_path pairs path)
    ∙ then_same (visit pairs q s) _ _ (λ s. sym (rest_of_path-push pairs path g s))

-- the next frame for equal marks and equal results
pub next_is : (pairs : List Pair) (marked marked' : List Bool) (order : List ℕ) (f g : Frame) (a b : Option ℕ) → marked ≡ marked' → a ≡ b → NextOf pairs (record { marked = marked; order = order }) f g a → NextOf pairs (record { marked = marked'; order = order }) f g b
next_is pairs marked marked' order f g a b same is next =
    subst (λ b. NextOf pairs (record { marked = marked'; order = order }) f g b) is
    (subst (λ marked. NextOf pairs (record { marked = marked; order = order }) f g a) same next)
