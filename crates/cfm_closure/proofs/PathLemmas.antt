-- The path of frames has the effect of the recursion.
use Rattle.std.proofs.Common.{◌≡◌, ℕ, suc, ◌+◌, ◌-◌, ◌<◌, ◌≤◌, Bool, true, false, cond, List, [], ◌∷◌, ◌++◌, length, Option, None, Some, Ok, Err, refl, sym, ap, ◌∙◌, arith}
use Rattle.std.specs.Prelude.{Result}
use Rattle.std.specs.Option.{option_map_or}
use Rattle.std.proofs.lemmas.List.Sums.{count_by-le-length}
use Rattle.pef_loader.specs.Library.{Library}
use Rattle.pef_loader.specs.Loader.{library_of}
use Rattle.cfm_store.specs.Stores.{Pair}
use Rattle.pef_words.specs.Results.{◌>>=◌}
use Rattle.cfm_closure.specs.declared.fault.BindFault.{BindFault}
use Rattle.cfm_closure.specs.declared.fault.BindFault.TheVariants as fault
use Rattle.cfm_closure.specs.declared.walk.Frame.{Frame}
use Rattle.cfm_closure.specs.Faults.{BindRefusal, FailsAs}
use Rattle.cfm_closure.specs.Fragments.{Fragment, fragment_of}
use Rattle.cfm_closure.specs.Libraries.{bound, bound_to}
use Rattle.cfm_closure.specs.Walk.{Walked, is_marked, joining, left, marking, order_of, unwalked, walk, walk_at, walk_to, walks_from}
use Rattle.cfm_closure.specs.Kept.Paths.{rest_of, rest_of_frame, rest_of_path, visit, visit_and_rest}
use Rattle.cfm_closure.specs.Kept.Walks.{unmet_of}
use Rattle.cfm_closure.proofs.WalkRules.{walk-rule}

-- a refusal at first is the refusal of the whole
pub Fails-also : {A B : Type 0} (e : BindFault) (x : Result A BindRefusal) (y : Result B BindRefusal) → ((r : BindRefusal) → x ≡ Err r → y ≡ Err r) → FailsAs e x → FailsAs e y
Fails-also (fault.Container f v) x y leads is = leads _ is
Fails-also (fault.Loader f v place) x y leads is = leads _ is
Fails-also (fault.LibraryMissing f l place) x y leads is = leads _ is
Fails-also (fault.SymbolMissing f l s place) x y leads is = leads _ is
Fails-also (fault.ImplementationTooOld f l place needed found) x y leads is = leads _ is
Fails-also (fault.ImplementationTooNew f l place needed found) x y leads is = leads _ is
Fails-also (fault.ReexportLoop f s place) x y leads is = leads _ is
Fails-also (fault.InitLoop f place) x y leads is = leads _ is
Fails-also fault.OutOfMemory x y leads is = tt

pub then_assoc : {A B C : Type 0} (r : Result A BindRefusal) (f : A → Result B BindRefusal) (g : B → Result C BindRefusal) → ((r >>= f) >>= g) ≡ (r >>= (λ x. f x >>= g))
then_assoc (Ok x) f g = refl
then_assoc (Err e) f g = refl

pub then_ok : {A : Type 0} (r : Result A BindRefusal) → (r >>= (λ x. Ok x)) ≡ r
then_ok (Ok x) = refl
then_ok (Err e) = refl

pub then_same : {A B : Type 0} (r : Result A BindRefusal) (f g : A → Result B BindRefusal) → ((x : A) → f x ≡ g x) → (r >>= f) ≡ (r >>= g)
then_same (Ok x) f g same = same x
then_same (Err e) f g same = refl

-- a frame more: it comes first
pub rest_of_path-push : (pairs : List Pair) (path : List Frame) (f : Frame) (s : Walked) → rest_of_path pairs (path ++ f ∷ []) s ≡ (rest_of_frame pairs f s >>= rest_of_path pairs path)
rest_of_path-push pairs [] f s = sym (then_ok (rest_of_frame pairs f s))
rest_of_path-push pairs (g ∷ path) f s =
    ap (λ r. r >>= rest_of_frame pairs g) (rest_of_path-push pairs path f s)
    ∙ then_assoc (rest_of_frame pairs f s) (rest_of_path pairs path) (rest_of_frame pairs g)

module _ (pairs : List Pair) (s : Walked) (size : length s.marked ≡ length pairs) where
  few : left s ≤ length pairs
  few = let h : left s ≤ length s.marked = count_by-le-length _ s.marked in omega arith

  -- a fragment that was visited is passed by
  pub visit-met : (p : ℕ) → is_marked s p ≡ true → visit pairs p s ≡ Ok s
  visit-met p met = walk-rule (length pairs) pairs p s few ∙ ap (walk_at (walk (length pairs) pairs) pairs p s) met

  visit-new : (p : ℕ) → is_marked s p ≡ false → visit pairs p s ≡ walk_at (walk (length pairs) pairs) pairs p s false
  visit-new p unmet = walk-rule (length pairs) pairs p s few ∙ ap (walk_at (walk (length pairs) pairs) pairs p s) unmet

  -- any other one is read
  pub visit-refused : (p : ℕ) (r : BindRefusal) → is_marked s p ≡ false → fragment_of pairs p ≡ Err r → visit pairs p s ≡ Err r
  visit-refused p r unmet is = visit-new p unmet ∙ ap (λ f. f >>= (λ f. walks_from (walk (length pairs) pairs) pairs p 0 f.loader.header.library_count (marking p s) >>= (λ s. Ok (joining p s)))) is

  -- .. and its libraries come next
  pub visit-unmet : (p : ℕ) (f : Fragment) → is_marked s p ≡ false → fragment_of pairs p ≡ Ok f → visit pairs p s ≡ rest_of pairs p 0 f.loader.header.library_count (marking p s)
  visit-unmet p f unmet is =
      visit-new p unmet
      ∙ ap (λ f. f >>= (λ f. walks_from (walk (length pairs) pairs) pairs p 0 f.loader.header.library_count (marking p s) >>= (λ s. Ok (joining p s)))) is
      ∙ ap (λ n. walks_from (walk (length pairs) pairs) pairs p 0 n (marking p s) >>= (λ s. Ok (joining p s))) (omega arith)

  -- an entry leads to no fragment that wasn't visited, and is passed by
  pub passed_by : (b : Option ℕ) → unmet_of s.marked b ≡ None → walk_to (visit pairs) b s ≡ Ok s
  passed_by None none = refl
  passed_by (Some q) none = by (is_marked s q) refl none
    where
      by : (m : Bool) → is_marked s q ≡ m → cond m None (Some q) ≡ None → visit pairs q s ≡ Ok s
      by true met none = visit-met q met
      by false met none = absurd (cc)

-- the rest of a fragment begins with the walk to its next library
pub rest_of-next : (pairs : List Pair) (p l count : ℕ) (s : Walked) (b : Option ℕ) → l < count → bound_to pairs p l ≡ Ok b → rest_of pairs p l count s ≡ (walk_to (visit pairs) b s >>= rest_of pairs p (l + 1) count)
rest_of-next pairs p l count s b under is =
    let more : count - l ≡ suc (count - (l + 1)) = omega arith in
    ap (λ n. walks_from (visit pairs) pairs p l n s >>= (λ s. Ok (joining p s))) more
    ∙ ap (λ r. (r >>= (λ q. walk_to (visit pairs) q s >>= walks_from (visit pairs) pairs p (l + 1) (count - (l + 1)))) >>= (λ s. Ok (joining p s))) is
    ∙ then_assoc (walk_to (visit pairs) b s) (walks_from (visit pairs) pairs p (l + 1) (count - (l + 1))) (λ s. Ok (joining p s))

pub rest_of-refused : (pairs : List Pair) (p l count : ℕ) (s : Walked) (r : BindRefusal) → l < count → bound_to pairs p l ≡ Err r → rest_of pairs p l count s ≡ Err r
rest_of-refused pairs p l count s r under is =
    let more : count - l ≡ suc (count - (l + 1)) = omega arith in
    ap (λ n. walks_from (visit pairs) pairs p l n s >>= (λ s. Ok (joining p s))) more
    ∙ ap (λ r. (r >>= (λ q. walk_to (visit pairs) q s >>= walks_from (visit pairs) pairs p (l + 1) (count - (l + 1)))) >>= (λ s. Ok (joining p s))) is

-- the fragment of an entry of a fragment that was read
pub bound_to-is : (pairs : List Pair) (p l : ℕ) (f : Fragment) (library : Library) → fragment_of pairs p ≡ Ok f → library_of f.loader l ≡ Some library → bound_to pairs p l ≡ bound pairs f l library
unfolding bound_to
bound_to-is pairs p l f library read is =
    ap (λ r. r >>= (λ f. option_map_or (bound pairs f l) (library_of f.loader l) (Ok None))) read
    ∙ ap (λ o. option_map_or (bound pairs f l) o (Ok None)) is

-- the closure order is the result of the walk from the root, with no fragment visited and none on the
-- path
pub order_of-start : (pairs : List Pair) (root : ℕ) (path : List Frame) (s : Walked) → path ≡ [] → s ≡ unwalked pairs → order_of pairs root ≡ (visit_and_rest pairs root path s >>= (λ s. Ok s.order))
unfolding order_of
order_of-start pairs root path s empty start =
    sym (ap (λ path. visit_and_rest pairs root path s >>= (λ s. Ok s.order)) empty
    ∙ ap (λ s. visit_and_rest pairs root [] s >>= (λ s. Ok s.order)) start
    ∙ ap (λ r. r >>= (λ s. Ok s.order)) (then_ok (visit pairs root (unwalked pairs))))
