-- The tables of a walk stay sound.
use Rattle.std.proofs.Common.{◌≡◌, ℕ, ◌<◌, Bool, true, List, [], ◌∷◌, ◌++◌, length, replicate, Option, None, Some, sym, ap, ◌∙◌, subst, set, inl, inr, arith}
use Rattle.std.specs.List.{AllByRecursion}
use Rattle.std.specs.Option.{option_map_or}
use Rattle.std.proofs.lemmas.Bool.Decides.{eqb_tells}
use Rattle.std.proofs.lemmas.List.{get_or-set_same, get_or-set_other, length-replicate, length-set}
use Rattle.pef_words.proofs.Laws.Lists.{all-append, all-weaker}
use Rattle.pef_loader.specs.Loader.{Loaded}
use Rattle.cfm_store.specs.Stores.{Pair}
use Rattle.cfm_closure.specs.Fragments.{import_count}
use Rattle.cfm_closure.specs.declared.fragment.ClosedFragment.{ClosedFragment}
use Rattle.cfm_closure.specs.declared.fragment.FragmentView.{FragmentView}
use Rattle.cfm_closure.specs.declared.walk.Frame.{Frame}
use Rattle.cfm_closure.specs.Kept.Paths.{AreTables, IsClosed, IsFrame, IsWalked, count_of}
use Rattle.cfm_closure.specs.Kept.Targets.{AreRight, Row}
use Rattle.cfm_closure.specs.Kept.Views.{AreKept, AreRead}
use Rattle.cfm_closure.specs.Views.{fragment_seen}
use Rattle.cfm_closure.proofs.HopFacts.{loader_at-is}

module _ (pairs : List Pair) (closed : List (Option ClosedFragment)) (p : ℕ) (f : ClosedFragment) (place : p < length pairs) (inside : p < length closed) (is : IsClosed pairs p f) where
  -- a fragment that is put into its place is there
  walked-here : IsWalked pairs (set closed p (Some f)) p
  walked-here = record { inside = place; fragment = f; stands = get_or-set_same closed p (Some f) None inside; is = is }

  -- and the others still are
  pub walked-set : (q : ℕ) → IsWalked pairs closed q → IsWalked pairs (set closed p (Some f)) q
  walked-set q was = elim (eqb_tells q p) [
    | inl same ↦ subst (IsWalked pairs (set closed p (Some f))) (sym same.1) walked-here
    | inr other ↦ (let e = get_or-set_other closed p q (Some f) None other.1 in
        record { inside = was.inside; fragment = was.fragment; stands = e ∙ was.stands; is = was.is })
  ]

-- a table without values has as many places
places-none : {T : Type 0} (table : List (Option T)) (n : ℕ) → table ≡ replicate n None → length table ≡ n
places-none table n is = ap length is ∙ length-replicate n None

-- the tables of a walk that visited nothing
pub tables-none : (pairs : List Pair) (fragments : List (Option FragmentView)) (closed : List (Option ClosedFragment)) (marked : List Bool) (path : List Frame) (order : List ℕ)
    → length fragments ≡ length pairs → AreRead pairs fragments → closed ≡ replicate (length pairs) None → length marked ≡ length pairs → path ≡ [] → order ≡ [] → AreTables pairs fragments closed marked path order
tables-none pairs fragments closed marked path order places read no_closed marks no_path no_order = record {
  fragments_size = places;
  closed_size = places-none closed (length pairs) no_closed;
  marked_size = marks;
  read = read;
  frames = subst (AllByRecursion (IsFrame pairs fragments)) (sym no_path) tt;
  walked = subst (AllByRecursion (IsWalked pairs closed)) (sym no_order) tt;
}

module _ (pairs : List Pair) (table table' : List (Option FragmentView)) (kept : AreKept table table') where
  -- fragments that were read stay so
  frame-later : (f : Frame) → IsFrame pairs table f → IsFrame pairs table' f
  frame-later f is = record { inside = is.inside; read = kept f.p (fragment_seen f.fragment) is.read; bound = is.bound; few = is.few }

  module _ (closed : List (Option ClosedFragment)) (marked : List Bool) (path : List Frame) (order : List ℕ) (are : AreTables pairs table closed marked path order) (size : length table' ≡ length pairs) (read : AreRead pairs table') where
    -- the same with more fragments read
    pub tables-read : AreTables pairs table' closed marked path order
    tables-read = record {
      fragments_size = size;
      closed_size = are.closed_size;
      marked_size = are.marked_size;
      read = read;
      frames = all-weaker (IsFrame pairs table) (IsFrame pairs table') path frame-later are.frames;
      walked = are.walked;
    }

module _ (pairs : List Pair) (table : List (Option FragmentView)) (closed : List (Option ClosedFragment)) (marked : List Bool) (path : List Frame) (order : List ℕ) (are : AreTables pairs table closed marked path order) where
  -- one more fragment that was visited
  pub tables-marked : (p : ℕ) → AreTables pairs table closed (set marked p true) path order
  tables-marked p = record {
    fragments_size = are.fragments_size;
    closed_size = are.closed_size;
    marked_size = length-set marked p true ∙ are.marked_size;
    read = are.read;
    frames = are.frames;
    walked = are.walked;
  }

  -- one more frame
  pub tables-pushed : (f : Frame) → IsFrame pairs table f → AreTables pairs table closed marked (path ++ f ∷ []) order
  tables-pushed f is = record {
    fragments_size = are.fragments_size;
    closed_size = are.closed_size;
    marked_size = are.marked_size;
    read = are.read;
    frames = all-append (IsFrame pairs table) path (f ∷ []) are.frames (is, tt);
    walked = are.walked;
  }

  -- the imports of the fragment of a frame
  pub frame-imports : (f : Frame) → IsFrame pairs table f → import_count pairs f.p ≡ (fragment_seen f.fragment).loader.header.import_count
  frame-imports f is =
      ap (λ o. option_map_or (λ (l : Loaded). l.header.import_count) o 0) (loader_at-is pairs f.p (fragment_seen f.fragment) (are.read f.p (fragment_seen f.fragment) is.read))

  -- one more fragment that is done
  pub tables-joined : (f : Frame) (row : Row) → IsFrame pairs table f → length f.libraries ≡ count_of f → length row ≡ (fragment_seen f.fragment).loader.header.import_count → AreRight pairs f.p row
      → AreTables pairs table (set closed f.p (Some (record { view = f.fragment; libraries = f.libraries; targets = row }))) marked path (order ++ f.p ∷ [])
  tables-joined f row is all imports right = record {
    fragments_size = are.fragments_size;
    closed_size = length-set closed f.p (Some fragment) ∙ are.closed_size;
    marked_size = are.marked_size;
    read = are.read;
    frames = are.frames;
    walked = all-append (IsWalked pairs later) order (f.p ∷ []) (all-weaker (IsWalked pairs closed) (IsWalked pairs later) order others are.walked) (this, tt);
  }
    where
      fragment : ClosedFragment
      fragment = record { view = f.fragment; libraries = f.libraries; targets = row }

      later : List (Option ClosedFragment)
      later = set closed f.p (Some fragment)

      inside : f.p < length closed
      inside = let a = is.inside in let b = are.closed_size in omega arith

      done : IsClosed pairs f.p fragment
      done = record {
        read = are.read f.p (fragment_seen f.fragment) is.read;
        bound = is.bound;
        all = all;
        imports = imports;
        right = right;
      }

      this : IsWalked pairs later f.p
      this = walked-here pairs closed f.p fragment is.inside inside done

      others : (q : ℕ) → IsWalked pairs closed q → IsWalked pairs later q
      others q was = walked-set pairs closed f.p fragment is.inside inside done q was
