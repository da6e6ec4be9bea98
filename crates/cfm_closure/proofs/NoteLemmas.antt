-- A target noted in the table of fragments.
use Rattle.std.proofs.Common.{◌≡◌, ℕ, ◌<◌, List, [], length, Option, None, Some, Ok, refl, sym, ap, ◌∙◌, subst, get_or, set, arith, Contains}
use Rattle.std.specs.Prelude.{IfSome, IsSome}
use Rattle.std.specs.Option.{option_map_or}
use Rattle.std.proofs.lemmas.List.{length-set, set-get_or}
use Rattle.pef_loader.specs.Loader.{Loaded}
use Rattle.pef_words.proofs.Laws.Lists.{all-weaker}
use Rattle.cfm_store.specs.Stores.{Pair}
use Rattle.cfm_closure.specs.Fragments.{import_count}
use Rattle.cfm_closure.specs.Views.{fragment_seen}
use Rattle.cfm_closure.specs.declared.fragment.ClosedFragment.{ClosedFragment}
use Rattle.cfm_closure.specs.declared.targets.Target.{Target}
use Rattle.cfm_closure.specs.Kept.Bindings.{AreBindings}
use Rattle.cfm_closure.specs.Kept.Paths.{IsClosed, IsWalked}
use Rattle.cfm_closure.specs.Kept.Rows.{row_of, rows_of}
use Rattle.cfm_closure.specs.Kept.Targets.{AreRight, IsKnown, Keeps, Row, Rows, led_to}
use Rattle.cfm_closure.proofs.HopFacts.{loader_at-is}
use Rattle.cfm_closure.proofs.KnownLemmas.{kept-noted, known-noted, noted, right-noted}
use Rattle.cfm_closure.proofs.OrderFacts.{all-contains}
use Rattle.cfm_closure.proofs.RowLemmas.{row-at, rows-length, rows-set}
use Rattle.cfm_closure.proofs.TableLemmas.{walked-set}

-- a target that is known is noted once more
pub set-known : (row : Row) (j : ℕ) (t : Option Target) → IsSome (get_or row j None) → IfSome (get_or row j None) (λ known. known ≡ t) → set row j (Some t) ≡ row
set-known row j t known same = by (get_or row j None) refl known same
  where
    by : (o : Option (Option Target)) → get_or row j None ≡ o → IsSome o → IfSome o (λ known. known ≡ t) → set row j (Some t) ≡ row
    by None is known same = absurd (cc)
    by (Some u) is known same = ap (λ x. set row j x) (sym (is ∙ ap Some same)) ∙ set-get_or row j None

module _ (pairs : List Pair) (table : List (Option ClosedFragment)) (order : List ℕ) (are : AreBindings pairs table order) (p : ℕ) (there : Contains order p)
    (f : ClosedFragment) (here : get_or table p None ≡ Some f) where
  place : p < length pairs
  place = (are.complete.members p there).place

  inside : p < length table
  inside = let size = are.size in let below = place in omega arith

  closed : IsClosed pairs p f
  closed =
      let walked = all-contains (IsWalked pairs table) order p are.walked there in
      let both : Some walked.fragment ≡ Some f = sym walked.stands ∙ here in
      let same : walked.fragment ≡ f = cc in
      subst (IsClosed pairs p) same walked.is

  row : get_or (rows_of table) p [] ≡ f.targets
  row = row-at table p ∙ ap row_of here

  -- the target of an import, if it is known, is where the import leads to
  pub same-noted : (j : ℕ) (t : Option Target) → led_to pairs (p, j) ≡ Some (Ok t) → IfSome (get_or f.targets j None) (λ known. known ≡ t)
  same-noted j t led = by (get_or f.targets j None) refl
    where
      by : (o : Option (Option Target)) → get_or f.targets j None ≡ o → IfSome o (λ known. known ≡ t)
      by None is = tt
      by (Some u) is = let both : Some (Ok u) ≡ Some (Ok t) = sym (closed.right j u is) ∙ led in cc

  module _ (j : ℕ) (t : Option Target) (import : j < import_count pairs p) where
    -- an import has a place in the row of its fragment
    pub in_row : j < length f.targets
    in_row =
        let count : import_count pairs p ≡ (fragment_seen f.view).loader.header.import_count = ap (λ o. option_map_or (λ (l : Loaded). l.header.import_count) o 0) (loader_at-is pairs p (fragment_seen f.view) closed.read) in
        let size = closed.imports in
        omega arith

    module _ (new : Row) (is : new ≡ set f.targets j (Some t)) where
      -- the fragment with the target noted
      abbrev pub later : ClosedFragment
      later = record { view = f.view; libraries = f.libraries; targets = new }

      rows : rows_of (set table p (Some later)) ≡ noted (rows_of table) p j t
      rows = rows-set table p later ∙ ap (λ (row : Row). set (rows_of table) p row) (is ∙ ap (λ (row : Row). set row j (Some t)) (sym row))

      in_rows : p < length (rows_of table)
      in_rows = let size = rows-length table in let below = inside in omega arith

      in_known : j < length (get_or (rows_of table) p [])
      in_known = subst (λ (row : Row). j < length row) (sym row) in_row

      pub keeps-noted : Keeps (record { pairs = pairs; order = order; rows = rows_of table }) (record { pairs = pairs; order = order; rows = rows_of (set table p (Some later)) })
      keeps-noted = record {
        same = refl;
        known = λ q k known. subst (λ (rows : Rows). IsKnown rows q k) (sym rows) (kept-noted (rows_of table) p j t in_rows in_known q k known);
      }

      pub known-in : IsKnown (rows_of (set table p (Some later))) p j
      known-in = subst (λ (rows : Rows). IsKnown rows p j) (sym rows) (known-noted (rows_of table) p j t in_rows in_known)

      -- with a right one the table is still that of the order
      pub are-noted : led_to pairs (p, j) ≡ Some (Ok t) → AreBindings pairs (set table p (Some later)) order
      are-noted led =
          let done : IsClosed pairs p later = record {
            read = closed.read;
            bound = closed.bound;
            all = closed.all;
            imports = ap length is ∙ length-set f.targets j (Some t) ∙ closed.imports;
            right = subst (λ (row : Row). AreRight pairs p row) (sym is) (right-noted pairs p j f.targets t closed.right in_row led);
          } in
          record {
            size = length-set table p (Some later) ∙ are.size;
            walked = all-weaker (IsWalked pairs table) (IsWalked pairs (set table p (Some later))) order (λ q was. walked-set pairs table p later place inside done q was) are.walked;
            complete = are.complete;
            few = are.few;
          }
