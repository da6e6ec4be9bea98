-- The order of placement, and the refusals after each placement.
use Rattle.std.proofs.Common.{◌≡◌, ℕ, zero, suc, ◌+◌, ◌<◌, List, [], ◌∷◌, ◌++◌, length, refl, sym, ap, subst, ◌∙◌, inl, inr, arith}
use Rattle.cfm_memory.specs.Extents.{ArePlacedWith, Rule, rule_after, with_filled}
use Rattle.cfm_memory.proofs.Laws.{after-both, after-none, shape_back, with_shape}
use Rattle.cfm_memory.specs.Instances.{Layout}
use Rattle.cfm_memory.specs.declared.place.Place.{Place}
use Rattle.pef_format.specs.declared.place.Place.{Place as ContainerPlace}
use Rattle.cfm_sections.proofs.Laws.{lacks-moved, lacks-one}
use Rattle.cfm_store.specs.Stores.{Pair, pair_of}
use Rattle.cfm_prepare.specs.Fragments.{Present, extents_in, positions, present_at}
use Rattle.cfm_prepare.specs.Placing.{AllPlacedBy, HasNoPlaceAt, LacksPlaceAt, LacksPlaceBy}
use Rattle.cfm_prepare.specs.Refusals.{MayNotPrepareNewBy}
use Rattle.cfm_prepare.specs.Kept.Begun.{HavePlacedWith, HaveSizes, section_placed}
use Rattle.cfm_prepare.specs.Kept.Ready.{IsNotPlaced, place_count}
use Rattle.cfm_prepare.specs.declared.fragment_fault.FragmentFault.{FragmentFault}
use Rattle.cfm_prepare.specs.declared.fragment_fault.FragmentFault.TheVariants as fault
use Rattle.cfm_prepare.proofs.FilledLemmas.{filled-push, have-shape}
use Rattle.cfm_prepare.proofs.PlacedLemmas.{placed-push}
use Rattle.cfm_prepare.proofs.ReadyLemmas.{each-of}

positions-push : (fs : List Present) (f : Present) → positions (fs ++ f ∷ []) ≡ positions fs ++ f.position ∷ []
positions-push [] f = refl
positions-push (g ∷ fs) f = ap (λ ps. g.position ∷ ps) (positions-push fs f)

pub append-assoc : {A : Type 0} (xs ys zs : List A) → (xs ++ ys) ++ zs ≡ xs ++ (ys ++ zs)
append-assoc [] ys zs = refl
append-assoc (x ∷ xs) ys zs = ap (λ rest. x ∷ rest) (append-assoc xs ys zs)

-- the sections of some fragments and of one more
pub count-push : (fs : List Present) (f : Present) → place_count (fs ++ f ∷ []) ≡ place_count fs + length f.places
count-push [] f = omega arith
count-push (g ∷ fs) f = let rest = count-push fs f in omega (arith, rest)

-- a fact of one fragment is one of the list with it alone
each-one : (P : Present → Type 0) (f : Present) → P f → (j : ℕ) → j < length (f ∷ []) → P (present_at (f ∷ []) j)
each-one P f last zero under = last
each-one P f last (suc j) under = absurd (omega (arith, under))

-- one fragment more was placed
pub have-more : {rule : Rule} (pairs : List Pair) (m mid after : Layout) (there now next : List Present) (new more : List ℕ) (p : ℕ) (places : List Place)
    → (all : HavePlacedWith rule pairs m there new now mid) → ArePlacedWith (rule_after rule (place_count all.have.fresh)) mid (extents_in pairs p) (section_placed pairs p) places after → next ≡ now ++ (record { position = p; places = places }) ∷ []
    → more ≡ new ++ p ∷ [] → (wide : HavePlacedWith rule pairs m there more next after) × (place_count wide.have.fresh ≡ place_count all.have.fresh + length places)
have-more {rule} pairs m mid after there now next new more p places all placed next_is more_is =
    let f : Present = record { position = p; places = places } in
    let fresh = all.have.fresh in
    let bytes : Present → ℕ → List ℕ = λ g. section_placed pairs g.position in
    let moved = with_shape (rule_after rule (place_count fresh)) mid all.empty (extents_in pairs p) (section_placed pairs p) places after (have-shape pairs m there now new mid all) placed in (
      record {
        empty = moved.0;
        have = record {
          fresh = fresh ++ f ∷ [];
          behind = next_is ∙ ap (λ fs. fs ++ f ∷ []) all.have.behind ∙ append-assoc there fresh (f ∷ []);
          are = positions-push fresh f ∙ ap (λ ps. ps ++ p ∷ []) all.have.are ∙ sym more_is;
          placed = placed-push rule pairs m all.empty moved.0 fresh f all.have.placed moved.1;
        };
        sizes = each-of (λ g. HaveSizes (bytes g) g) fresh (f ∷ []) all.sizes (each-one (λ g. HaveSizes (bytes g) g) f placed.lengths);
        filled = placed.filled ∙ ap (λ (k : Layout). with_filled k places (section_placed pairs p)) all.filled ∙ sym (filled-push m fresh f bytes);
      },
      count-push fresh f,
    )

-- a fragment that has no place after others has none among all
lacks-after : (rule : Rule) (pairs : List Pair) (m mid : Layout) (fs : List Present) (p : ℕ) (ps : List ℕ) (name : List ℕ) (place : ContainerPlace)
    → AllPlacedBy rule pairs m fs mid → HasNoPlaceAt (rule_after rule (place_count fs)) pairs mid p place → name ≡ (pair_of pairs p).name → LacksPlaceAt rule pairs m (positions fs ++ p ∷ ps) name place
lacks-after rule pairs m mid [] p ps name place placed lack is =
    let P : Layout → Type 0 = λ k. HasNoPlaceAt rule pairs k p place in
    inl (subst P placed (subst (λ r. HasNoPlaceAt r pairs mid p place) (after-none rule) lack), is)
lacks-after rule pairs m mid (f ∷ fs) p ps name place placed lack is =
    let rest = subst (λ r. HasNoPlaceAt r pairs mid p place) (sym (after-both rule (length f.places) (place_count fs))) lack in
    inr (f.places, placed.0, placed.1, lacks-after (rule_after rule (length f.places)) pairs placed.0 mid fs p ps name place placed.2 rest is)

-- fragments that lack a place for a section lack places
pub lacks-room : (rule : Rule) (pairs : List Pair) (m : Layout) (ps : List ℕ) (name : List ℕ) (place : ContainerPlace) → LacksPlaceAt rule pairs m ps name place → LacksPlaceBy rule pairs m ps name
lacks-room rule pairs m [] name place lacks = lacks
lacks-room rule pairs m (p ∷ ps) name place (inl here) = inl (lacks-one rule m (extents_in pairs p) here.0.0 here.0.1, here.1)
lacks-room rule pairs m (p ∷ ps) name place (inr later) = inr (later.0, later.1, later.2, lacks-room (rule_after rule (length later.0)) pairs later.1 ps name place later.3)

pub not-placed : {rule : Rule} (e : FragmentFault) (pairs : List Pair) (there now : List Present) (m mid : Layout) (new placed rest : List ℕ) (p : ℕ)
    → (all : HavePlacedWith rule pairs m there placed now mid) → new ≡ placed ++ p ∷ rest → IsNotPlaced (rule_after rule (place_count all.have.fresh)) pairs p mid e → MayNotPrepareNewBy rule pairs there m new e
not-placed {rule} (fault.NoRoom f place) pairs there now m mid new placed rest p all is not =
    let P : List ℕ → Type 0 = λ ps. LacksPlaceAt rule pairs m ps f.now place in
    let after = rule_after rule (place_count all.have.fresh) in
    let none : HasNoPlaceAt after pairs all.empty p place = (not.0.0, lacks-moved after mid all.empty (extents_in pairs p) not.0.0 (shape_back all.empty mid (have-shape pairs m there now placed mid all)) not.0.1, not.0.2) in
    subst P (sym (is ∙ ap (λ ps. ps ++ p ∷ rest) (sym all.have.are))) (lacks-after rule pairs m all.empty all.have.fresh p rest f.now place all.have.placed none not.1)
not-placed (fault.Pack f k place) pairs there now m mid new placed rest p all is not = absurd not
not-placed (fault.Reloc f k section place) pairs there now m mid new placed rest p all is not = absurd not
not-placed fault.OutOfMemory pairs there now m mid new placed rest p all is not = tt
