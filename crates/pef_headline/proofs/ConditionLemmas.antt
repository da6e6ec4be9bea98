-- A preparation that gives a connection met the conditions of the headline: places are unique, and nothing was refused.
use Rattle.std.proofs.Common.{◌≡◌, ℕ, zero, suc, ◌<◌, List, [], ◌∷◌, ◌++◌, Option, None, Some, Contains, length, slice_index_or, inl, inr, refl, sym, ap₂, subst, ◌∙◌, arith}
use Rattle.std.specs.Option.{option_or}
use Rattle.cfm_store.specs.Stores.{Pair}
use Rattle.cfm_memory.specs.Extents.{ArePlacedBy, Extent, HasNoPlaceBy, IsPlaceBy, LackPlaceBy, Rule, at_given, at_lowest, rule_after}
use Rattle.cfm_memory.specs.Instances.{Layout}
use Rattle.cfm_memory.specs.Placement.{IsRoom, with_new}
use Rattle.cfm_memory.specs.declared.place.Place.{Place}
use Rattle.cfm_prepare.specs.Addresses.{addresses_of, first_bad_program}
use Rattle.cfm_prepare.specs.Fragments.{Present, extents_in, first_bad_image, image_refusal_in, named, positions, reloc_refusal_in}
use Rattle.cfm_prepare.specs.Placing.{AllPlacedBy, LacksPlaceBy}
use Rattle.cfm_prepare.specs.Contexts.{ContextState}
use Rattle.cfm_prepare.specs.Steps.{PreparesBy, new_of}
use Rattle.cfm_sections.specs.declared.image_fault.ImageFault.{ImageFault}
use Rattle.pef_loader.specs.declared.program_fault.ProgramFault.{ProgramFault}
use Rattle.pef_headline.specs.Headline.{LibrariesResolve, OthersAreSoundBy, SectionsFindPlaces}

-- an extent has one place by a rule
place-same : (rule : Rule) (m : Layout) (e : Extent) (p q : Place) → IsPlaceBy rule m e p → IsPlaceBy rule m e q → p ≡ q
place-same at_lowest m e p q one other =
    let address : p.address ≡ q.address = omega (arith, one.lowest.lowest q.address other.lowest.room, other.lowest.lowest p.address one.lowest.room) in
    ap₂ (λ (a n : ℕ). record { address = a; size = n }) address (one.size ∙ sym other.size)
place-same (at_given []) m e p q one other = absurd one
place-same (at_given (a ∷ addresses)) m e p q one other = ap₂ (λ (a n : ℕ). record { address = a; size = n }) (one.1 ∙ sym other.1) (one.0.size ∙ sym other.0.size)

-- so several extents have one list of places, which gives one memory
placed-same : (rule : Rule) (m : Layout) (es : List Extent) (ps qs : List Place) (after other : Layout) → ArePlacedBy rule m es ps after → ArePlacedBy rule m es qs other → (ps ≡ qs) × (after ≡ other)
placed-same rule m [] [] [] after other one two = (refl, one ∙ sym two)
placed-same rule m [] [] (q ∷ qs) after other one two = absurd two
placed-same rule m [] (p ∷ ps) qs after other one two = absurd one
placed-same rule m (e ∷ es) [] qs after other one two = absurd one
placed-same rule m (e ∷ es) (p ∷ ps) [] after other one two = absurd two
placed-same rule m (e ∷ es) (p ∷ ps) (q ∷ qs) after other one two =
    let same = place-same rule m e p q one.0 two.0 in
    let rest = placed-same (rule_after rule 1) (with_new m p) es ps qs after other one.1 (subst (λ r. ArePlacedBy (rule_after rule 1) (with_new m r) es qs other) (sym same) two.1) in
    (ap₂ (λ r rs. r ∷ rs) same rest.0, rest.1)

-- an instance that was placed had a place
placed-place : (rule : Rule) (m : Layout) (e : Extent) (p : Place) → IsPlaceBy rule m e p → HasNoPlaceBy rule m e → ⊥
placed-place at_lowest m e p is none = none p.address is.lowest.room
placed-place (at_given []) m e p is none = is
placed-place (at_given (a ∷ addresses)) m e p is none = none (subst (IsRoom m e.size e.alignment) is.1 is.0.room)

placed-room : (rule : Rule) (m : Layout) (es : List Extent) (ps : List Place) (after : Layout) → ArePlacedBy rule m es ps after → LackPlaceBy rule m es → ⊥
placed-room rule m [] ps after placed lack = lack
placed-room rule m (e ∷ es) [] after placed lack = placed
placed-room rule m (e ∷ es) (p ∷ ps) after placed (inl none) = placed-place rule m e p placed.0 none
placed-room rule m (e ∷ es) (p ∷ ps) after placed (inr later) =
    placed-room (rule_after rule 1) (with_new m p) es ps after placed.1 (subst (λ r. LackPlaceBy (rule_after rule 1) (with_new m r) es) (place-same rule m e later.0 p later.1 placed.0) later.2)

all-room : (rule : Rule) (pairs : List Pair) (m : Layout) (fs : List Present) (after : Layout) (name : List ℕ) → AllPlacedBy rule pairs m fs after → LacksPlaceBy rule pairs m (positions fs) name → ⊥
all-room rule pairs m [] after name placed lacks = lacks
all-room rule pairs m (f ∷ fs) after name placed (inl here) = placed-room rule m (extents_in pairs f.position) f.places placed.0 placed.1 here.0
all-room rule pairs m (f ∷ fs) after name placed (inr later) =
    let same = placed-same rule m (extents_in pairs f.position) later.0 f.places later.1 placed.0 later.2 placed.1 in
    let rest = subst (λ mid. LacksPlaceBy (rule_after rule (length later.0)) pairs mid (positions fs) name) same.1 later.3 in
    all-room (rule_after rule (length f.places)) pairs placed.0 fs after name placed.2 (subst (λ (ps : List Place). LacksPlaceBy (rule_after rule (length ps)) pairs placed.0 (positions fs) name) same.0 rest)

-- fragments have one list of places
all-same : (rule : Rule) (pairs : List Pair) (m : Layout) (fs gs : List Present) (after other : Layout) → AllPlacedBy rule pairs m fs after → AllPlacedBy rule pairs m gs other → positions fs ≡ positions gs → fs ≡ gs
all-same rule pairs m [] [] after other one two same = refl
all-same rule pairs m [] (g ∷ gs) after other one two same = absurd (cc)
all-same rule pairs m (f ∷ fs) [] after other one two same = absurd (cc)
all-same rule pairs m (f ∷ fs) (g ∷ gs) after other one two same =
    let here : f.position ≡ g.position = cc in
    let later : positions fs ≡ positions gs = cc in
    let both = placed-same rule m (extents_in pairs f.position) f.places g.places one.0 two.0 one.1 (subst (λ p. ArePlacedBy rule m (extents_in pairs p) g.places two.0) (sym here) two.1) in
    let next = subst (λ (ps : List Place). AllPlacedBy (rule_after rule (length ps)) pairs two.0 gs other) (sym both.0) two.2 in
    let rest = all-same (rule_after rule (length f.places)) pairs one.0 fs gs after other one.2 (subst (λ mid. AllPlacedBy (rule_after rule (length f.places)) pairs mid gs other) (sym both.1) next) later in
    ap₂ (λ (x : Present) (xs : List Present). x ∷ xs) (ap₂ (λ (p : ℕ) (places : List Place). record { position = p; places = places }) here both.0) rest

-- if no fragment is refused, each one isn't
image-at : (pairs : List Pair) (fs : List Present) (p k : ℕ) → first_bad_image pairs fs ≡ None → k < length (positions fs) → slice_index_or (positions fs) k p ≡ p → image_refusal_in pairs p ≡ None
image-at pairs [] p k is low at = absurd (omega (arith, low))
image-at pairs (f ∷ fs) p k is low at = by k (image_refusal_in pairs f.position) refl is low at (λ j. image-at pairs fs p j)
  where
    by : (k : ℕ) (o : Option ImageFault) → image_refusal_in pairs f.position ≡ o → option_or (named pairs f.position o) (first_bad_image pairs fs) ≡ None → k < length (positions (f ∷ fs)) → slice_index_or (positions (f ∷ fs)) k p ≡ p
        → ((j : ℕ) → first_bad_image pairs fs ≡ None → j < length (positions fs) → slice_index_or (positions fs) j p ≡ p → image_refusal_in pairs p ≡ None) → image_refusal_in pairs p ≡ None
    by k (Some e) was is low at later = absurd (cc)
    by zero None was is low at later = subst (λ q. image_refusal_in pairs q ≡ None) at was
    by (suc k) None was is low at later = later k is (omega (arith, low)) at

header-at : (pairs : List Pair) (all fs : List Present) (g : Present) (k : ℕ) → first_bad_program pairs all fs ≡ None → k < length fs → slice_index_or fs k g ≡ g → reloc_refusal_in pairs (addresses_of pairs all g) g.position ≡ None
header-at pairs all [] g k is low at = absurd (omega (arith, low))
header-at pairs all (f ∷ fs) g k is low at = by k (reloc_refusal_in pairs (addresses_of pairs all f) f.position) refl is low at (λ j. header-at pairs all fs g j)
  where
    by : (k : ℕ) (o : Option ProgramFault) → reloc_refusal_in pairs (addresses_of pairs all f) f.position ≡ o → option_or (named pairs f.position o) (first_bad_program pairs all fs) ≡ None → k < length (f ∷ fs) → slice_index_or (f ∷ fs) k g ≡ g
        → ((j : ℕ) → first_bad_program pairs all fs ≡ None → j < length fs → slice_index_or fs j g ≡ g → reloc_refusal_in pairs (addresses_of pairs all g) g.position ≡ None) → reloc_refusal_in pairs (addresses_of pairs all g) g.position ≡ None
    by k (Some e) was is low at later = absurd (cc)
    by zero None was is low at later = subst (λ (h : Present). reloc_refusal_in pairs (addresses_of pairs all h) h.position ≡ None) at was
    by (suc k) None was is low at later = later k is (omega (arith, low)) at

-- the conditions of a preparation that gave a connection
pub conditions-met : (rule : Rule) (s t : ContextState) (name : List ℕ) (number : ℕ) → PreparesBy rule s name number t → (resolve : LibrariesResolve s name) × SectionsFindPlaces rule s resolve.closed × OthersAreSoundBy rule s resolve.closed
conditions-met rule s t name number step =
    let closed = step.closure.closed in
    let new = new_of s closed in
    let are = step.prepared.are in (
      record { root = step.closure.has.root; is = step.closure.has.is; closed = closed; closure = step.closure.is },
      record {
        left = step.closure.has.left;
        within = step.within;
        counted = step.counted;
        room = λ other lacks. all-room rule s.pairs s.memory step.fresh are.empty other are.placed (subst (λ ps. LacksPlaceBy rule s.pairs s.memory ps other) (sym are.are) lacks);
      },
      record {
        images = λ p there foreign. (let at : Contains (positions step.fresh) p = subst (λ ps. Contains ps p) (sym are.are) there in image-at s.pairs step.fresh p at.0 step.prepared.filled at.1 at.2);
        headers = λ fresh f placed there foreign.
            (let same : step.fresh ≡ fresh = all-same rule s.pairs s.memory step.fresh fresh are.empty placed.empty are.placed placed.placed (are.are ∙ sym placed.are) in
            let none : first_bad_program s.pairs (s.present ++ fresh) fresh ≡ None = subst (λ fs. first_bad_program s.pairs (s.present ++ fs) fs ≡ None) same step.prepared.relocated in
            header-at s.pairs (s.present ++ fresh) fresh f there.0 none there.1 there.2);
      },
    )
