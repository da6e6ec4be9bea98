-- Fragments in memory: the memory after they are released, and the effect of a change of one on the others.
use Rattle.std.proofs.Common.{◌≡◌, ◌≢◌, ℕ, zero, suc, ◌<◌, List, [], ◌∷◌, length, refl, sym, ap, subst, ◌∙◌, IsTrue, arith}
use Rattle.std.proofs.lemmas.List.{get_or_default}
use Rattle.cfm_memory.specs.Extents.{AreHeld, Stand, given_back, place_at}
use Rattle.cfm_memory.specs.Instances.{Layout, bytes_at, holds_place, with_instances, without}
use Rattle.cfm_memory.specs.declared.place.Place.{Place}
use Rattle.cfm_memory.proofs.Laws.{given_back_elsewhere, given_back_without}
use Rattle.cfm_prepare.specs.Fragments.{Present, all_given_back, present_at}

-- the value for a place, and for a fragment, past the last one
abbrev pub nowhere : Place
nowhere = record { address = 0; size = 0 }

abbrev pub no_fragment : Present
no_fragment = record { position = 0; places = [] }

-- nor which of two fragments
pub given-swap : (m : Layout) (ps qs : List Place) → given_back (given_back m ps) qs ≡ given_back (given_back m qs) ps
given-swap m [] qs = refl
given-swap m (p ∷ ps) qs =
    given-swap (with_instances m (without m.instances p.address)) ps qs ∙ ap (λ (k : Layout). given_back k ps) (given_back_without m p.address qs)

pub all-swap : (m : Layout) (fs : List Present) (ps : List Place) → all_given_back (given_back m ps) fs ≡ given_back (all_given_back m fs) ps
all-swap m [] ps = refl
all-swap m (f ∷ fs) ps = ap (λ (k : Layout). all_given_back k fs) (given-swap m ps f.places) ∙ all-swap (given_back m f.places) fs ps

-- a change of one fragment's sections is gone after all are released
pub all-one : (m after : Layout) (fs : List Present) (i : ℕ) → i < length fs → given_back after (present_at fs i).places ≡ given_back m (present_at fs i).places → all_given_back after fs ≡ all_given_back m fs
all-one m after [] i under same = absurd (omega arith)
all-one m after (f ∷ fs) zero under same = ap (λ (k : Layout). all_given_back k fs) same
all-one m after (f ∷ fs) (suc i) under same =
    all-one (given_back m f.places) (given_back after f.places) fs i (omega arith)
    (given-swap after f.places (present_at fs i).places ∙ ap (λ (k : Layout). given_back k f.places) same ∙ given-swap m (present_at fs i).places f.places)

-- all other instances keep their bytes
pub all-elsewhere : (m : Layout) (fs : List Present) (address : ℕ) → ((i k : ℕ) → i < length fs → k < length (present_at fs i).places → (place_at (present_at fs i).places k).address ≢ address)
    → bytes_at (all_given_back m fs).instances address ≡ bytes_at m.instances address
all-elsewhere m [] address apart = refl
all-elsewhere m (f ∷ fs) address apart =
    all-elsewhere (given_back m f.places) fs address (λ i k under there. apart (suc i) k (omega arith) there)
    ∙ given_back_elsewhere m f.places address (λ k under. apart 0 k (omega arith) under)

-- the same for a change of one fragment's sections
pub other_same : (m after : Layout) (ps : List Place) (address : ℕ) → given_back after ps ≡ given_back m ps → ((k : ℕ) → k < length ps → (place_at ps k).address ≢ address)
    → bytes_at after.instances address ≡ bytes_at m.instances address
other_same m after ps address same apart =
    sym (given_back_elsewhere after ps address apart) ∙ ap (λ (k : Layout). bytes_at k.instances address) same ∙ given_back_elsewhere m ps address apart

pub stand_other : (m after : Layout) (ps qs : List Place) (bytes : ℕ → List ℕ) → given_back after ps ≡ given_back m ps
    → ((a b : ℕ) → a < length ps → b < length qs → (place_at ps a).address ≢ (place_at qs b).address) → Stand m qs bytes → Stand after qs bytes
stand_other m after ps qs bytes same apart stand k under = other_same m after ps (place_at qs k).address same (λ a low. apart a k low under) ∙ stand k under

-- an instance that is held at an address is held wherever the bytes there are the same
pub held_same : (m after : Layout) (qs : List Place) → ((k : ℕ) → k < length qs → bytes_at after.instances (place_at qs k).address ≡ bytes_at m.instances (place_at qs k).address) → AreHeld m qs → AreHeld after qs
held_same m after qs same held k d under =
    let P : Place → Type 0 = λ p. IsTrue (holds_place after p) in
    subst P (get_or_default qs k nowhere d under) (rw (same k under) (held k nowhere under))

pub held_other : (m after : Layout) (ps qs : List Place) → given_back after ps ≡ given_back m ps
    → ((a b : ℕ) → a < length ps → b < length qs → (place_at ps a).address ≢ (place_at qs b).address) → AreHeld m qs → AreHeld after qs
held_other m after ps qs same apart held = held_same m after qs (λ k under. other_same m after ps (place_at qs k).address same (λ a low. apart a k low under)) held

-- no section of one fragment has the address of one of the other
abbrev pub ArePairApart : Present → Present → Type 0
ArePairApart f g = (a b : ℕ) → a < length f.places → b < length g.places → (place_at f.places a).address ≢ (place_at g.places b).address

pub turned : (f g : Present) → ArePairApart f g → ArePairApart g f
turned f g apart a b low less same = apart b a less low (sym same)
