-- A memory after some instances are removed, whatever was written to them.
use Rattle.std.proofs.Common.{◌<◌, ◌==◌, ◌∙◌, ◌∷◌, ◌≡◌, ◌≢◌, IsTrue, List, [], ap, arith, inl, inr, length, refl, suc, sym, zero, ℕ}
use Rattle.std.proofs.lemmas.Bool.Decides.{eqb_tells, leb_tells}
use Rattle.cfm_memory.specs.Extents.{ArePlacedBy, Extent, Rule, given_back, place_at, rule_after, with_one}
use Rattle.cfm_memory.specs.Instances.{Instance, Layout, bytes_at, has_length, holds_place, with_bytes, with_instance, with_instances, without}
use Rattle.cfm_memory.specs.Placement.{with_new}
use Rattle.cfm_memory.specs.declared.place.Place.{Place}
use Rattle.cfm_memory.proofs.Changes.{length-fitted}
use Rattle.cfm_memory.proofs.Contents.{given_back_other}
use Rattle.std.proofs.Common.{replicate}

-- a new instance that is removed leaves the earlier instances
pub without_new : (xs : List Instance) (y : Instance) → without (with_instance xs y) y.address ≡ xs
without_new [] y = elim (eqb_tells y.address y.address) [ inl same ↦ rw same.0 refl | inr other ↦ absurd (other.1 refl) ]
without_new (x ∷ xs) y =
    elim (leb_tells (suc x.address) y.address) [
      | inl below ↦ rw below.0 (elim (eqb_tells x.address y.address) [
        | inl same ↦ absurd (omega (arith, same.1, below.1))
        | inr other ↦ rw other.0 (ap (λ ys. x ∷ ys) (without_new xs y))
      ])
      | inr above ↦ rw above.0 (elim (eqb_tells y.address y.address) [ inl same ↦ rw same.0 refl | inr other ↦ absurd (other.1 refl) ])
    ]

pub one_given_back : (m : Layout) (p : Place) (bytes : List ℕ) → with_instances (with_one m p bytes) (without (with_one m p bytes).instances p.address) ≡ m
one_given_back m p bytes = ap (with_instances m) (without_new m.instances (record { address = p.address; bytes = bytes }))

-- two instances may be removed in either order
without_both : (xs : List Instance) (a b : ℕ) → without (without xs a) b ≡ without (without xs b) a
without_both [] a b = refl
without_both (x ∷ xs) a b =
    elim (eqb_tells x.address a) [
      | inl here ↦ elim (eqb_tells x.address b) [
        | inl both ↦ rw (here.0, both.0) (ap (without xs) (sym both.1 ∙ here.1))
        | inr one ↦ rw (here.0, one.0) (rw here.0 refl)
      ]
      | inr apart ↦ elim (eqb_tells x.address b) [
        | inl one ↦ rw (apart.0, one.0) refl
        | inr none ↦ rw (apart.0, none.0) (rw apart.0 (ap (λ ys. x ∷ ys) (without_both xs a b)))
      ]
    ]

pub given_back_without : (m : Layout) (a : ℕ) (places : List Place) → given_back (with_instances m (without m.instances a)) places ≡ with_instances (given_back m places) (without (given_back m places).instances a)
given_back_without m a [] = refl
given_back_without m a (p ∷ places) =
    ap (λ ys. given_back (with_instances m ys) places) (without_both m.instances a p.address)
    ∙ given_back_without (with_instances m (without m.instances p.address)) a places

-- new instances that are removed leave the earlier instances
pub placed_given_back : (rule : Rule) (m : Layout) (extents : List Extent) (places : List Place) (after : Layout) → ArePlacedBy rule m extents places after → given_back after places ≡ m
placed_given_back rule m [] [] after placed = placed
placed_given_back rule m [] (p ∷ places) after placed = absurd placed
placed_given_back rule m (e ∷ extents) [] after placed = absurd placed
placed_given_back rule m (e ∷ extents) (p ∷ places) after placed =
    given_back_without after p.address places
    ∙ ap (λ (k : Layout). with_instances k (without k.instances p.address)) (placed_given_back (rule_after rule 1) (with_new m p) extents places after placed.1)
    ∙ one_given_back m p (replicate p.size 0)

-- bytes written to an instance are removed with it
without_written : (xs : List Instance) (address : ℕ) (w : List ℕ) → without (with_bytes xs address w) address ≡ without xs address
without_written [] address w = refl
without_written (x ∷ xs) address w =
    elim (eqb_tells x.address address) [
      | inl same ↦ rw same.0 (rw same.0 refl)
      | inr other ↦ rw other.0 (rw other.0 (ap (λ ys. x ∷ ys) (without_written xs address w)))
    ]

-- and stay when another one is removed
without_other : (xs : List Instance) (address gone : ℕ) (w : List ℕ) → address ≢ gone → without (with_bytes xs address w) gone ≡ with_bytes (without xs gone) address w
without_other [] address gone w apart = refl
without_other (x ∷ xs) address gone w apart =
    elim (eqb_tells x.address address) [
      | inl same ↦ elim (eqb_tells x.address gone) [
        | inl both ↦ absurd (apart (sym same.1 ∙ both.1))
        | inr one ↦ rw (same.0, one.0) (rw same.0 refl)
      ]
      | inr other ↦ elim (eqb_tells x.address gone) [
        | inl one ↦ rw (other.0, one.0) refl
        | inr none ↦ rw (other.0, none.0) (rw other.0 (ap (λ ys. x ∷ ys) (without_other xs address gone w apart)))
      ]
    ]

-- bytes written to one of some instances are gone when these are removed
pub written_given_back : (m : Layout) (address : ℕ) (w : List ℕ) (places : List Place) (k : ℕ) → k < length places → (place_at places k).address ≡ address
    → given_back (with_instances m (with_bytes m.instances address w)) places ≡ given_back m places
written_given_back m address w [] k under is = absurd (omega arith)
written_given_back m address w (p ∷ places) k under is =
    elim (eqb_tells address p.address) [
      | inl same ↦ ap (λ ys. given_back (with_instances m ys) places)
          (ap (without (with_bytes m.instances address w)) (sym same.1) ∙ without_written m.instances address w ∙ ap (without m.instances) same.1)
      | inr other ↦ ap (λ ys. given_back (with_instances m ys) places) (without_other m.instances address p.address w other.1)
          ∙ later k under is other.1 (λ j under is. written_given_back (with_instances m (without m.instances p.address)) address w places j under is)
    ]
  where
    later : (k : ℕ) → k < suc (length places) → (place_at (p ∷ places) k).address ≡ address → address ≢ p.address
        → ((j : ℕ) → j < length places → (place_at places j).address ≡ address → given_back (with_instances m (with_bytes (without m.instances p.address) address w)) places ≡ given_back (with_instances m (without m.instances p.address)) places)
        → given_back (with_instances m (with_bytes (without m.instances p.address) address w)) places ≡ given_back (with_instances m (without m.instances p.address)) places
    later zero under is apart others = absurd (apart (sym is))
    later (suc j) under is apart others = others j (omega arith) is

-- all other instances keep their bytes
pub given_back_elsewhere : (m : Layout) (places : List Place) (address : ℕ) → ((k : ℕ) → k < length places → (place_at places k).address ≢ address)
    → bytes_at (given_back m places).instances address ≡ bytes_at m.instances address
given_back_elsewhere m [] address apart = refl
given_back_elsewhere m (p ∷ places) address apart =
    given_back_elsewhere (with_instances m (without m.instances p.address)) places address (λ k under. apart (suc k) (omega arith))
    ∙ given_back_other m.instances p.address address (apart 0 (omega arith))

-- so an instance is held after another one is removed
pub held_elsewhere : (m : Layout) (gone : ℕ) (p : Place) → gone ≢ p.address → IsTrue (holds_place m p) → IsTrue (holds_place (with_instances m (without m.instances gone)) p)
held_elsewhere m gone p apart held = rw (given_back_other m.instances gone p.address apart) held

-- a write to an instance doesn't change lengths, so each instance that was held is held
pub written_holds : (xs : List Instance) (address other size : ℕ) (w : List ℕ) → has_length (bytes_at (with_bytes xs address w) other) size ≡ has_length (bytes_at xs other) size
written_holds [] address other size w = refl
written_holds (x ∷ xs) address other size w =
    elim (eqb_tells x.address address) [
      | inl same ↦ rw same.0 (elim (eqb_tells x.address other) [ inl here ↦ rw here.0 (ap (λ n. n == size) (length-fitted x.bytes w)) | inr there ↦ rw there.0 refl ])
      | inr apart ↦ rw apart.0 (elim (eqb_tells x.address other) [ inl here ↦ rw here.0 refl | inr there ↦ rw there.0 (written_holds xs address other size w) ])
    ]
