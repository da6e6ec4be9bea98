-- New fragments that have places and aren't refused can be prepared: there is the memory that they leave.
use Rattle.std.proofs.Common.{◌≡◌, ◌⊎◌, ℕ, ◌+◌, List, [], ◌∷◌, ◌++◌, Option, None, Some, length, refl, ap, inl, inr}
use Rattle.cfm_memory.specs.Extents.{ArePlacedBy, LackPlaceBy, Rule, rule_after}
use Rattle.cfm_memory.specs.Instances.{Layout}
use Rattle.cfm_memory.specs.declared.place.Place.{Place}
use Rattle.cfm_memory.proofs.Laws.{extents-found}
use Rattle.cfm_store.specs.Stores.{Pair, pair_of}
use Rattle.cfm_sections.specs.declared.image_fault.ImageFault.{ImageFault}
use Rattle.pef_loader.specs.declared.program_fault.ProgramFault.{ProgramFault}
use Rattle.cfm_prepare.specs.Addresses.{first_bad_program, section_of}
use Rattle.cfm_prepare.specs.Contexts.{ContextState, opened}
use Rattle.cfm_prepare.specs.Fragments.{Present, extents_in, first_bad_image, positions}
use Rattle.cfm_prepare.specs.Placing.{AllPlacedBy, AreNewBy, ArePreparedBy, IsRuleFor, LacksPlaceBy}
use Rattle.cfm_prepare.specs.Refusals.{HasBadImageBy, HasBadProgramBy}
use Rattle.cfm_prepare.specs.Steps.{HasClosure, IsWithin, PreparesBy, new_of}
use Rattle.cfm_prepare.specs.Kept.Begun.{all_filled}
use Rattle.cfm_prepare.proofs.FilledLemmas.{filled-back, filled-stand}
use Rattle.cfm_prepare.proofs.PlacedLemmas.{placed-apart, placed-own}

-- fragments with some positions have places in turn
record HavePlaces (rule : Rule) (pairs : List Pair) (m : Layout) (new : List ℕ) : Type 0 where
  fresh : List Present
  are : positions fresh ≡ new
  after : Layout
  placed : AllPlacedBy rule pairs m fresh after

-- they have, or one has none after those before it
places-found : (rule : Rule) (pairs : List Pair) (m : Layout) (new : List ℕ) → HavePlaces rule pairs m new ⊎ ((name : List ℕ) × LacksPlaceBy rule pairs m new name)
places-found rule pairs m [] = inl (record { fresh = []; are = refl; after = m; placed = refl })
places-found rule pairs m (p ∷ ps) = first (extents-found rule m (extents_in pairs p)) (λ places mid. places-found (rule_after rule (length places)) pairs mid ps)
  where
    next : (places : List Place) (mid : Layout) → ArePlacedBy rule m (extents_in pairs p) places mid → HavePlaces (rule_after rule (length places)) pairs mid ps ⊎ ((name : List ℕ) × LacksPlaceBy (rule_after rule (length places)) pairs mid ps name)
        → HavePlaces rule pairs m (p ∷ ps) ⊎ ((name : List ℕ) × LacksPlaceBy rule pairs m (p ∷ ps) name)
    next places mid placed (inl found) = inl (record {
      fresh = (record { position = p; places = places }) ∷ found.fresh;
      are = ap (λ qs. p ∷ qs) found.are;
      after = found.after;
      placed = (mid, placed, found.placed);
    })
    next places mid placed (inr lacks) = inr (lacks.0, inr (places, mid, placed, lacks.1))

    first : ((places : List Place) × (mid : Layout) × ArePlacedBy rule m (extents_in pairs p) places mid) ⊎ LackPlaceBy rule m (extents_in pairs p)
        → ((places : List Place) (mid : Layout) → HavePlaces (rule_after rule (length places)) pairs mid ps ⊎ ((name : List ℕ) × LacksPlaceBy (rule_after rule (length places)) pairs mid ps name))
        → HavePlaces rule pairs m (p ∷ ps) ⊎ ((name : List ℕ) × LacksPlaceBy rule pairs m (p ∷ ps) name)
    first (inl here) later = next here.0 here.1 here.2 (later here.0 here.1)
    first (inr lack) later = inr ((pair_of pairs p).name, inl (lack, refl))

no-refusal : {F : Type 0} (o : Option (List ℕ × F)) → ((name : List ℕ) (k : F) → o ≡ Some (name, k) → ⊥) → o ≡ None
no-refusal None none = refl
no-refusal (Some refusal) none = absurd (none refusal.0 refusal.1 refl)

-- new fragments that have places and aren't refused are prepared in some memory
new-prepared : (rule : Rule) (pairs : List Pair) (there : List Present) (m : Layout) (new : List ℕ) → ((name : List ℕ) → LacksPlaceBy rule pairs m new name → ⊥) → ((name : List ℕ) (k : ImageFault) → HasBadImageBy rule pairs m new name k → ⊥)
    → ((name : List ℕ) (k : ProgramFault) → HasBadProgramBy rule pairs there m new name k → ⊥) → (fresh : List Present) × (after : Layout) × ArePreparedBy rule pairs there m new fresh after
new-prepared rule pairs there m new room image program = by (places-found rule pairs m new)
  where
    go : (found : HavePlaces rule pairs m new) → first_bad_image pairs found.fresh ≡ None → (fresh : List Present) × (after : Layout) × ArePreparedBy rule pairs there m new fresh after
    go found filled =
        let fresh = found.fresh in
        let are : AreNewBy rule pairs m new fresh = record { are = found.are; empty = found.after; placed = found.placed } in
        let bytes = section_of pairs (there ++ fresh) in (
          fresh,
          all_filled m fresh bytes,
          record {
            are = are;
            others = filled-back m fresh bytes;
            filled = filled;
            relocated = no-refusal (first_bad_program pairs (there ++ fresh) fresh) (λ name k is. program name k (record { fresh = fresh; are = are; filled = filled; first = is }));
            stand = filled-stand m fresh bytes (placed-own rule pairs m fresh found.after found.placed) (placed-apart rule pairs m fresh found.after found.placed);
          },
        )

    by : HavePlaces rule pairs m new ⊎ ((name : List ℕ) × LacksPlaceBy rule pairs m new name) → (fresh : List Present) × (after : Layout) × ArePreparedBy rule pairs there m new fresh after
    by (inl found) = go found (no-refusal (first_bad_image pairs found.fresh)
        (λ name k is. image name k (record { fresh = found.fresh; are = record { are = found.are; empty = found.after; placed = found.placed }; first = is })))
    by (inr lacks) = absurd (room lacks.0 lacks.1)

-- so there is a state that a preparation gives
pub prepares-to : (rule : Rule) (s : ContextState) (name : List ℕ) (closure : HasClosure s name) → IsWithin s (new_of s closure.closed) → IsRuleFor rule s.pairs (new_of s closure.closed)
    → ((other : List ℕ) → LacksPlaceBy rule s.pairs s.memory (new_of s closure.closed) other → ⊥) → ((other : List ℕ) (k : ImageFault) → HasBadImageBy rule s.pairs s.memory (new_of s closure.closed) other k → ⊥)
    → ((other : List ℕ) (k : ProgramFault) → HasBadProgramBy rule s.pairs s.present s.memory (new_of s closure.closed) other k → ⊥) → (t : ContextState) × PreparesBy rule s name s.given t
prepares-to rule s name closure within counted room image program =
    let done = new-prepared rule s.pairs s.present s.memory (new_of s closure.closed) room image program in (
      record {
        bounds = s.bounds;
        pairs = s.pairs;
        memory = done.1;
        given = s.given + 1;
        connections = s.connections ++ opened s closure.has.root closure.closed ∷ [];
        present = s.present ++ done.0;
      },
      record {
        closure = closure;
        within = within;
        counted = counted;
        fresh = done.0;
        prepared = done.2;
        number = refl;
        bounds = refl;
        pairs = refl;
        given = refl;
        connections = refl;
        present = refl;
      },
    )
