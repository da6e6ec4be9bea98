-- One fragment of some is filled or relocated: the effect on the others.
use Rattle.std.proofs.Common.{◌≡◌, ◌≢◌, ℕ, ◌+◌, ◌<◌, ◌≤◌, List, ◌∷◌, None, length, drop, Option, Err, sym, ap, subst, ◌∙◌, inl, inr, arith}
use Rattle.std.specs.Option.{option_or}
use Rattle.std.proofs.lemmas.Bool.{cases_lt}
use Rattle.std.proofs.lemmas.Bool.Decides.{eqb_tells}
use Rattle.std.proofs.lemmas.List.{at_drop_more}
use Rattle.cfm_memory.specs.Extents.{AreHeld, Stand, given_back}
use Rattle.cfm_memory.specs.Instances.{Layout}
use Rattle.cfm_sections.specs.declared.image_fault.ImageFault.{ImageFault}
use Rattle.pef_loader.specs.declared.program_fault.ProgramFault.{ProgramFault}
use Rattle.cfm_prepare.specs.Fragments.{Present, present_at}
use Rattle.cfm_prepare.specs.Kept.Ready.{AllApart, AllHeld, ChangesAt, ChangesIn, FillsUpTo, RelocatesUpTo}
use Rattle.cfm_prepare.specs.declared.fragment_fault.FragmentFault.{FragmentFault}
use Rattle.cfm_prepare.specs.declared.fragment_fault.FragmentFault.TheVariants as fault
use Rattle.cfm_prepare.proofs.GroupLemmas.{all-one, held_other, no_fragment, stand_other}

-- another fragment's sections have what they had
stays : (m after : Layout) (fs : List Present) (i j : ℕ) (bytes : ℕ → List ℕ) → AllApart fs → i < length fs → j < length fs → i ≢ j
    → given_back after (present_at fs i).places ≡ given_back m (present_at fs i).places → Stand m (present_at fs j).places bytes → Stand after (present_at fs j).places bytes
stays m after fs i j bytes apart under high other same stand =
    stand_other m after (present_at fs i).places (present_at fs j).places bytes same (λ a b. apart i j a b under high other) stand

-- the first of some fragments have new bytes, and the others those that they had
pub record AreChanged (m after : Layout) (fs : List Present) (was now : Present → ℕ → List ℕ) (i : ℕ) : Type 0 where
  pub done : (j : ℕ) → j < i → Stand after (present_at fs j).places (now (present_at fs j))
  pub left : (j : ℕ) → i ≤ j → j < length fs → Stand after (present_at fs j).places (was (present_at fs j))
  pub changes : ChangesIn m fs after

-- all are held
held-next : (m after : Layout) (fs : List Present) (i : ℕ) → AllApart fs → i < length fs → given_back after (present_at fs i).places ≡ given_back m (present_at fs i).places
    → AreHeld after (present_at fs i).places → AllHeld m fs → AllHeld after fs
held-next m after fs i apart under same here held j high = elim (eqb_tells i j) [
  | inl is ↦ (let P : ℕ → Type 0 = λ k. AreHeld after (present_at fs k).places in subst P is.1 here)
  | inr other ↦ held_other m after (present_at fs i).places (present_at fs j).places same (λ a b. apart i j a b under high other.1) (held j high)
]

-- one fragment changed
pub changes-one : (m mid after : Layout) (fs : List Present) (i : ℕ) (f : Present) → AllApart fs → i < length fs → f ≡ present_at fs i → ChangesAt mid f.places after → ChangesIn m fs mid → ChangesIn m fs after
changes-one m mid after fs i f apart under is one before =
    let here : ChangesAt mid (present_at fs i).places after = subst (λ (g : Present). ChangesAt mid g.places after) is one in
    record {
      others = all-one mid after fs i under here.others ∙ before.others;
      held = λ was. held-next mid after fs i apart under here.others (here.held (before.held was i under)) (before.held was);
    }

-- and has new bytes
pub changed-next : (m mid after : Layout) (fs : List Present) (was now : Present → ℕ → List ℕ) (i : ℕ) (f : Present) → AllApart fs → i < length fs → f ≡ present_at fs i
    → ChangesAt mid f.places after → Stand after f.places (now f) → AreChanged m mid fs was now i → AreChanged m after fs was now (i + 1)
changed-next m mid after fs was now i f apart under is one stand before =
    let same : given_back after (present_at fs i).places ≡ given_back mid (present_at fs i).places = subst (λ (g : Present). given_back after g.places ≡ given_back mid g.places) is one.others in
    record {
      done = λ j low. elim (cases_lt j i) [
        | inl less ↦ stays mid after fs i j (now (present_at fs j)) apart under (omega (arith, less, under)) (λ e. absurd (omega (arith, e, less))) same (before.done j less)
        | inr le ↦ (
            let at : i ≡ j = omega (arith, le, low) in
            let P : ℕ → Type 0 = λ k. Stand after (present_at fs k).places (now (present_at fs k)) in
            subst P at (subst (λ (g : Present). Stand after g.places (now g)) is stand))
      ];
      left = λ j low high. stays mid after fs i j (was (present_at fs j)) apart under high (λ e. absurd (omega (arith, e, low))) same (before.left j (omega (arith, low)) high);
      changes = changes-one m mid after fs i f apart under is one before.changes;
    }

-- the refusal among those that are left, after one that isn't refused
pub first-next : {F : Type 0} (first : List Present → Option F) (refusal : Present → Option F) (fs : List Present) (i : ℕ) (f : Present) → ((g : Present) (gs : List Present) → first (g ∷ gs) ≡ option_or (refusal g) (first gs))
    → i < length fs → f ≡ present_at fs i → refusal f ≡ None → first (drop i fs) ≡ first fs → first (drop (i + 1) fs) ≡ first fs
first-next first refusal fs i f step under is unrefused left =
    sym (ap (λ o. option_or o (first (drop (i + 1) fs))) (ap refusal (sym is) ∙ unrefused)) ∙ sym (step (present_at fs i) (drop (i + 1) fs)) ∙ sym (at_drop_more first fs i no_fragment under) ∙ left

-- the first that is refused among those that are left is the first of all
pub first-here : {F : Type 0} (P : Option F → Type 0) (first : List Present → Option F) (refusal : Present → Option F) (fs : List Present) (i : ℕ) (f : Present) → ((g : Present) (gs : List Present) → first (g ∷ gs) ≡ option_or (refusal g) (first gs))
    → ((o rest : Option F) → P o → P (option_or o rest)) → i < length fs → f ≡ present_at fs i → P (refusal f) → first (drop i fs) ≡ first fs → P (first fs)
first-here P first refusal fs i f step or under is refused left =
    subst P (sym (step (present_at fs i) (drop (i + 1) fs)) ∙ sym (at_drop_more first fs i no_fragment under) ∙ left) (or (refusal (present_at fs i)) (first (drop (i + 1) fs)) (subst (λ (g : Present). P (refusal g)) is refused))

pub fills-first : (e : FragmentFault) (o rest : Option (List ℕ × ImageFault)) → FillsUpTo {A = Unit {0}} (Err e) o → FillsUpTo {A = Unit {0}} (Err e) (option_or o rest)
fills-first (fault.NoRoom f place) o rest refused = absurd refused
fills-first (fault.Pack f k place) o rest refused = ap (λ q. option_or q rest) refused
fills-first (fault.Reloc f k section place) o rest refused = absurd refused
fills-first fault.OutOfMemory o rest refused = absurd refused

pub relocates-first : (e : FragmentFault) (o rest : Option (List ℕ × ProgramFault)) → RelocatesUpTo {A = Unit {0}} (Err e) o → RelocatesUpTo {A = Unit {0}} (Err e) (option_or o rest)
relocates-first (fault.NoRoom f place) o rest refused = absurd refused
relocates-first (fault.Pack f k place) o rest refused = absurd refused
relocates-first (fault.Reloc f k section place) o rest refused = ap (λ q. option_or q rest) refused
relocates-first fault.OutOfMemory o rest refused = tt
