-- A refusal of an image or of a relocation header among some fragments is one of a fragment with the name that is reported.
use Rattle.std.proofs.Common.{◌≡◌, ℕ, List, [], ◌∷◌, Option, None, Some, Contains, length, refl, sym, ap, arith}
use Rattle.std.specs.Option.{option_or}
use Rattle.cfm_store.specs.Stores.{Pair, pair_of}
use Rattle.cfm_memory.specs.Extents.{ArePlacedBy, Rule, rule_after}
use Rattle.cfm_memory.specs.Instances.{Layout}
use Rattle.pef_loader.specs.declared.program_fault.ProgramFault.{ProgramFault}
use Rattle.cfm_prepare.specs.Addresses.{addresses_of, first_bad_program}
use Rattle.cfm_prepare.specs.Fragments.{Present, extents_in, first_bad_image, image_refusal_in, named, positions, reloc_refusal_in}
use Rattle.cfm_prepare.specs.Placing.{AllPlacedBy}
use Rattle.cfm_sections.specs.declared.image_fault.ImageFault.{ImageFault}
use Rattle.cfm_prepare.proofs.ListLemmas.{contains-next}

-- the name of a refusal
abbrev named-by : {F : Type 0} → List ℕ → Option (List ℕ × F) → List ℕ
named-by name None = name
named-by name (Some refusal) = refusal.0

told : {F : Type 0} (name here : List ℕ) (k e : F) → ◌≡◌ {A = Option (List ℕ × F)} (Some (here, e)) (Some (name, k)) → name ≡ here
told name here k e same = sym (ap (named-by name) same)

-- among some fragments one with a name has an image that is refused
pub record HasRefusedImage (pairs : List Pair) (ps : List ℕ) (name : List ℕ) : Type 0 where
  pub position : ℕ
  pub member : Contains ps position
  pub is : name ≡ (pair_of pairs position).name
  pub fault : ImageFault
  pub refused : image_refusal_in pairs position ≡ Some fault

pub bad-image : (pairs : List Pair) (fs : List Present) (name : List ℕ) (k : ImageFault) → first_bad_image pairs fs ≡ Some (name, k) → HasRefusedImage pairs (positions fs) name
bad-image pairs [] name k is = absurd (cc)
bad-image pairs (f ∷ fs) name k is = by (image_refusal_in pairs f.position) refl is (bad-image pairs fs name k)
  where
    by : (o : Option ImageFault) → image_refusal_in pairs f.position ≡ o → option_or (named pairs f.position o) (first_bad_image pairs fs) ≡ Some (name, k) → (first_bad_image pairs fs ≡ Some (name, k) → HasRefusedImage pairs (positions fs) name)
        → HasRefusedImage pairs (positions (f ∷ fs)) name
    by None was is later =
        let one = later is in
        record { position = one.position; member = contains-next f.position one.position (positions fs) one.member; is = one.is; fault = one.fault; refused = one.refused }
    by (Some e) was is later = record { position = f.position; member = (0, omega arith, refl); is = told name (pair_of pairs f.position).name k e is; fault = e; refused = was }

-- among some fragments one with a name, which was placed, has a relocation header that is refused
pub record HasRefusedHeader (pairs : List Pair) (all fs : List Present) (name : List ℕ) : Type 0 where
  pub one : Present
  pub member : Contains fs one
  pub position : Contains (positions fs) one.position
  pub is : name ≡ (pair_of pairs one.position).name
  pub rule : Rule
  pub before : Layout
  pub after : Layout
  pub placed : ArePlacedBy rule before (extents_in pairs one.position) one.places after
  pub fault : ProgramFault
  pub refused : reloc_refusal_in pairs (addresses_of pairs all one) one.position ≡ Some fault

pub bad-program : (rule : Rule) (pairs : List Pair) (all : List Present) (m after : Layout) (fs : List Present) (name : List ℕ) (k : ProgramFault) → AllPlacedBy rule pairs m fs after → first_bad_program pairs all fs ≡ Some (name, k) → HasRefusedHeader pairs all fs name
bad-program rule pairs all m after [] name k placed is = absurd (cc)
bad-program rule pairs all m after (f ∷ fs) name k placed is = by (reloc_refusal_in pairs (addresses_of pairs all f) f.position) refl is (bad-program (rule_after rule (length f.places)) pairs all placed.0 after fs name k placed.2)
  where
    by : (o : Option ProgramFault) → reloc_refusal_in pairs (addresses_of pairs all f) f.position ≡ o → option_or (named pairs f.position o) (first_bad_program pairs all fs) ≡ Some (name, k)
        → (first_bad_program pairs all fs ≡ Some (name, k) → HasRefusedHeader pairs all fs name) → HasRefusedHeader pairs all (f ∷ fs) name
    by None was is later =
        let r = later is in
        record {
          one = r.one;
          member = contains-next f r.one fs r.member;
          position = contains-next f.position r.one.position (positions fs) r.position;
          is = r.is;
          rule = r.rule;
          before = r.before;
          after = r.after;
          placed = r.placed;
          fault = r.fault;
          refused = r.refused;
        }
    by (Some e) was is later = record {
      one = f;
      member = (0, omega arith, refl);
      position = (0, omega arith, refl);
      is = told name (pair_of pairs f.position).name k e is;
      rule = rule;
      before = m;
      after = placed.0;
      placed = placed.1;
      fault = e;
      refused = was;
    }
