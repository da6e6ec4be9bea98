-- The sections of new fragments, one after another.
use Rattle.std.proofs.Common.{◌≡◌, ℕ, zero, suc, ◌+◌, ◌-◌, ◌<◌, List, [], ◌∷◌, ◌++◌, Option, None, Some, length, refl, sym, ap, ap₂, ◌∙◌, arith}
use Rattle.std.specs.Option.{option_map_or}
use Rattle.std.proofs.lemmas.List.{length-append}
use Rattle.cfm_memory.specs.Placement.{step_of, taken}
use Rattle.pef_views.specs.Container.{Contained, Section, section_of}
use Rattle.cfm_closure.specs.Fragments.{container_at}
use Rattle.cfm_store.specs.Stores.{Pair}
use Rattle.cfm_sections.specs.Images.{extent_in, extents_of}
use Rattle.cfm_prepare.specs.NewSections.{container_sections, new_section, new_sections_of, sections_from}
use Rattle.cfm_prepare.specs.Placing.{section_total}
use Rattle.cfm_prepare.specs.declared.new_sections.NewSection.{NewSection}
use Rattle.cfm_sections.proofs.Laws.{length-extents}
use Rattle.cfm_prepare.proofs.PlacingLemmas.{append-assoc}

-- a section with its header
pub section-is : (g p : ℕ) (c : Contained) (i size alignment : ℕ) (s : Section) → Some s ≡ section_of c i → size ≡ taken g s.header.total_size → alignment ≡ step_of g s.header.alignment
    → (record { fragment = p; section = i; size = size; alignment = alignment; section_kind = s.header.section_kind; share_kind = s.header.share_kind }) ≡ new_section g p c i
section-is g p c i size alignment s there takes steps =
    ap₂ (λ (a b : ℕ). record { fragment = p; section = i; size = a; alignment = b; section_kind = s.header.section_kind; share_kind = s.header.share_kind }) takes steps
    ∙ ap (λ (o : Option Section). record {
      fragment = p;
      section = i;
      size = taken g (option_map_or extent_in o (record { size = 0; alignment = 0 })).size;
      alignment = step_of g (option_map_or extent_in o (record { size = 0; alignment = 0 })).alignment;
      section_kind = option_map_or (λ (s : Section). s.header.section_kind) o 0;
      share_kind = option_map_or (λ (s : Section). s.header.share_kind) o 0;
    }) there

-- one section more of a container
pub sections-next : (g p : ℕ) (c : Contained) (i n : ℕ) (items next whole : List NewSection) → i < n → next ≡ items ++ new_section g p c i ∷ [] → items ++ sections_from g p c i (n - i) ≡ whole
    → next ++ sections_from g p c (i + 1) (n - (i + 1)) ≡ whole
sections-next g p c i n items next whole under is left =
    let more : n - i ≡ suc (n - (i + 1)) = omega (arith, under) in
    let rest = sections_from g p c (i + 1) (n - (i + 1)) in
    ap (λ xs. xs ++ rest) is ∙ append-assoc items (new_section g p c i ∷ []) rest ∙ ap (λ k. items ++ sections_from g p c i k) (sym more) ∙ left

-- one fragment more
pub fragments-next : (pairs : List Pair) (g p : ℕ) (c : Contained) (ps : List ℕ) (items next whole : List NewSection) → container_at pairs p ≡ Some c → next ≡ items ++ container_sections g p c → items ++ new_sections_of pairs g (p ∷ ps) ≡ whole
    → next ++ new_sections_of pairs g ps ≡ whole
fragments-next pairs g p c ps items next whole there is left =
    let rest = new_sections_of pairs g ps in
    ap (λ xs. xs ++ rest) is ∙ append-assoc items (container_sections g p c) rest ∙ ap (λ o. items ++ (option_map_or (container_sections g p) o [] ++ rest)) (sym there) ∙ left

length-from : (g p : ℕ) (c : Contained) (from n : ℕ) → length (sections_from g p c from n) ≡ n
length-from g p c from zero = refl
length-from g p c from (suc n) = ap suc (length-from g p c (from + 1) n)

length-one : (g p : ℕ) (o : Option Contained) → length (option_map_or (container_sections g p) o []) ≡ length (option_map_or extents_of o [])
length-one g p None = refl
length-one g p (Some c) = length-from g p c 0 c.header.instantiated_section_count ∙ sym (length-extents c 0 c.header.instantiated_section_count)

-- there are as many as extents
pub length-sections : (pairs : List Pair) (g : ℕ) (ps : List ℕ) → length (new_sections_of pairs g ps) ≡ section_total pairs ps
length-sections pairs g [] = refl
length-sections pairs g (p ∷ ps) =
    length-append (option_map_or (container_sections g p) (container_at pairs p) []) (new_sections_of pairs g ps)
    ∙ ap₂ (λ (a b : ℕ). a + b) (length-one g p (container_at pairs p)) (length-sections pairs g ps)
