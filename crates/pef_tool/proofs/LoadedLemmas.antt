-- The text that is printed of a connection, piece by piece.
use Rattle.std.proofs.Common.{◌≡◌, ℕ, zero, suc, ◌+◌, ◌-◌, ◌<◌, ◌≤◌, List, [], ◌∷◌, ◌++◌, Option, None, Some, drop, get_or, length, option_map, slice_get, take, unwrap_or, refl, sym, ap, ap₂, ◌∙◌, append_assoc, arith}
use Rattle.std.specs.Option.{option_and_then}
use Rattle.std.proofs.lemmas.List.{append-nil, at_drop_more, drop_all, take_all, take_more}
use Rattle.cfm_memory.specs.Instances.{Layout, bytes_at}
use Rattle.cfm_memory.specs.declared.place.Place.{Place}
use Rattle.cfm_prepare.specs.Sections.{held_at}
use Rattle.cfm_prepare.specs.Contexts.{ContextState}
use Rattle.pef_tool.specs.Fragment.{PlacedSection, placed_section}
use Rattle.pef_tool.specs.Kept.Routines.{place_of, routine_text, routines_text}
use Rattle.pef_tool.specs.Loaded.{inits_text, term_text, terms_text}
use Rattle.pef_tool.specs.declared.loaded.Routine.{Routine}
use Rattle.pef_tool.specs.declared.loaded.Routine.TheVariants.{Init, Term}

abbrev placed : ℕ → List ℕ → PlacedSection
placed address bytes = record { address = address; bytes = bytes }

-- the contents of a section that is found, or nothing
abbrev known : Option (ℕ × List ℕ) → ℕ × List ℕ
known o = unwrap_or o (0, [])

held-one : (p : Place) (o : Option (List ℕ)) (address : ℕ) (bytes : List ℕ) → ◌≡◌ {A = Option (ℕ × List ℕ)} (Some (address, bytes)) (option_map (λ b. (p.address, b)) o) → placed p.address (unwrap_or o []) ≡ placed address bytes
held-one p None address bytes same = absurd (cc)
held-one p (Some b) address bytes same =
    let at : address ≡ p.address = ap (λ (x : Option (ℕ × List ℕ)). (known x).0) same in
    let held : bytes ≡ b = ap (λ (x : Option (ℕ × List ℕ)). (known x).1) same in
    ap₂ placed (sym at) (sym held)

-- a section that is found is the one at its index
pub held-section : (m : Layout) (places : List Place) (i : ℕ) (d : Place) (address : ℕ) (bytes : List ℕ) → i < length places → ◌≡◌ {A = Option (ℕ × List ℕ)} (Some (address, bytes)) (option_and_then (held_at m) (slice_get places i))
    → placed_section m (get_or places i d) ≡ record { address = address; bytes = bytes }
held-section m [] i d address bytes under found = absurd (omega (arith, under))
held-section m (p ∷ places) zero d address bytes under found = held-one p (bytes_at m.instances p.address) address bytes found
held-section m (p ∷ places) (suc i) d address bytes under found = held-section m places i d address bytes (omega (arith, under)) found

-- one more in reverse order
terms-more : (s : ContextState) (number : ℕ) (ps : List ℕ) (p : ℕ) → terms_text s number (ps ++ p ∷ []) ≡ term_text s number p ++ terms_text s number ps
terms-more s number [] p = sym (append-nil (term_text s number p))
terms-more s number (q ∷ ps) p = ap (λ t. t ++ term_text s number q) (terms-more s number ps p) ∙ append_assoc (term_text s number p) (terms_text s number ps) (term_text s number q)

terms-next : (s : ContextState) (number : ℕ) (order : List ℕ) (i d : ℕ) → i < length order → terms_text s number (take (i + 1) order) ≡ term_text s number (get_or order i d) ++ terms_text s number (take i order)
terms-next s number order i d under = ap (terms_text s number) (take_more order i d under) ∙ terms-more s number (take i order) (get_or order i d)

-- the lines of routines after the first i: those of the fragments after these, or of the fragments before them if the
-- last one comes first
abbrev pub routines-left : Routine → ContextState → ℕ → List ℕ → ℕ → List ℕ
routines-left Init s number order i = inits_text s number (drop i order)
routines-left Term s number order i = terms_text s number (take (length order - i) order)

pub routines-start : (r : Routine) (s : ContextState) (number : ℕ) (order : List ℕ) → routines-left r s number order 0 ≡ routines_text r s number order
routines-start Init s number order = refl
routines-start Term s number order =
    let all : length order - 0 ≡ length order = omega arith in
    ap (λ n. terms_text s number (take n order)) all ∙ ap (terms_text s number) (take_all (length order) order (omega arith))

pub routines-next : (r : Routine) (s : ContextState) (number : ℕ) (order : List ℕ) (i : ℕ) → i < length order
    → routines-left r s number order i ≡ routine_text r s number (get_or order (place_of r (length order) i) 0) ++ routines-left r s number order (i + 1)
routines-next Init s number order i under = at_drop_more (inits_text s number) order i 0 under
routines-next Term s number order i under =
    let at = length order - 1 - i in
    let here : length order - i ≡ at + 1 = omega arith in
    let before : at ≡ length order - (i + 1) = omega arith in
    ap (λ n. terms_text s number (take n order)) here ∙ terms-next s number order at 0 (omega arith)
    ∙ ap (λ n. term_text s number (get_or order at 0) ++ terms_text s number (take n order)) before

pub routines-end : (r : Routine) (s : ContextState) (number : ℕ) (order : List ℕ) (i : ℕ) → length order ≤ i → routines-left r s number order i ≡ []
routines-end Init s number order i past = ap (inits_text s number) (drop_all i order past)
routines-end Term s number order i past =
    let none : length order - i ≡ 0 = omega arith in
    ap (λ n. terms_text s number (take n order)) none
