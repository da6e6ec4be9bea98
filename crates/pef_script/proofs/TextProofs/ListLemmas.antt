-- Lists of distinct names, and lists that rise.
use Rattle.std.proofs.Common.{◌≡◌, ℕ, zero, suc, ◌+◌, ◌<◌, ◌≤◌, Bool, true, false, cond, List, [], ◌∷◌, ◌++◌, None, Some, length, map, refl, sym, ap, subst, ◌∙◌, true≢false, arith}
use Rattle.std.specs.Prelude.{slice_get, slice_index_or, slice_set}
use Rattle.std.specs.List.{AllByRecursion, IsDistinct, position_from}
use Rattle.std.specs.Option.{option_map_or}
use Rattle.std.specs.Str.{bytes_eq}
use Rattle.std.proofs.lemmas.List.{map-append}
use Rattle.std.proofs.lemmas.Slice.Eq.{bytes_eq-Decides}
use Rattle.pef_script.specs.Script.{DescribedSection}
use Rattle.pef_script.specs.Text.SoFar.{number_of_name}
use Rattle.pef_script.specs.WellFormed.{Rises}
use Rattle.pef_words.proofs.Laws.Lists.{all-append}

-- a list that rises, with one more that is at least as great as all of it
pub rises-more : (xs : List ℕ) (y : ℕ) → Rises xs → AllByRecursion (λ x. x ≤ y) xs → Rises (xs ++ y ∷ [])
rises-more [] y rises most = (tt, tt)
rises-more (x ∷ xs) y rises most = (all-append (λ z. x ≤ z) xs (y ∷ []) rises.0 (most.0, tt), rises-more xs y rises.1 most.1)

apart_both_ways : (x y : List ℕ) → bytes_eq y x ≡ false → bytes_eq x y ≡ false
apart_both_ways x y apart = by (bytes_eq x y) refl
  where
    by : (b : Bool) → bytes_eq x y ≡ b → b ≡ false
    by false is = refl
    by true is = absurd (true≢false (sym ((bytes_eq-Decides y x).1 (sym ((bytes_eq-Decides x y).0 is))) ∙ apart))

-- a name without a number differs from all
apart_from_all : (names : List (List ℕ)) (name : List ℕ) (at : ℕ) → position_from (bytes_eq name) at names ≡ None → AllByRecursion (λ other. bytes_eq other name ≡ false) names
apart_from_all [] name at none = tt
apart_from_all (other ∷ names) name at none = by (bytes_eq name other) refl none (apart_from_all names name (at + 1))
  where
    by : (here : Bool) → bytes_eq name other ≡ here → cond here (Some at) (position_from (bytes_eq name) (at + 1) names) ≡ None
        → (position_from (bytes_eq name) (at + 1) names ≡ None → AllByRecursion (λ o. bytes_eq o name ≡ false) names)
        → AllByRecursion (λ o. bytes_eq o name ≡ false) (other ∷ names)
    by true is none others = absurd (cc)
    by false is none others = (apart_both_ways other name is, others none)

distinct-append : (names : List (List ℕ)) (name : List ℕ) → IsDistinct bytes_eq names → AllByRecursion (λ other. bytes_eq other name ≡ false) names → IsDistinct bytes_eq (names ++ name ∷ [])
unfolding IsDistinct
distinct-append [] name apart new = (tt, tt)
distinct-append (other ∷ names) name apart new = (all-append (λ o. bytes_eq other o ≡ false) names (name ∷ []) apart.0 (new.0, tt), distinct-append names name apart.1 new.1)

pub no_names_apart : IsDistinct bytes_eq []
unfolding IsDistinct
no_names_apart = tt

-- distinct names, with one more that has no number
pub distinct-more : (names : List (List ℕ)) (name : List ℕ) → IsDistinct bytes_eq names → number_of_name names name ≡ None → IsDistinct bytes_eq (names ++ name ∷ [])
distinct-more names name apart new = distinct-append names name apart (apart_from_all names name 0 new)

-- a name that was found has a number below the count
pub position_from-under : (test : List ℕ → Bool) (at : ℕ) (names : List (List ℕ)) (k : ℕ) → position_from test at names ≡ Some k → k < at + length names
position_from-under test at [] k is = absurd (cc)
position_from-under test at (name ∷ names) k is = by (test name) is (position_from-under test (at + 1) names k)
  where
    by : (here : Bool) → cond here (Some at) (position_from test (at + 1) names) ≡ Some k → (position_from test (at + 1) names ≡ Some k → k < at + 1 + length names) → k < at + length (name ∷ names)
    by true is others = (let e : at ≡ k = cc in omega arith)
    by false is others = (let under = others is in omega (arith, under))

-- a part that a change keeps is unchanged
pub map-set : {A B C : Type 0} (part : A → B) (f : B → C) (xs : List A) (k : ℕ) (d y : A) → part y ≡ part (slice_index_or xs k d) → map (λ x. f (part x)) (slice_set xs k y) ≡ map (λ x. f (part x)) xs
map-set part f [] k d y same = refl
map-set part f (x ∷ xs) zero d y same = ap (λ p. f p ∷ map (λ x. f (part x)) xs) same
map-set part f (x ∷ xs) (suc k) d y same = ap (λ ys. f (part x) ∷ ys) (map-set part f xs k d y same)

-- the section with a name is the only one, wherever it is looked for first

-- a section has a name
abbrev pub is_named : List DescribedSection → ℕ → List ℕ → Bool
is_named sections k name = option_map_or (λ section. bytes_eq name section.header.name) (slice_get sections k) false

abbrev pub names_of : List DescribedSection → List (List ℕ)
names_of sections = map (λ section. section.header.name) sections

others_differ : (other name : List ℕ) (sections : List DescribedSection) (k : ℕ) → AllByRecursion (λ y. bytes_eq other y ≡ false) (names_of sections) → is_named sections k name ≡ true → bytes_eq name other ≡ false
others_differ other name [] k apart is = absurd (cc)
others_differ other name (section ∷ sections) zero apart is =
    let same : name ≡ section.header.name = (bytes_eq-Decides name section.header.name).0 is in
    subst (λ n. bytes_eq n other ≡ false) (sym same) (apart_both_ways section.header.name other apart.0)
others_differ other name (section ∷ sections) (suc k) apart is = others_differ other name sections k apart.1 is

position_of_named : (sections : List DescribedSection) (at k : ℕ) (name : List ℕ) → IsDistinct bytes_eq (names_of sections) → is_named sections k name ≡ true → position_from (bytes_eq name) at (names_of sections) ≡ Some (at + k)
unfolding IsDistinct
position_of_named [] at k name apart is = absurd (cc)
position_of_named (section ∷ sections) at zero name apart is = (let here : at ≡ at + 0 = omega arith in rw is (ap Some here))
position_of_named (section ∷ sections) at (suc k) name apart is =
    let before = others_differ section.header.name name sections k apart.0 is in
    let there : at + 1 + k ≡ at + suc k = omega arith in
    rw before (position_of_named sections (at + 1) k name apart.1 is ∙ ap Some there)

pub named_is_number : (sections : List DescribedSection) (k : ℕ) (name : List ℕ) → IsDistinct bytes_eq (names_of sections) → is_named sections k name ≡ true → number_of_name (names_of sections) name ≡ Some k
named_is_number sections k name apart is = (let there : 0 + k ≡ k = omega arith in position_of_named sections 0 k name apart is ∙ ap Some there)

pub named_is_there : (sections : List DescribedSection) (k : ℕ) (name : List ℕ) → is_named sections k name ≡ true → k < length sections
named_is_there [] k name is = absurd (cc)
named_is_there (section ∷ sections) zero name is = omega arith
named_is_there (section ∷ sections) (suc k) name is = (let under = named_is_there sections k name is in omega (arith, under))

-- names stay distinct with a section whose name is new
pub distinct_with : (sections : List DescribedSection) (new : DescribedSection) → IsDistinct bytes_eq (names_of sections) → number_of_name (names_of sections) new.header.name ≡ None → IsDistinct bytes_eq (names_of (sections ++ new ∷ []))
distinct_with sections new apart none = subst (IsDistinct bytes_eq) (sym (map-append (λ section. section.header.name) sections (new ∷ []))) (distinct-more (names_of sections) new.header.name apart none)

-- and if a section keeps its header
pub distinct_set : (sections : List DescribedSection) (k : ℕ) (old new : DescribedSection) → old ≡ slice_index_or sections k old → new.header ≡ old.header → IsDistinct bytes_eq (names_of sections) → IsDistinct bytes_eq (names_of (slice_set sections k new))
distinct_set sections k old new here same apart =
    let kept = same ∙ ap (λ (section : DescribedSection). section.header) here in
    subst (IsDistinct bytes_eq) (sym (map-set (λ section. section.header) (λ header. header.name) sections k old new kept)) apart
