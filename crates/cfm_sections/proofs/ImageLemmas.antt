-- The images of sections.
use Rattle.std.proofs.Common.{◌≡◌, ℕ, true, ◌-◌, arith, ◌++◌, List, [], length, drop, replicate, refl, ap, ◌∙◌}
use Rattle.std.specs.Prelude.{Result, Ok, Err, OnOk, Some, option_map}
use Rattle.std.specs.Result.{result_err, result_unwrap_or}
use Rattle.std.proofs.lemmas.List.{drop-replicate}
use Rattle.pef_pidata.specs.declared.fault.PackFault.{PackFault}
use Rattle.pef_views.specs.Container.{Contained, Section, section_of}
use Rattle.pef_words.specs.Bytes.{filled}
use Rattle.pef_words.specs.Refusals.{result_map}
use Rattle.pef_format.specs.Sections.{is_packed, kind_of}
use Rattle.cfm_sections.specs.Begun.{placed_at, placed_in}
use Rattle.cfm_sections.specs.Images.{fault_in_image, filled_at, filled_in, image_of, image_refusal}

-- zeros with an image at their front
filled_zeros : (image : List ℕ) (size : ℕ) → image ++ drop (length image) (replicate size 0) ≡ filled image size
filled_zeros image size = ap (λ (z : List ℕ). image ++ z) (drop-replicate (length image) size 0)

-- a step that filled some memory or was refused, by the bytes for its front
pub filling_refused : {A : Type 0} (r : Result A PackFault) (memory part : List ℕ) (image : Result (List ℕ) PackFault)
    → result_map (λ _. memory) r ≡ result_map (λ (i : List ℕ). i ++ drop (length i) part) image → result_err r ≡ result_err image
filling_refused (Ok x) memory part (Ok i) is = refl
filling_refused (Ok x) memory part (Err f) is = absurd (cc)
filling_refused (Err e) memory part (Ok i) is = absurd (cc)
filling_refused (Err e) memory part (Err f) is = let same : e ≡ f = cc in ap Some same

pub filling_done : {A : Type 0} (r : Result A PackFault) (memory part : List ℕ) (image : Result (List ℕ) PackFault) (size : ℕ)
    → result_map (λ _. memory) r ≡ result_map (λ (i : List ℕ). i ++ drop (length i) part) image → part ≡ replicate size 0
    → OnOk r (memory ≡ result_unwrap_or (result_map (λ (i : List ℕ). filled i size) image) [])
filling_done (Err e) memory part image size is zeros = tt
filling_done (Ok x) memory part (Err f) size is zeros = absurd (cc)
filling_done (Ok x) memory part (Ok i) size is zeros =
    let whole : memory ≡ i ++ drop (length i) part = cc in
    whole ∙ ap (λ (z : List ℕ). i ++ drop (length i) z) zeros ∙ filled_zeros i size

-- the facts of a section that exists
pub refusal_there : (c : Contained) (k : ℕ) (s : Section) → Some s ≡ section_of c k → image_refusal c k ≡ option_map (fault_in_image c k) (result_err (image_of s))
refusal_there c k s is = rw (← is) refl

pub filled_there : (c : Contained) (k : ℕ) (s : Section) → Some s ≡ section_of c k → filled_at c k ≡ result_unwrap_or (filled_in s) []
filled_there c k s is = rw (← is) refl

-- a fact of a step that succeeded
pub on_ok : {A : Type 0} (r : Result A PackFault) {P Q : Type 0} → (P → Q) → OnOk r P → OnOk r Q
on_ok (Ok x) gives holds = gives holds
on_ok (Err e) gives holds = tt

pub placed_there : (c : Contained) (k : ℕ) (s : Section) → Some s ≡ section_of c k → placed_at c k ≡ placed_in s
placed_there c k s is = rw (← is) refl

-- a packed section is placed as zeros
pub packed_zeros : (s : Section) → is_packed (kind_of s.header.section_kind) ≡ true → placed_in s ≡ replicate s.header.total_size 0
packed_zeros s packed =
    let all : s.header.total_size - 0 ≡ s.header.total_size = omega arith in
    rw packed (ap (λ n. replicate n 0) all)
