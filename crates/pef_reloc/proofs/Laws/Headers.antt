-- The effect of relocation headers, one after another, on a section's memory.
use Rattle.std.proofs.Common.{◌≡◌, ◌≢◌, ℕ, zero, suc, ◌+◌, ◌<◌, ◌≤◌, true, List, Option, None, Some, length, refl, sym, ap, subst, ◌∙◌, inl, inr, arith}
use Rattle.std.specs.Option.{option_and_then}
use Rattle.std.proofs.lemmas.Bool.{eq-eqb, ne_eqb}
use Rattle.std.proofs.lemmas.Bool.Decides.{eqb_tells}
use Rattle.pef_reloc.specs.declared.fault.RelocFault.{RelocFault}
use Rattle.pef_reloc.specs.declared.fixup.Fixup.{Fixup}
use Rattle.pef_reloc.specs.declared.instr.Instr.{Instr}
use Rattle.pef_reloc.specs.Additions.{AreInside, all_added, with_bases}
use Rattle.pef_reloc.specs.Applied.{Addresses, Done, address_of, then_done, unless_refused}
use Rattle.pef_reloc.specs.Fixups.{fixups_from}
use Rattle.pef_reloc.specs.Headers.{IsOther, header_done, program_done, refusal_at, relocated_by, untouched}
use Rattle.pef_reloc.specs.Instrs.{spelled}
use Rattle.pef_reloc.specs.Limits.{step_limit}
use Rattle.pef_reloc.specs.Steps.{Makes, is_flat, names_below, start, trace}
use Rattle.pef_reloc.proofs.Laws.Additions.{additions-described, instrs-done}
use Rattle.pef_reloc.proofs.ActLists.{done_thrice, then_same}
use Rattle.pef_reloc.proofs.FlatLaws.{program_fault-spelled, relocated-spelled}
use Rattle.pef_reloc.proofs.Placing.{relocation-done}

abbrev fault_of : Done RelocFault → Option RelocFault
fault_of d = d.fault

-- a flat program for fixups in address order that lie inside memory has the effect that they
-- describe
pub program-described : (a : Addresses) (fixups : List Fixup) (instrs : List Instr) (memory : List ℕ) → is_flat instrs ≡ true → Makes fixups instrs → names_below (length a.sections) instrs ≡ true → length instrs ≤ step_limit
    → fixups_from 0 fixups ≡ true → AreInside a (length memory) fixups → program_done a (spelled instrs) memory ≡ untouched (with_bases (address_of a) 0 fixups memory)
program-described a fixups instrs memory flat makes names few apart inside =
    let P : List Fixup → Type 0 = λ fs. AreInside a (length memory) fs in
    rw (program_fault-spelled instrs flat few)
    (relocation-done (spelled instrs) a memory (all_added a (trace instrs start) memory) (relocated-spelled instrs a memory flat ∙ instrs-done a instrs start memory names (subst P (sym makes) inside))
    ∙ ap untouched (ap (λ (fs : List Fixup). all_added a fs memory) makes ∙ additions-described a fixups memory apart inside))

-- a header for another section leaves the memory unchanged
pub header-other : (a : Addresses) (k : ℕ) (h : Option (ℕ × List ℕ)) (memory : List ℕ) → IsOther k h → header_done a k h memory ≡ untouched memory
header-other a k None memory other = refl
header-other a k (Some h) memory other = rw (ne_eqb h.0 k other) refl

-- a header for the section has the effect of its program
pub header-own : (a : Addresses) (k : ℕ) (bytes memory : List ℕ) → header_done a k (Some (k, bytes)) memory ≡ program_done a bytes memory
header-own a k bytes memory = rw (eq-eqb k k refl) refl

-- the effect after something that isn't refused
done_next : (d : Done RelocFault) (next : List ℕ → Done RelocFault) → d.fault ≡ None → then_done d next ≡ next d.memory
done_next d next none = rw none refl

-- something that isn't refused in the end wasn't refused before
done_first : (d : Done RelocFault) (next : List ℕ → Done RelocFault) → (then_done d next).fault ≡ None → d.fault ≡ None
done_first d next none = go d.fault none
  where
    go : (f : Option RelocFault) → (unless_refused f d.memory (next d.memory)).fault ≡ None → f ≡ None
    go None is = refl
    go (Some fault) is = is

done_whole : (d : Done RelocFault) → then_done d untouched ≡ d
done_whole d = go d.fault d.memory
  where
    go : (fault : Option RelocFault) (memory : List ℕ) → unless_refused fault memory (untouched memory) ≡ record { memory = memory; fault = fault }
    go None memory = refl
    go (Some fault) memory = refl

-- headers of which none is for the section leave its memory unchanged
pub headers-others : (a : Addresses) (k : ℕ) (header : ℕ → Option (ℕ × List ℕ)) (from n : ℕ) (memory : List ℕ) → ((j : ℕ) → from ≤ j → j < from + n → IsOther k (header j)) → relocated_by a k header from n memory ≡ untouched memory
unfolding relocated_by
headers-others a k header from zero memory others = refl
headers-others a k header from (suc n) memory others =
    ap (λ (d : Done RelocFault). then_done d (relocated_by a k header (from + 1) n)) (header-other a k (header from) memory (others from (omega arith) (omega arith)))
    ∙ headers-others a k header (from + 1) n memory (λ j low high. others j (omega arith) (omega arith))

-- if exactly one of the headers is for the section, they have the effect of its program
pub headers-own : (a : Addresses) (k : ℕ) (header : ℕ → Option (ℕ × List ℕ)) (from n i : ℕ) (bytes memory : List ℕ) → from ≤ i → i < from + n → header i ≡ Some (k, bytes)
    → ((j : ℕ) → from ≤ j → j < from + n → j ≢ i → IsOther k (header j)) → relocated_by a k header from n memory ≡ program_done a bytes memory
unfolding relocated_by
headers-own a k header from zero i bytes memory low high is others = absurd (omega arith)
headers-own a k header from (suc n) i bytes memory low high is others =
    elim (eqb_tells from i) [
      | inl same ↦ (
          let here : header from ≡ Some (k, bytes) = ap header same.1 ∙ is in
          let at = same.1 in
          ap (λ (h : Option (ℕ × List ℕ)). then_done (header_done a k h memory) (relocated_by a k header (from + 1) n)) here
          ∙ ap (λ (d : Done RelocFault). then_done d (relocated_by a k header (from + 1) n)) (header-own a k bytes memory)
          ∙ then_same (program_done a bytes memory) (relocated_by a k header (from + 1) n) untouched (λ m. headers-others a k header (from + 1) n m (λ j after under. others j (omega arith) (omega arith) (λ e. omega arith)))
          ∙ done_whole (program_done a bytes memory))
      | inr other ↦ (
          let apart = other.1 in
          ap (λ (d : Done RelocFault). then_done d (relocated_by a k header (from + 1) n)) (header-other a k (header from) memory (others from (omega arith) (omega arith) apart))
          ∙ headers-own a k header (from + 1) n i bytes memory (omega arith) (omega arith) is (λ j after under differ. others j (omega arith) (omega arith) differ))
    ]

-- one header more, after some
headers-more : (a : Addresses) (k : ℕ) (header : ℕ → Option (ℕ × List ℕ)) (from n : ℕ) (memory : List ℕ)
    → relocated_by a k header from (suc n) memory ≡ then_done (relocated_by a k header from n memory) (header_done a k (header (from + n)))
unfolding relocated_by
headers-more a k header from zero memory =
    let here : from + 0 ≡ from = omega arith in
    rw here (done_whole (header_done a k (header from) memory))
headers-more a k header from (suc n) memory =
    let next : from + suc n ≡ from + 1 + n = omega arith in
    let first = header_done a k (header from) memory in
    rw next (ap (unless_refused first.fault first.memory) (headers-more a k header (from + 1) n first.memory)
    ∙ done_thrice first (relocated_by a k header (from + 1) n) (header_done a k (header (from + 1 + n))))

-- one header more, if those before it aren't refused
pub headers-next : (a : Addresses) (k : ℕ) (header : ℕ → Option (ℕ × List ℕ)) (i : ℕ) (memory : List ℕ) → (relocated_by a k header 0 i memory).fault ≡ None
    → relocated_by a k header 0 (i + 1) memory ≡ header_done a k (header i) (relocated_by a k header 0 i memory).memory
headers-next a k header i memory sound =
    let next : i + 1 ≡ suc i = omega arith in
    let here : 0 + i ≡ i = omega arith in
    rw next (headers-more a k header 0 i memory ∙ done_next (relocated_by a k header 0 i memory) (header_done a k (header (0 + i))) sound ∙ ap (λ j. header_done a k (header j) (relocated_by a k header 0 i memory).memory) here)

-- the refusal of a header that exists
pub refusal-of : (a : Addresses) (memory : ℕ → List ℕ) (header : ℕ → Option (ℕ × List ℕ)) (i k : ℕ) (program : List ℕ) → header i ≡ Some (k, program)
    → refusal_at a memory header i ≡ (program_done a program (relocated_by a k header 0 i (memory k)).memory).fault
unfolding refusal_at
refusal-of a memory header i k program is = rw is refl

-- a header that isn't refused isn't for any section
pub header-sound : (a : Addresses) (memory : ℕ → List ℕ) (header : ℕ → Option (ℕ × List ℕ)) (i k : ℕ) → refusal_at a memory header i ≡ None
    → (header_done a k (header i) (relocated_by a k header 0 i (memory k)).memory).fault ≡ None
unfolding refusal_at
header-sound a memory header i k none = go (header i) none
  where
    here : (section : ℕ) (program : List ℕ) → (program_done a program (relocated_by a section header 0 i (memory section)).memory).fault ≡ None
        → (header_done a k (Some (section, program)) (relocated_by a k header 0 i (memory k)).memory).fault ≡ None
    here section program none = elim (eqb_tells section k) [
      | inl same ↦ (let P : ℕ → Type 0 = λ s. (program_done a program (relocated_by a s header 0 i (memory s)).memory).fault ≡ None in rw same.0 (subst P same.1 none))
      | inr other ↦ rw other.0 refl
    ]

    go : (o : Option (ℕ × List ℕ)) → option_and_then (λ h. (program_done a h.1 (relocated_by a h.0 header 0 i (memory h.0)).memory).fault) o ≡ None
        → (header_done a k o (relocated_by a k header 0 i (memory k)).memory).fault ≡ None
    go None none = refl
    go (Some h) none = here h.0 h.1 none

-- if the headers of a section aren't refused, none of its programs is
pub programs-sound : (a : Addresses) (k : ℕ) (header : ℕ → Option (ℕ × List ℕ)) (i from n : ℕ) (bytes memory : List ℕ) → i < n → header (from + i) ≡ Some (k, bytes) → (relocated_by a k header from n memory).fault ≡ None
    → (program_done a bytes (relocated_by a k header from i memory).memory).fault ≡ None
unfolding relocated_by
programs-sound a k header i from zero bytes memory under is none = absurd (omega (arith, under))
programs-sound a k header zero from (suc n) bytes memory under is none =
    let here : from + 0 ≡ from = omega arith in
    let done : header_done a k (header from) memory ≡ program_done a bytes memory = ap (λ (h : Option (ℕ × List ℕ)). header_done a k h memory) (ap header (sym here) ∙ is) ∙ header-own a k bytes memory in
    let P : Done RelocFault → Type 0 = λ d. (then_done d (relocated_by a k header (from + 1) n)).fault ≡ None in
    done_first (program_done a bytes memory) (relocated_by a k header (from + 1) n) (subst P done none)
programs-sound a k header (suc i) from (suc n) bytes memory under is none =
    let next : from + suc i ≡ from + 1 + i = omega arith in
    let d = header_done a k (header from) memory in
    let first = done_first d (relocated_by a k header (from + 1) n) none in
    let later = programs-sound a k header i (from + 1) n bytes d.memory (omega (arith, under)) (ap header (sym next) ∙ is) (ap fault_of (sym (done_next d (relocated_by a k header (from + 1) n) first)) ∙ none) in
    rw (done_next d (relocated_by a k header (from + 1) i) first) later
