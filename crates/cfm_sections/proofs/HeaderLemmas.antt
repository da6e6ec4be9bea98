-- Relocation headers one after the other.
use Rattle.std.proofs.Common.{◌≡◌, ◌≢◌, ℕ, ◌+◌, ◌-◌, ◌<◌, List, Option, None, Some, length, refl, sym, ap, subst, ◌∙◌, inl, inr, arith}
use Rattle.std.specs.Prelude.{option_map}
use Rattle.std.specs.Option.{option_and_then}
use Rattle.std.proofs.lemmas.Bool.Decides.{eqb_tells}
use Rattle.cfm_memory.specs.Instances.{Layout, bytes_at}
use Rattle.cfm_memory.specs.declared.place.Place.{Place}
use Rattle.pef_loader.specs.Loader.{Loaded, reloc_of}
use Rattle.pef_loader.specs.Programs.{fault_in_program}
use Rattle.pef_loader.specs.declared.program_fault.ProgramFault.{ProgramFault}
use Rattle.pef_views.specs.Container.{Contained}
use Rattle.pef_reloc.specs.Applied.{Addresses, Done}
use Rattle.pef_reloc.specs.Headers.{header_done, program_done, refusal_at, relocated_by}
use Rattle.pef_reloc.specs.declared.fault.RelocFault.{RelocFault}
use Rattle.pef_reloc.proofs.Laws.Headers.{header-other, header-own, header-sound, headers-next, refusal-of}
use Rattle.pef_words.specs.Refusals.{first_among}
use Rattle.pef_words.proofs.Laws.Refusals.{first_among-here, first_among-next, first_among-none}
use Rattle.cfm_memory.proofs.Laws.{apart_both}
use Rattle.cfm_memory.specs.Extents.{AreApart, Stand, place_at}
use Rattle.cfm_sections.specs.Images.{filled_at}
use Rattle.cfm_sections.specs.Prepared.{first_header_refusal, first_reloc_refusal, header_refusal}
use Rattle.cfm_sections.specs.declared.relocation.HeaderFault.{HeaderFault}

abbrev told : ℕ → ℕ → RelocFault → HeaderFault
told i section f = record { header = i; section = section; fault = f }

-- the sections as the first i of n headers left them, none of which was refused
pub record HaveRun (a : Addresses) (header : ℕ → Option (ℕ × List ℕ)) (places : List Place) (bytes : ℕ → List ℕ) (m : Layout) (i n : ℕ) : Type 0 where
  pub stand : Stand m places (λ k. (relocated_by a k header 0 i (bytes k)).memory)
  pub sound : (k : ℕ) → (relocated_by a k header 0 i (bytes k)).fault ≡ None
  pub left : first_among (header_refusal a bytes header) i (n - i) ≡ first_header_refusal a bytes header n

-- the refusal of a header that exists
header-passes : (a : Addresses) (bytes : ℕ → List ℕ) (header : ℕ → Option (ℕ × List ℕ)) (i section : ℕ) (program : List ℕ) → header i ≡ Some (section, program) → refusal_at a bytes header i ≡ None → header_refusal a bytes header i ≡ None
header-passes a bytes header i section program is unrefused =
    ap (λ o. option_and_then (λ (h : ℕ × List ℕ). option_map (told i h.0) (refusal_at a bytes header i)) o) is
    ∙ ap (option_map (told i section)) unrefused

header-refused : (a : Addresses) (bytes : ℕ → List ℕ) (header : ℕ → Option (ℕ × List ℕ)) (i section : ℕ) (program : List ℕ) (f : RelocFault) → header i ≡ Some (section, program) → refusal_at a bytes header i ≡ Some f
    → header_refusal a bytes header i ≡ Some (told i section f)
header-refused a bytes header i section program f is refused =
    ap (λ o. option_and_then (λ (h : ℕ × List ℕ). option_map (told i h.0) (refusal_at a bytes header i)) o) is
    ∙ ap (option_map (told i section)) refused

-- no header has run
pub run_none : (a : Addresses) (header : ℕ → Option (ℕ × List ℕ)) (places : List Place) (bytes : ℕ → List ℕ) (m : Layout) (n : ℕ) → Stand m places bytes
    → HaveRun a header places bytes m 0 n
unfolding relocated_by
run_none a header places bytes m n stand =
    let whole : n - 0 ≡ n = omega arith in
    record { stand = stand; sound = λ k. refl; left = ap (first_among (header_refusal a bytes header) 0) whole }

-- one header more has run
pub run_more : (a : Addresses) (header : ℕ → Option (ℕ × List ℕ)) (places : List Place) (bytes : ℕ → List ℕ) (m after : Layout) (i n section : ℕ) (program : List ℕ)
    → HaveRun a header places bytes m i n → i < n → header i ≡ Some (section, program) → section < length places → AreApart places
    → ((b : List ℕ) → bytes_at m.instances (place_at places section).address ≡ Some b → bytes_at after.instances (place_at places section).address ≡ Some (program_done a program b).memory)
    → ((b : List ℕ) → bytes_at m.instances (place_at places section).address ≡ Some b → None ≡ (program_done a program b).fault)
    → ((address : ℕ) → address ≢ (place_at places section).address → bytes_at after.instances address ≡ bytes_at m.instances address)
    → HaveRun a header places bytes after (i + 1) n
run_more a header places bytes m after i n section program run under is there apart here fault others =
    let before = (relocated_by a section header 0 i (bytes section)).memory in
    let unrefused : refusal_at a bytes header i ≡ None = refusal-of a bytes header i section program is ∙ sym (fault before (run.stand section there)) in
    let next = λ (k : ℕ). headers-next a k header i (bytes k) (run.sound k) in
    record {
      stand = λ k low. elim (eqb_tells section k) [
        | inl same ↦ (
            let mine : (relocated_by a section header 0 (i + 1) (bytes section)).memory ≡ (program_done a program before).memory =
            ap (λ (d : Done RelocFault). d.memory) (next section) ∙ ap (λ o. (header_done a section o before).memory) is ∙ ap (λ (d : Done RelocFault). d.memory) (header-own a section program before) in
            let P : ℕ → Type 0 = λ j. bytes_at after.instances (place_at places j).address ≡ Some (relocated_by a j header 0 (i + 1) (bytes j)).memory in
            subst P same.1 (here before (run.stand section there) ∙ ap Some (sym mine)))
        | inr other ↦ (
            let mine : (relocated_by a k header 0 (i + 1) (bytes k)).memory ≡ (relocated_by a k header 0 i (bytes k)).memory =
            ap (λ (d : Done RelocFault). d.memory) (next k) ∙ ap (λ o. (header_done a k o (relocated_by a k header 0 i (bytes k)).memory).memory) is ∙ ap (λ (d : Done RelocFault). d.memory) (header-other a k (Some (section, program)) (relocated_by a k header 0 i (bytes k)).memory other.1) in
            others (place_at places k).address (apart_both places k section low there apart (λ e. other.1 (sym e))) ∙ run.stand k low ∙ ap Some (sym mine))
      ];
      sound = λ k. ap (λ (d : Done RelocFault). d.fault) (next k) ∙ header-sound a bytes header i k unrefused;
      left = sym (first_among-next (header_refusal a bytes header) i n under (header-passes a bytes header i section program is unrefused)) ∙ run.left;
    }

-- the header that is refused is the first
pub run_refused : (a : Addresses) (header : ℕ → Option (ℕ × List ℕ)) (places : List Place) (bytes : ℕ → List ℕ) (m : Layout) (i n section : ℕ) (program : List ℕ) (f : RelocFault)
    → HaveRun a header places bytes m i n → i < n → header i ≡ Some (section, program) → section < length places
    → ((b : List ℕ) → bytes_at m.instances (place_at places section).address ≡ Some b → Some f ≡ (program_done a program b).fault)
    → Some (record { header = i; section = section; fault = f }) ≡ first_header_refusal a bytes header n
run_refused a header places bytes m i n section program f run under is there fault =
    let before = (relocated_by a section header 0 i (bytes section)).memory in
    let refused : refusal_at a bytes header i ≡ Some f = refusal-of a bytes header i section program is ∙ sym (fault before (run.stand section there)) in
    sym (first_among-here (header_refusal a bytes header) i n (record { header = i; section = section; fault = f }) under (header-refused a bytes header i section program f is refused)) ∙ run.left

-- all headers have run
pub run_whole : (a : Addresses) (header : ℕ → Option (ℕ × List ℕ)) (places : List Place) (bytes : ℕ → List ℕ) (m : Layout) (i n : ℕ)
    → HaveRun a header places bytes m i n → i ≡ n → HaveRun a header places bytes m n n
run_whole a header places bytes m i n run all =
    let P : ℕ → Type 0 = λ j. HaveRun a header places bytes m j n in
    subst P all run

-- if no header is refused, the first refusal is none
pub headers-unrefused : (c : Contained) (l : Loaded) (a : Addresses) → ((i : ℕ) → i < l.header.reloc_count → refusal_at a (filled_at c) (reloc_of l) i ≡ None) → first_reloc_refusal c l a ≡ None
headers-unrefused c l a none =
    let placed : HeaderFault → ProgramFault = λ h. fault_in_program c h.header h.section h.fault in
    ap (option_map placed) (first_among-none (header_refusal a (filled_at c) (reloc_of l)) 0 l.header.reloc_count (λ i low high. by i (reloc_of l i) (none i (omega arith))))
  where
    by : (i : ℕ) (o : Option (ℕ × List ℕ)) → refusal_at a (filled_at c) (reloc_of l) i ≡ None → option_and_then (λ h. option_map (told i h.0) (refusal_at a (filled_at c) (reloc_of l) i)) o ≡ None
    by i None is = refl
    by i (Some h) is = ap (option_map (told i h.0)) is
