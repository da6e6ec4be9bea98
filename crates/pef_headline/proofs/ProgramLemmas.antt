-- The relocation programs of a script's sections turn their filled memory into the memory that the script
-- describes.
use Rattle.std.proofs.Common.{◌≡◌, ◌≢◌, ◌⊎◌, ℕ, zero, suc, ◌+◌, ◌<◌, List, [], ◌∷◌, ◌++◌, Option, None, Some, length, option_map, refl, sym, ap, subst, ◌∙◌, inl, inr, arith}
use Rattle.std.specs.List.{AllByRecursion, slice_get}
use Rattle.std.proofs.lemmas.Option.{slice_get_within}
use Rattle.pef_words.proofs.Laws.Lists.{all-get, all-weaker}
use Rattle.pef_reloc.specs.declared.fixup.Fixup.{Fixup}
use Rattle.pef_reloc.specs.declared.instr.Instr.{Instr}
use Rattle.pef_reloc.specs.Additions.{AreInside, IsThere, with_bases}
use Rattle.pef_reloc.specs.Applied.{Addresses, address_of}
use Rattle.pef_reloc.specs.Headers.{IsOther, program_done, relocated_by, untouched}
use Rattle.pef_reloc.specs.Instrs.{spelled}
use Rattle.pef_reloc.proofs.Laws.{fixups_fit-parts}
use Rattle.pef_reloc.proofs.Laws.Additions.{fixups-inside}
use Rattle.pef_reloc.proofs.Laws.Headers.{headers-others, headers-own}
use Rattle.pef_script.specs.Script.{DescribedSection}
use Rattle.pef_script.specs.WellFormed.{BaseThere, SectionHolds}
use Rattle.pef_write.specs.Linked.{AreProgramsFor, IsProgramFor, program_of, programs_from}
use Rattle.pef_write.specs.Loaders.{ProgramEntry}
use Rattle.pef_write.specs.ReadBack.{program_read}
use Rattle.pef_script.proofs.Laws.{base_there}

-- the fixups of a script's section lie inside its memory
pub fixups_inside : (a : Addresses) (s : DescribedSection) → SectionHolds (length a.sections) (length a.imports) s → AreInside a s.header.total s.fixups
fixups_inside a s holds =
    fixups-inside a 0 s.header.total s.fixups (fixups_fit-parts s.fixups holds.fixups).apart holds.inside
    (all-weaker (λ (f : Fixup). BaseThere (length a.sections) (length a.imports) f.base) (λ (f : Fixup). IsThere a f.base) s.fixups (λ f. base_there a f.base) holds.bases)

-- none of some relocation programs is section k's
abbrev pub AreOthers : ℕ → List ProgramEntry → Type 0
AreOthers k programs = AllByRecursion (λ (p : ProgramEntry). p.section ≢ k) programs

-- the relocation program in one place is section k's, made for its fixups among this many sections, and no other
-- is
pub record HasProgram (count k : ℕ) (fixups : List Fixup) (programs : List ProgramEntry) : Type 0 where
  pub instrs : List Instr
  pub program : IsProgramFor count fixups instrs
  pub place : ℕ
  pub here : slice_get programs place ≡ Some (record { section = k; bytes = spelled instrs })
  pub others : (j : ℕ) (p : ProgramEntry) → slice_get programs j ≡ Some p → j ≢ place → p.section ≢ k

-- section k has a relocation program, or no fixups and none
abbrev pub Owns : ℕ → ℕ → List Fixup → List ProgramEntry → Type 0
Owns count k fixups programs = HasProgram count k fixups programs ⊎ ((fixups ≡ []) × AreOthers k programs)

-- the programs of sections from a number on are none of a section's before it
later_others : (k from : ℕ) (sections : List DescribedSection) (programs : List (List Instr)) → k < from → AreOthers k (programs_from from sections programs)
later_others k from [] [] before = tt
later_others k from [] (instrs ∷ programs) before = tt
later_others k from (s ∷ sections) [] before = tt
later_others k from (s ∷ sections) (instrs ∷ programs) before = go s.fixups (later_others k (from + 1) sections programs (omega arith))
  where
    go : (fixups : List Fixup) → AreOthers k (programs_from (from + 1) sections programs) → AreOthers k (program_of from fixups instrs ++ programs_from (from + 1) sections programs)
    go [] later = later
    go (fixup ∷ fixups) later = ((λ same. absurd (omega (arith, before, same))), later)

-- a section's own program before those of others
owns-first : (count k : ℕ) (fixups : List Fixup) (instrs : List Instr) (later : List ProgramEntry) → IsProgramFor count fixups instrs → AreOthers k later → Owns count k fixups (program_of k fixups instrs ++ later)
owns-first count k [] instrs later program others = inr (refl, others)
owns-first count k (fixup ∷ fixups) instrs later program others = inl (record {
  instrs = instrs;
  program = program;
  place = 0;
  here = refl;
  others = λ j p at apart. other j p at apart;
})
  where
    other : (j : ℕ) (p : ProgramEntry) → slice_get (record { section = k; bytes = spelled instrs } ∷ later) j ≡ Some p → j ≢ 0 → p.section ≢ k
    other zero p at apart = absurd (apart refl)
    other (suc j) p at apart = all-get (λ (q : ProgramEntry). q.section ≢ k) later j p others at

-- after another section's program
owns-later : (count k j : ℕ) (wanted fixups : List Fixup) (instrs : List Instr) (later : List ProgramEntry) → j ≢ k → Owns count k wanted later → Owns count k wanted (program_of j fixups instrs ++ later)
owns-later count k j wanted [] instrs later apart owns = owns
owns-later count k j wanted (fixup ∷ fixups) instrs later apart (inr none) = inr (none.0, (apart, none.1))
owns-later count k j wanted (fixup ∷ fixups) instrs later apart (inl has) = inl (record {
  instrs = has.instrs;
  program = has.program;
  place = suc has.place;
  here = has.here;
  others = λ i p at other. others i p at other;
})
  where
    others : (i : ℕ) (p : ProgramEntry) → slice_get (record { section = j; bytes = spelled instrs } ∷ later) i ≡ Some p → i ≢ suc has.place → p.section ≢ k
    others zero p at other = let e : record { section = j; bytes = spelled instrs } ≡ p = cc in subst (λ (q : ProgramEntry). q.section ≢ k) e apart
    others (suc i) p at other = has.others i p at (λ same. other (ap suc same))

-- each of some sections has its relocation program among theirs
pub owns-program : (count i j : ℕ) (sections : List DescribedSection) (programs : List (List Instr)) (s : DescribedSection) → AreProgramsFor count sections programs → slice_get sections i ≡ Some s
    → Owns count (j + i) s.fixups (programs_from j sections programs)
owns-program count i j [] programs s are there = absurd (cc)
owns-program count i j (t ∷ sections) [] s are there = absurd are
owns-program count zero j (t ∷ sections) (instrs ∷ programs) s are there =
    let same : t ≡ s = cc in
    let here : j + 0 ≡ j = omega arith in
    rw here (subst (λ (u : DescribedSection). Owns count j u.fixups (programs_from j (t ∷ sections) (instrs ∷ programs))) same
    (owns-first count j t.fixups instrs (programs_from (j + 1) sections programs) are.0 (later_others j (j + 1) sections programs (omega arith))))
owns-program count (suc i) j (t ∷ sections) (instrs ∷ programs) s are there =
    let next : j + suc i ≡ j + 1 + i = omega arith in
    rw next (owns-later count (j + 1 + i) j s.fixups t.fixups instrs (programs_from (j + 1) sections programs) (λ same. absurd (omega (arith, same))) (owns-program count i (j + 1) sections programs s are.1 there))

is_other : (k : ℕ) (o : Option ProgramEntry) → ((p : ProgramEntry) → o ≡ Some p → p.section ≢ k) → IsOther k (option_map program_read o)
is_other k None none = tt
is_other k (Some p) each = each p refl

-- the memory that the relocation headers make of a section's memory, if its own program makes it from its fixups
pub section_made : (a : Addresses) (header : ℕ → Option (ℕ × List ℕ)) (programs : List ProgramEntry) (count k : ℕ) (fixups : List Fixup) (memory : List ℕ)
    → ((i : ℕ) → header i ≡ option_map program_read (slice_get programs i)) → Owns count k fixups programs
    → ((instrs : List Instr) → IsProgramFor count fixups instrs → program_done a (spelled instrs) memory ≡ untouched (with_bases (address_of a) 0 fixups memory))
    → relocated_by a k header 0 (length programs) memory ≡ untouched (with_bases (address_of a) 0 fixups memory)
unfolding with_bases
section_made a header programs count k fixups memory headers (inl has) makes =
    headers-own a k header 0 (length programs) has.place (spelled has.instrs) memory (omega arith) (omega (arith, slice_get_within programs has.place (record { section = k; bytes = spelled has.instrs }) has.here))
    (headers has.place ∙ ap (option_map program_read) has.here)
    (λ j low high apart. subst (IsOther k) (sym (headers j)) (is_other k (slice_get programs j) (λ p at. has.others j p at apart)))
    ∙ makes has.instrs has.program
section_made a header programs count k fixups memory headers (inr none) makes =
    headers-others a k header 0 (length programs) memory (λ j low high. subst (IsOther k) (sym (headers j)) (is_other k (slice_get programs j) (λ p at. all-get (λ (q : ProgramEntry). q.section ≢ k) programs j p none.1 at)))
    ∙ ap (λ (fs : List Fixup). untouched (with_bases (address_of a) 0 fs memory)) (sym none.0)
