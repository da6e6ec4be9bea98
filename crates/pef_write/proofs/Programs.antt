-- The programs of a script's sections: their lengths, and those that have bytes.
use Rattle.std.proofs.Common.{◌≡◌, ◌∙◌, ℕ, ◌+◌, ◌*◌, ◌≤◌, List, [], ◌∷◌, ◌++◌, length, map, refl, sym, ap, ap₂, subst, arith}
use Rattle.pef_reloc.specs.declared.fixup.Fixup.{Fixup}
use Rattle.pef_reloc.specs.declared.instr.Instr.{Instr}
use Rattle.pef_reloc.specs.Instrs.{instrs_fit, repeat_free, spelled}
use Rattle.pef_reloc.specs.Limits.{most_fixups}
use Rattle.pef_reloc.specs.Steps.{Makes}
use Rattle.pef_reloc.specs.Unrolled.{instrs_of}
use Rattle.pef_reloc.proofs.Laws.{fixups_fit-parts, length-spelled}
use Rattle.pef_reloc.proofs.Laws.{instrs_of-spelled}
use Rattle.pef_reloc.proofs.Laws.{spelled-nothing}
use Rattle.pef_script.specs.Script.{DescribedSection}
use Rattle.pef_script.specs.WellFormed.{SectionHolds}
use Rattle.std.proofs.lemmas.Bool.{and_parts}
use Rattle.pef_write.specs.Linked.{AreProgramsFor, IsProgramFor, program_of, programs_from}
use Rattle.pef_write.specs.Kept.Encoded.{nonempty, nonempty_from}

-- a program for no fixups is empty, and one for some fixups isn't
no_bytes : (n : ℕ) (instrs : List Instr) → IsProgramFor n [] instrs → spelled instrs ≡ []
no_bytes n instrs is = empty (spelled instrs) (omega (arith, length-spelled instrs, is.short))
  where
    empty : (bytes : List ℕ) → length bytes ≡ 0 → bytes ≡ []
    empty [] none = refl
    empty (b ∷ bytes) none = absurd (omega arith)

some_bytes : (n : ℕ) (f : Fixup) (fixups : List Fixup) (instrs : List Instr) → IsProgramFor n (f ∷ fixups) instrs → 1 ≤ length (spelled instrs)
some_bytes n f fixups instrs is = by (spelled instrs) refl
  where
    by : (bytes : List ℕ) → bytes ≡ spelled instrs → 1 ≤ length bytes
    by [] none =
        let fits = (and_parts (repeat_free instrs) (instrs_fit instrs) is.flat).1 in
        let nothing : instrs ≡ [] = sym (instrs_of-spelled instrs fits) ∙ ap instrs_of (sym none ∙ sym spelled-nothing) ∙ instrs_of-spelled [] refl in
        let made : Makes (f ∷ fixups) [] = subst (Makes (f ∷ fixups)) nothing is.makes in
        absurd (cc)
    by (b ∷ bytes) some = omega arith

-- a section's program has bytes exactly if the section has fixups
own_program-is : (n k : ℕ) (fixups : List Fixup) (instrs : List Instr) → IsProgramFor n fixups instrs → program_of k fixups instrs ≡ nonempty k (spelled instrs)
own_program-is n k [] instrs is = ap (nonempty k) (sym (no_bytes n instrs is))
own_program-is n k (f ∷ fixups) instrs is = by (spelled instrs) (some_bytes n f fixups instrs is)
  where
    by : (bytes : List ℕ) → 1 ≤ length bytes → record { section = k; bytes = bytes } ∷ [] ≡ nonempty k bytes
    by [] some = absurd (omega arith)
    by (b ∷ bytes) some = refl

pub own_programs-are : (n k : ℕ) (sections : List DescribedSection) (programs : List (List Instr)) → AreProgramsFor n sections programs → programs_from k sections programs ≡ nonempty_from k (map spelled programs)
own_programs-are n k [] [] are = refl
own_programs-are n k [] (instrs ∷ programs) are = absurd are
own_programs-are n k (s ∷ sections) [] are = absurd are
own_programs-are n k (s ∷ sections) (instrs ∷ programs) are =
    ap₂ (λ a b. a ++ b) (own_program-is n k s.fixups instrs are.0) (own_programs-are n (k + 1) sections programs are.1)

-- as many programs as sections
pub length-programs : (n : ℕ) (sections : List DescribedSection) (programs : List (List Instr)) → AreProgramsFor n sections programs → length programs ≡ length sections
length-programs n [] [] are = refl
length-programs n [] (instrs ∷ programs) are = absurd are
length-programs n (s ∷ sections) [] are = absurd are
length-programs n (s ∷ sections) (instrs ∷ programs) are = omega (arith, length-programs n sections programs are.1)

-- a program is short
pub short_program : (n m j : ℕ) (s : DescribedSection) (instrs : List Instr) → SectionHolds m j s → IsProgramFor n s.fixups instrs → length (spelled instrs) ≤ 8 * most_fixups
short_program n m j s instrs holds is =
    omega (arith, length-spelled instrs, is.short, (fixups_fit-parts s.fixups holds.fixups).count)
