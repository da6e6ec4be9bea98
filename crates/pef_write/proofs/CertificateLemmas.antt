-- Certificates for the sections of a script: their programs are programs for the sections, and least ones.
use Rattle.std.proofs.Common.{◌≡◌, ◌∙◌, ℕ, suc, ◌+◌, ◌<◌, ◌^◌, Bool, true, false, ◌&&◌, ◌||◌, List, [], ◌∷◌, ◌++◌, get_or, length, take, map, refl, sym, ap, subst, arith}
use Rattle.std.specs.List.{AllByRecursion}
use Rattle.std.proofs.lemmas.Bool.{and_from, and_parts, eqb-true, lt-ltb}
use Rattle.std.proofs.lemmas.List.{length-take-le, map-append, take_more}
use Rattle.pef_cert.specs.Certified.{Certified}
use Rattle.pef_cert.proofs.Laws.{valid-least}
use Rattle.pef_plan.proofs.Laws.{least-names, least-short, program_certificate}
use Rattle.pef_plan.specs.Planned.{Planned}
use Rattle.pef_reloc.specs.declared.fixup.Base.{Base}
use Rattle.pef_reloc.specs.declared.fixup.Base.TheVariants.{Section, Import}
use Rattle.pef_reloc.specs.declared.fixup.Fixup.{Fixup}
use Rattle.pef_reloc.specs.declared.instr.Instr.{Instr}
use Rattle.pef_reloc.specs.Deliveries.{all_meet, is_section, named_imports, names_used, uses_import, uses_section}
use Rattle.pef_reloc.proofs.Laws.{fixups_fit-parts}
use Rattle.pef_reloc.specs.Instrs.{program_length, spelled}
use Rattle.pef_reloc.specs.Steps.{Least, all_below, named_sections, names_below}
use Rattle.pef_script.specs.Script.{DescribedSection}
use Rattle.pef_script.specs.WellFormed.{BaseThere, SectionHolds}
use Rattle.pef_words.proofs.Laws.Lists.{all-at}
use Rattle.pef_write.specs.Linked.{AreCertified, ArePlanned, AreProgramsFor, IsCertified, IsProgramFor}
use Rattle.pef_write.specs.Kept.Encoded.{AreEncodedFor}

-- a section that fixups use exists
base_there : (n j k : ℕ) (b : Base) → BaseThere n j b → is_section k b ≡ true → k < n
base_there n j k (Section i) there own = (let same = eqb-true i k own in omega (arith, same, there))
base_there n j k (Import i) there own = absurd (cc)

used_there : (n j k : ℕ) (fixups : List Fixup) → AllByRecursion (λ (fixup : Fixup). BaseThere n j fixup.base) fixups → uses_section fixups k ≡ true → k < n
used_there n j k [] there used = absurd (cc)
used_there n j k (f ∷ fixups) there used = by (is_section k f.base) refl used (used_there n j k fixups there.1)
  where
    by : (own : Bool) → is_section k f.base ≡ own → (own || uses_section fixups k) ≡ true → (uses_section fixups k ≡ true → k < n) → k < n
    by true own either later = base_there n j k f.base there.0 own
    by false own either later = later either

-- so the sections that are named, if they are used, exist
all_there : (n j : ℕ) (fixups : List Fixup) (ks : List ℕ) → AllByRecursion (λ (fixup : Fixup). BaseThere n j fixup.base) fixups → all_meet (uses_section fixups) ks ≡ true → all_below n ks ≡ true
all_there n j fixups [] there used = refl
all_there n j fixups (k ∷ ks) there used =
    let parts = and_parts (uses_section fixups k) (all_meet (uses_section fixups) ks) used in
    and_from _ _ (lt-ltb k n (used_there n j k fixups there parts.0)) (all_there n j fixups ks there parts.1)

names_there : (n j : ℕ) (fixups : List Fixup) (instrs : List Instr) → AllByRecursion (λ (fixup : Fixup). BaseThere n j fixup.base) fixups → names_used fixups instrs ≡ true → names_below n instrs ≡ true
names_there n j fixups [] there used = refl
names_there n j fixups (x ∷ instrs) there used =
    let parts = and_parts (all_meet (uses_section fixups) (named_sections x) && all_meet (uses_import fixups) (named_imports x)) (names_used fixups instrs) used in
    let own = and_parts (all_meet (uses_section fixups) (named_sections x)) (all_meet (uses_import fixups) (named_imports x)) parts.0 in
    and_from (all_below n (named_sections x)) (names_below n instrs) (all_there n j fixups (named_sections x) there own.0) (names_there n j fixups instrs there parts.1)

-- a certified program is a least one
pub certified_least : (n j k : ℕ) (s : DescribedSection) (c : Certified) → SectionHolds n j s → IsCertified k s.fixups c → Least s.fixups c.program
certified_least n j k s c holds is = valid-least s.fixups c holds.fixups is.valid

-- .. and one for its section
certified_program : (n j k : ℕ) (s : DescribedSection) (c : Certified) → SectionHolds n j s → IsCertified k s.fixups c → IsProgramFor n s.fixups c.program
certified_program n j k s c holds is =
    let least = certified_least n j k s c holds is in
    record {
      flat = least.flat;
      makes = least.makes;
      names = names_there n j s.fixups c.program holds.bases (least-names s.fixups c.program least);
      short = least-short s.fixups c.program holds.fixups least;
    }

pub certified_programs : (n j k : ℕ) (sections : List DescribedSection) (certificates : List Certified) → AllByRecursion (SectionHolds n j) sections → AreCertified k sections certificates → AreProgramsFor n sections (map (λ c. c.program) certificates)
certified_programs n j k [] [] holds are = tt
certified_programs n j k [] (c ∷ certificates) holds are = absurd are
certified_programs n j k (s ∷ sections) [] holds are = absurd are
certified_programs n j k (s ∷ sections) (c ∷ certificates) holds are =
    (certified_program n j k s c holds.0 are.0, certified_programs n j (k + 1) sections certificates holds.1 are.1)

-- a certified program is short
pub certified_short : (n j k : ℕ) (sections : List DescribedSection) (i : ℕ) (s d : DescribedSection) (c : Certified) → AllByRecursion (SectionHolds n j) sections → i < length sections → s ≡ get_or sections i d → IsCertified k s.fixups c → program_length c.program < 2 ^ 32
certified_short n j k sections i s d c hold under found is =
    let holds : SectionHolds n j s = subst (SectionHolds n j) (sym found) (all-at (SectionHolds n j) sections i d hold under) in
    omega (arith, (certified_program n j k s c holds is).short, (fixups_fit-parts s.fixups holds.fixups).count)

-- a least program has a certificate
pub some_certified : (n j k : ℕ) (sections : List DescribedSection) (i : ℕ) (s d : DescribedSection) (program : List Instr) → AllByRecursion (SectionHolds n j) sections → i < length sections → s ≡ get_or sections i d → Least s.fixups program → (c : Certified) × (c.program ≡ program) × IsCertified k s.fixups c
some_certified n j k sections i s d program hold under found least =
    let holds : SectionHolds n j s = subst (SectionHolds n j) (sym found) (all-at (SectionHolds n j) sections i d hold under) in
    let own = program_certificate s.fixups k program holds.fixups least in
    (own.0, own.2, record { section = own.1; valid = own.3; exact = own.4 })

-- one certificate more, for the next section
certified_after : (k : ℕ) (sections : List DescribedSection) (certificates : List Certified) (s : DescribedSection) (c : Certified) → AreCertified k sections certificates → IsCertified (k + length sections) s.fixups c → AreCertified k (sections ++ s ∷ []) (certificates ++ c ∷ [])
certified_after k [] [] s c are is = (let at : k + 0 ≡ k = omega arith in (subst (λ n. IsCertified n s.fixups c) at is, tt))
certified_after k [] (d ∷ certificates) s c are is = absurd are
certified_after k (t ∷ sections) [] s c are is = absurd are
certified_after k (t ∷ sections) (d ∷ certificates) s c are is =
    let at : k + suc (length sections) ≡ k + 1 + length sections = omega arith in
    (are.0, certified_after (k + 1) sections certificates s c are.1 (subst (λ n. IsCertified n s.fixups c) at is))

-- certificates so far, and one more
pub certified_more : (sections : List DescribedSection) (k : ℕ) (s d : DescribedSection) (done : List Certified) (c : Certified) → k < length sections → s ≡ get_or sections k d → IsCertified k s.fixups c
    → AreCertified 0 (take k sections) done → AreCertified 0 (take (k + 1) sections) (done ++ c ∷ [])
certified_more sections k s d done c under found is are =
    let taken : take (k + 1) sections ≡ take k sections ++ s ∷ [] = take_more sections k d under ∙ ap (λ x. take k sections ++ x ∷ []) (sym found) in
    let at : k ≡ 0 + length (take k sections) = omega (arith, length-take-le k sections (omega (arith, under))) in
    let own : IsCertified (0 + length (take k sections)) s.fixups c = subst (λ n. IsCertified n s.fixups c) at is in
    subst (λ ss. AreCertified 0 ss (done ++ c ∷ [])) (sym taken) (certified_after 0 (take k sections) done s c are own)

-- planned programs so far, and one more
planned_after : (sections : List DescribedSection) (certificates : List Certified) (s : DescribedSection) (c : Certified) → ArePlanned sections certificates → Planned s.fixups c.program → ArePlanned (sections ++ s ∷ []) (certificates ++ c ∷ [])
planned_after [] [] s c are is = (is, tt)
planned_after [] (d ∷ certificates) s c are is = absurd are
planned_after (t ∷ sections) [] s c are is = absurd are
planned_after (t ∷ sections) (d ∷ certificates) s c are is = (are.0, planned_after sections certificates s c are.1 is)

pub planned_more : (sections : List DescribedSection) (k : ℕ) (s d : DescribedSection) (done : List Certified) (c : Certified) → k < length sections → s ≡ get_or sections k d → Planned s.fixups c.program
    → ArePlanned (take k sections) done → ArePlanned (take (k + 1) sections) (done ++ c ∷ [])
planned_more sections k s d done c under found is are =
    let taken : take (k + 1) sections ≡ take k sections ++ s ∷ [] = take_more sections k d under ∙ ap (λ x. take k sections ++ x ∷ []) (sym found) in
    subst (λ ss. ArePlanned ss (done ++ c ∷ [])) (sym taken) (planned_after (take k sections) done s c are is)

-- .. with their programs, and one more
pub encoded_more : (sections : List DescribedSection) (k : ℕ) (s d : DescribedSection) (certificates with : List Certified) (done now : List (List ℕ)) (lengths after : List ℕ) (c : Certified) → k < length sections → s ≡ get_or sections k d → IsCertified k s.fixups c → Planned s.fixups c.program
    → with ≡ certificates ++ c ∷ [] → now ≡ done ++ spelled c.program ∷ [] → after ≡ lengths ++ program_length c.program ∷ [] → AreEncodedFor (take k sections) certificates done lengths → AreEncodedFor (take (k + 1) sections) with now after
encoded_more sections k s d certificates with done now lengths after c under found is planned pushed spelt counted e =
    subst (λ cs. AreEncodedFor (take (k + 1) sections) cs now after) (sym pushed) (record {
      certified = certified_more sections k s d certificates c under found is e.certified;
      planned = planned_more sections k s d certificates c under found planned e.planned;
      programs_are = spelt ∙ ap (λ ps. ps ++ spelled c.program ∷ []) e.programs_are ∙ sym (map-append (λ (c : Certified). spelled c.program) certificates (c ∷ []));
      lengths_are = counted ∙ ap (λ ns. ns ++ program_length c.program ∷ []) e.lengths_are ∙ sym (map-append (λ (c : Certified). program_length c.program) certificates (c ∷ []));
    })
