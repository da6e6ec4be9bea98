-- Certificates that are judged one after the other.
use Rattle.std.proofs.Common.{◌≡◌, ◌≢◌, ◌⊎◌, inl, inr, ◌≤◌, ℕ, ◌+◌, ◌==◌, Bool, true, false, cond, ◌&&◌, List, [], ◌∷◌, ◌++◌, Option, None, Some, option_map, slice_get, refl, Result, Ok, Err, drop, get_or, length, length-append, sym, ap, subst, ◌∙◌, append_assoc, arith, eq-eqb, ◌<◌}
use Rattle.std.proofs.lemmas.Bool.{ne_eqb}
use Rattle.std.proofs.lemmas.List.{append-nil, drop_all}
use Rattle.std.proofs.lemmas.Option.{slice_get_cases}
use Rattle.pef_cert.specs.Certified.{Certified}
use Rattle.pef_cert.specs.Text.Grammar.{certificates_of}
use Rattle.pef_cert.specs.Text.Unread.{in_front}
use Rattle.pef_reloc.specs.declared.fixup.Fixup.{Fixup}
use Rattle.pef_script.specs.Script.{DescribedScript, DescribedSection}
use Rattle.pef_ports.specs.Ports.{FilesPort, Reads}
use Rattle.pef_tool.specs.Check.{AreVerdicts, DiffersInSections, HasChecked, HasVerdicts, IsVerdict, Judges, JudgesFiles, Texts, are_numbered, match_sections}
use Rattle.pef_tool.specs.Kept.Judged.{AreFirst, AreJudged, HasJudged, JudgesAll, JudgesNext, JudgesScript, next_fixups}
use Rattle.pef_faults.specs.declared.fault.Fault.{Fault}
use Rattle.pef_tool.specs.declared.check.Judging.{Judging}
use Rattle.pef_tool.specs.declared.check.Verdict.{Verdict}
use Rattle.pef_words.proofs.Laws.Lists.{drop-here}

-- the section whose fixups are found
fixups_found : (sections : List DescribedSection) (k : ℕ) (fixups : List Fixup) → Some fixups ≡ option_map (λ s. s.fixups) (slice_get sections k) → (s : DescribedSection) × (slice_get sections k ≡ Some s) × (s.fixups ≡ fixups)
fixups_found sections k fixups found = by (slice_get sections k) refl found
  where
    by : (o : Option DescribedSection) → slice_get sections k ≡ o → Some fixups ≡ option_map (λ s. s.fixups) o → (s : DescribedSection) × (slice_get sections k ≡ Some s) × (s.fixups ≡ fixups)
    by None at is = absurd (cc)
    by (Some s) at is = (s, at, cc)

-- none are found past the last section
none_past : (sections : List DescribedSection) (k : ℕ) → ◌≡◌ {A = Option (List Fixup)} None (option_map (λ s. s.fixups) (slice_get sections k)) → length sections ≤ k
none_past sections k none = by (slice_get_cases sections k).1
  where
    by : ((s : DescribedSection) × (k < length sections) × (slice_get sections k ≡ Some s) × (get_or sections k s ≡ s)) ⊎ ((length sections ≤ k) × (slice_get sections k ≡ None)) → length sections ≤ k
    by (inl found) = (let impossible : None ≡ Some (found.0).fixups = none ∙ ap (option_map (λ (s : DescribedSection). s.fixups)) found.2 in absurd (cc))
    by (inr past) = past.0

-- one more certificate, with its verdict
one_judged : (sections : List DescribedSection) (before : List Certified) (verdicts : List Verdict) (s : DescribedSection) (c : Certified) (v : Verdict)
    → AreFirst sections before verdicts → slice_get sections (length before) ≡ Some s → (c.section == length before) ≡ true → IsVerdict s.fixups c v → AreFirst sections (before ++ c ∷ []) (verdicts ++ v ∷ [])
one_judged sections before verdicts s c v so_far at number is =
    let count = so_far.count in
    let certificates_sum = length-append before (c ∷ []) in
    let verdicts_sum = length-append verdicts (v ∷ []) in
    let more : length (before ++ c ∷ []) ≡ length before + 1 = omega (arith, certificates_sum) in
    record {
      count = omega (arith, count, certificates_sum, verdicts_sum);
      numbered = λ others. ap (are_numbered 0) (append_assoc before (c ∷ []) others) ∙ so_far.numbered (c ∷ others) ∙ rw (number, more) refl;
      judged = λ others rest are. (let others_are = subst (λ (k : ℕ). AreVerdicts (drop k sections) others rest) more are in
          let both : AreVerdicts (s ∷ drop (length before + 1) sections) (c ∷ others) (v ∷ rest) = (is, others_are) in
          let all = so_far.judged (c ∷ others) (v ∷ rest) (subst (λ (ss : List DescribedSection). AreVerdicts ss (c ∷ others) (v ∷ rest)) (sym (drop-here sections (length before) s at)) both) in
          subst (λ (cs : List Certified). AreVerdicts sections cs ((verdicts ++ v ∷ []) ++ rest)) (sym (append_assoc before (c ∷ []) others))
          (subst (λ (vs : List Verdict). AreVerdicts sections (before ++ c ∷ others) vs) (sym (append_assoc verdicts (v ∷ []) rest)) all));
    }

next_judged : (sections : List DescribedSection) (before : List Certified) (verdicts : List Verdict) (c : Certified) (fixups : List Fixup) (v : Verdict)
    → AreFirst sections before verdicts → Some fixups ≡ next_fixups sections (length verdicts) c → IsVerdict fixups c v → AreFirst sections (before ++ c ∷ []) (verdicts ++ v ∷ [])
next_judged sections before verdicts c fixups v so_far found is = by (c.section == length before) refl (rw so_far.count at found)
  where
    by : (number : Bool) → (c.section == length before) ≡ number → Some fixups ≡ cond number (option_map (λ s. s.fixups) (slice_get sections (length before))) None → AreFirst sections (before ++ c ∷ []) (verdicts ++ v ∷ [])
    by true number found =
        let s = fixups_found sections (length before) fixups found in
        one_judged sections before verdicts s.0 c v so_far s.1 number (subst (λ (fs : List Fixup). IsVerdict fs c v) (sym s.2) is)
    by false number found = absurd (cc)

-- a certificate that isn't for the next section

both_false : (b : Bool) → (b && false) ≡ false
both_false true = refl
both_false false = refl

next_differs : (script : DescribedScript) (before : List Certified) (verdicts : List Verdict) (c : Certified) → AreFirst script.sections before verdicts → None ≡ next_fixups script.sections (length verdicts) c
    → (others : List Certified) → match_sections script ((before ++ c ∷ []) ++ others) ≡ false
next_differs script before verdicts c so_far none others = by (c.section == length before) refl (rw so_far.count at none)
  where
    by : (number : Bool) → (c.section == length before) ≡ number → None ≡ cond number (option_map (λ s. s.fixups) (slice_get script.sections (length before))) None → match_sections script ((before ++ c ∷ []) ++ others) ≡ false
    by true number none =
        let past = none_past script.sections (length before) none in
        let sum = length-append before (c ∷ []) in
        let whole = length-append (before ++ c ∷ []) others in
        rw (ne_eqb (length ((before ++ c ∷ []) ++ others)) (length script.sections) (λ same. omega (arith, same, whole, sum, past))) refl
    by false number none =
        let other = ap (are_numbered 0) (append_assoc before (c ∷ []) others) ∙ so_far.numbered (c ∷ others) ∙ rw number refl in
        rw other (both_false (length ((before ++ c ∷ []) ++ others) == length script.sections))

-- after the last certificate
pub has_verdicts : (texts : Texts) (script : DescribedScript) (certificates : List Certified) (differ : Bool) (verdicts : List Verdict) → HasChecked texts (record { script = script; certificates = certificates }) → AreJudged script certificates differ verdicts
    → differ ≡ false → length verdicts ≡ length script.sections → HasVerdicts texts verdicts
has_verdicts texts script certificates true verdicts has so_far none all = absurd (cc)
has_verdicts texts script certificates false verdicts has so_far none all =
    let count = so_far.count in
    let whole = append-nil certificates in
    let numbered = ap (are_numbered 0) (sym whole) ∙ so_far.numbered [] in
    let same : length certificates ≡ length script.sections = omega (arith, count, all) in
    let nothing : AreVerdicts [] [] [] = tt in
    let end = subst (λ (ss : List DescribedSection). AreVerdicts ss [] []) (sym (drop_all (length certificates) script.sections (omega (arith, same)))) nothing in
    let said = so_far.judged [] [] end in
    record {
      checked = record { script = script; certificates = certificates };
      has = has;
      matches = rw (numbered, same, eq-eqb (length script.sections) (length script.sections) refl) refl;
      verdicts_are = subst (λ (vs : List Verdict). AreVerdicts script.sections certificates vs) (append-nil verdicts)
          (subst (λ (cs : List Certified). AreVerdicts script.sections cs (verdicts ++ [])) whole said);
    }

-- the certificates are for other sections if there are too few of them, or one is for another
pub differs : (texts : Texts) (script : DescribedScript) (certificates : List Certified) (differ : Bool) (verdicts : List Verdict) → HasChecked texts (record { script = script; certificates = certificates }) → AreJudged script certificates differ verdicts
    → (differ ≡ true) ⊎ (length verdicts ≢ length script.sections) → DiffersInSections texts
differs texts script certificates true verdicts has so_far why = record { checked = record { script = script; certificates = certificates }; has = has; differ = ap (match_sections script) (sym (append-nil certificates)) ∙ so_far [] }
differs texts script certificates false verdicts has so_far (inl is) = absurd (cc)
differs texts script certificates false verdicts has so_far (inr other) =
    let count = so_far.count in
    record {
      checked = record { script = script; certificates = certificates };
      has = has;
      differ = rw (ne_eqb (length certificates) (length script.sections) (λ same. other (count ∙ same))) refl;
    }

-- the same, by what is known before the certificate

pub judged_next : (script : DescribedScript) (before : List Certified) (c : Certified) (differ : Bool) (verdicts all : List Verdict) (k : ℕ) (fixups : List Fixup) (v : Verdict) → AreJudged script before differ verdicts → differ ≡ false
    → k ≡ length verdicts → Some fixups ≡ next_fixups script.sections k c → IsVerdict fixups c v → all ≡ verdicts ++ v ∷ [] → AreJudged script (before ++ c ∷ []) differ all
judged_next script before c true verdicts all k fixups v so_far same at found is are = absurd (cc)
judged_next script before c false verdicts all k fixups v so_far same at found is are =
    subst (λ (vs : List Verdict). AreFirst script.sections (before ++ c ∷ []) vs) (sym are) (next_judged script.sections before verdicts c fixups v so_far (rw at at found) is)

pub judged_other : (script : DescribedScript) (before : List Certified) (c : Certified) (differ : Bool) (verdicts : List Verdict) (k : ℕ) → AreJudged script before differ verdicts → differ ≡ false
    → k ≡ length verdicts → None ≡ next_fixups script.sections k c → (others : List Certified) → match_sections script ((before ++ c ∷ []) ++ others) ≡ false
judged_other script before c true verdicts k so_far same at none = absurd (cc)
judged_other script before c false verdicts k so_far same at none = next_differs script before verdicts c so_far (rw at at none)

-- some certificates of a text were judged, and the others are left
pub record JudgedSoFar (script : DescribedScript) (judging : Judging) (whole left : Result (List Certified) ℕ) : Type 0 where
  pub before : List Certified
  pub whole_is : whole ≡ in_front before left
  pub judged : HasJudged script before judging

pub one_more : (script : DescribedScript) (c : Certified) (old new : Judging) (whole left next : Result (List Certified) ℕ) → JudgedSoFar script old whole left → left ≡ in_front (c ∷ []) next → JudgesNext script c old new → JudgedSoFar script new whole next
one_more script c old new whole left next so_far taken judges = record {
  before = so_far.before ++ c ∷ [];
  whole_is = so_far.whole_is ∙ rw taken (by next);
  judged = judges so_far.before so_far.judged;
}
  where
    by : (r : Result (List Certified) ℕ) → in_front so_far.before (in_front (c ∷ []) r) ≡ in_front (so_far.before ++ c ∷ []) r
    by (Ok others) = ap Ok (sym (append_assoc so_far.before (c ∷ []) others))
    by (Err line) = refl

-- no certificate is left
pub judged_whole : (script : DescribedScript) (judging : Judging) (text : List ℕ) (left : Result (List Certified) ℕ) (judged : Result (List Verdict) Fault) → JudgedSoFar script judging (certificates_of text) left → left ≡ Ok [] → JudgesAll script judging judged → JudgesScript script text judged
judged_whole script judging text left judged so_far none judges script_text is_script =
    let all : certificates_of text ≡ Ok so_far.before = so_far.whole_is ∙ rw none (ap Ok (append-nil so_far.before)) in
    judges so_far.before so_far.judged (record { script = script_text; certificates = text }) (record { script = is_script; certificates = all })

-- the texts of files that were read
pub files_judged : {F : Type 0} {port : FilesPort F} {before between after : F} {script cert text certificates : List ℕ} {judged : Result (List Verdict) Fault} (given given' : List ℕ)
    → Reads port before between script (Ok text) → Reads port between after cert (Ok certificates) → given ≡ text → given' ≡ certificates → Judges (record { script = given; certificates = given' }) judged
    → JudgesFiles port before after script cert judged
files_judged {F} {port} {before} {between} {after} {script} {cert} {text} {certificates} {judged} given given' first second same same' judges =
    let one = subst (λ (t : List ℕ). Judges (record { script = t; certificates = given' }) judged) same judges in
    record {
      texts = record { script = text; certificates = certificates };
      read = record { between = between; first = first; second = second };
      are = subst (λ (t : List ℕ). Judges (record { script = text; certificates = t }) judged) same' one;
    }
