-- A least program names only what its fixups use. An instruction that names anything else could be left out.
use Rattle.std.proofs.Common.{◌≡◌, ℕ, zero, suc, ◌+◌, ◌*◌, ◌≤◌, Bool, true, false, ◌&&◌, ◌||◌, ◌==◌, nat_le, List, [], ◌∷◌, ◌++◌, refl, ap, sym, ◌∙◌, subst, arith, eq-eqb}
use Rattle.std.proofs.lemmas.Bool.{and_from, and_parts, leb-true, or_right}
use Rattle.std.proofs.lemmas.List.{append_assoc}
use Rattle.pef_reloc.specs.declared.fixup.Base.TheVariants.{Section, Import}
use Rattle.pef_reloc.specs.declared.fixup.Fixup.{Fixup}
use Rattle.pef_reloc.specs.declared.instr.Instr.{Instr}
use Rattle.pef_reloc.specs.declared.instr.Instr.TheVariants.{BySectDWithSkip, BySectC, BySectD, TVector12, TVector8, VTable8, ImportRun, SmByImport, SmSetSectC, SmSetSectD, SmBySection, IncrPosition, SmRepeat, SetPosition, LgByImport, LgRepeat, LgBySection, LgSetSectC, LgSetSectD}
use Rattle.pef_reloc.specs.Deliveries.{all_meet, is_flat_instr, names_used, uses_import, uses_section}
use Rattle.pef_reloc.specs.Instrs.{counts_to}
use Rattle.pef_reloc.specs.Steps.{Least, State, added, additions, is_flat, named_sections, next_state, pairs, row, start, state_after, trace}
use Rattle.pef_reloc.specs.Deliveries.{named_imports}
use Rattle.pef_reloc.proofs.Laws.{flat-append, flat-before, flat-after, flat_parts, program_length-append, some_length, trace-append, uses_import-append, uses_section-append}

or_none : (a b : Bool) → (a || b) ≡ false → (a ≡ false) × (b ≡ false)
or_none false b e = (refl, e)
or_none true b e = absurd (cc)

true_or : (b : Bool) → (b ≡ false → ⊥) → b ≡ true
true_or true never = refl
true_or false never = absurd (never refl)

never_both : (b : Bool) → b ≡ true → b ≡ false → ⊥
never_both true e f = absurd (cc)
never_both false e f = absurd (cc)

some : (limit n : ℕ) → counts_to limit n ≡ true → 1 ≤ n
some limit n e = leb-true 1 n (and_parts (nat_le 1 n) (nat_le n limit) e).0

-- an addition uses its section
first_used : (p k : ℕ) (fs : List Fixup) → uses_section (added p (Section k) ∷ fs) k ≡ true
first_used p k fs = rw (eq-eqb k k refl) refl

row_used : (n p w k : ℕ) → 1 ≤ n → uses_section (row n p w (Section k)) k ≡ true
unfolding row
row_used zero p w k more = absurd (omega (arith, more))
row_used (suc n) p w k more = first_used p k (row n (p + w) w (Section k))

pairs_used_c : (n p w c d : ℕ) → 1 ≤ n → uses_section (pairs n p w (Section c) (Section d)) c ≡ true
unfolding pairs
pairs_used_c zero p w c d more = absurd (omega (arith, more))
pairs_used_c (suc n) p w c d more = first_used p c (added (p + 4) (Section d) ∷ pairs n (p + w) w (Section c) (Section d))

pairs_used_d : (n p w c d : ℕ) → 1 ≤ n → uses_section (pairs n p w (Section c) (Section d)) d ≡ true
unfolding pairs
pairs_used_d zero p w c d more = absurd (omega (arith, more))
pairs_used_d (suc n) p w c d more = or_right (c == d) (uses_section (added (p + 4) (Section d) ∷ pairs n (p + w) w (Section c) (Section d)) d) (first_used (p + 4) d (pairs n (p + w) w (Section c) (Section d)))

-- an instruction adds the section of register C, or sets the register, or does neither
data WithC (x : Instr) (s : State) (k : ℕ) : Type 0 where
  adds_c : uses_section (additions x s) s.c ≡ true → WithC x s k
  sets_c : additions x s ≡ additions x (record s { c = k }) → next_state x s ≡ next_state x (record s { c = k }) → WithC x s k
  keeps_c : additions x s ≡ additions x (record s { c = k }) → record (next_state x s) { c = k } ≡ next_state x (record s { c = k }) → (next_state x s).c ≡ s.c → WithC x s k

with_c : (x : Instr) (s : State) (k : ℕ) → is_flat_instr x ≡ true → WithC x s k
with_c (BySectDWithSkip skip n) s k e = keeps_c refl refl refl
with_c (BySectC n) s k e = adds_c (row_used n s.position 4 s.c (some 512 n e))
with_c (BySectD n) s k e = keeps_c refl refl refl
with_c (TVector12 n) s k e = adds_c (pairs_used_c n s.position 12 s.c s.d (some 512 n e))
with_c (TVector8 n) s k e = adds_c (pairs_used_c n s.position 8 s.c s.d (some 512 n e))
with_c (VTable8 n) s k e = keeps_c refl refl refl
with_c (ImportRun n) s k e = keeps_c refl refl refl
with_c (SmByImport j) s k e = keeps_c refl refl refl
with_c (SmSetSectC j) s k e = sets_c refl refl
with_c (SmSetSectD j) s k e = keeps_c refl refl refl
with_c (SmBySection j) s k e = keeps_c refl refl refl
with_c (IncrPosition j) s k e = keeps_c refl refl refl
with_c (SmRepeat blocks n) s k e = keeps_c refl refl refl
with_c (SetPosition q) s k e = keeps_c refl refl refl
with_c (LgByImport j) s k e = keeps_c refl refl refl
with_c (LgRepeat blocks n) s k e = keeps_c refl refl refl
with_c (LgBySection j) s k e = keeps_c refl refl refl
with_c (LgSetSectC j) s k e = sets_c refl refl
with_c (LgSetSectD j) s k e = keeps_c refl refl refl

-- the same for register D
data WithD (x : Instr) (s : State) (k : ℕ) : Type 0 where
  adds_d : uses_section (additions x s) s.d ≡ true → WithD x s k
  sets_d : additions x s ≡ additions x (record s { d = k }) → next_state x s ≡ next_state x (record s { d = k }) → WithD x s k
  keeps_d : additions x s ≡ additions x (record s { d = k }) → record (next_state x s) { d = k } ≡ next_state x (record s { d = k }) → (next_state x s).d ≡ s.d → WithD x s k

with_d : (x : Instr) (s : State) (k : ℕ) → is_flat_instr x ≡ true → WithD x s k
unfolding row
with_d (BySectDWithSkip skip zero) s k e = keeps_d refl refl refl
with_d (BySectDWithSkip skip (suc n)) s k e = adds_d (row_used (suc n) (s.position + 4 * skip) 4 s.d (omega arith))
with_d (BySectC n) s k e = keeps_d refl refl refl
with_d (BySectD n) s k e = adds_d (row_used n s.position 4 s.d (some 512 n e))
with_d (TVector12 n) s k e = adds_d (pairs_used_d n s.position 12 s.c s.d (some 512 n e))
with_d (TVector8 n) s k e = adds_d (pairs_used_d n s.position 8 s.c s.d (some 512 n e))
with_d (VTable8 n) s k e = adds_d (row_used n s.position 8 s.d (some 512 n e))
with_d (ImportRun n) s k e = keeps_d refl refl refl
with_d (SmByImport j) s k e = keeps_d refl refl refl
with_d (SmSetSectC j) s k e = keeps_d refl refl refl
with_d (SmSetSectD j) s k e = sets_d refl refl
with_d (SmBySection j) s k e = keeps_d refl refl refl
with_d (IncrPosition j) s k e = keeps_d refl refl refl
with_d (SmRepeat blocks n) s k e = keeps_d refl refl refl
with_d (SetPosition q) s k e = keeps_d refl refl refl
with_d (LgByImport j) s k e = keeps_d refl refl refl
with_d (LgRepeat blocks n) s k e = keeps_d refl refl refl
with_d (LgBySection j) s k e = keeps_d refl refl refl
with_d (LgSetSectC j) s k e = keeps_d refl refl refl
with_d (LgSetSectD j) s k e = sets_d refl refl

unused_after : (x : Instr) (xs : List Instr) (s : State) (k : ℕ) → uses_section (trace (x ∷ xs) s) k ≡ false → (uses_section (additions x s) k ≡ false) × (uses_section (trace xs (next_state x s)) k ≡ false)
unused_after x xs s k e = or_none (uses_section (additions x s) k) (uses_section (trace xs (next_state x s)) k) (sym (uses_section-append (additions x s) (trace xs (next_state x s)) k) ∙ e)

-- a list does the same from a state with another section in register C, if it never adds the register's section
other_c : (xs : List Instr) (s : State) (k : ℕ) → is_flat xs ≡ true → uses_section (trace xs s) s.c ≡ false → trace xs s ≡ trace xs (record s { c = k })
other_c [] s k flat unused = refl
other_c (x ∷ xs) s k flat unused = go (other_c xs (next_state x s) k (flat_parts x xs flat).others) (with_c x s k (flat_parts x xs flat).first) (unused_after x xs s s.c unused)
  where
    go : (uses_section (trace xs (next_state x s)) (next_state x s).c ≡ false → trace xs (next_state x s) ≡ trace xs (record (next_state x s) { c = k })) → WithC x s k → (uses_section (additions x s) s.c ≡ false) × (uses_section (trace xs (next_state x s)) s.c ≡ false) → trace (x ∷ xs) s ≡ trace (x ∷ xs) (record s { c = k })
    go more (adds_c used) none = absurd (never_both (uses_section (additions x s) s.c) used none.0)
    go more (sets_c same next) none = ap (λ fs. fs ++ trace xs (next_state x s)) same ∙ ap (λ q. additions x (record s { c = k }) ++ trace xs q) next
    go more (keeps_c same next kept) none =
        ap (λ fs. fs ++ trace xs (next_state x s)) same
        ∙ (ap (λ fs. additions x (record s { c = k }) ++ fs) (more (subst (λ (c : ℕ). uses_section (trace xs (next_state x s)) c ≡ false) (sym kept) none.1))
        ∙ ap (λ q. additions x (record s { c = k }) ++ trace xs q) next)

other_d : (xs : List Instr) (s : State) (k : ℕ) → is_flat xs ≡ true → uses_section (trace xs s) s.d ≡ false → trace xs s ≡ trace xs (record s { d = k })
other_d [] s k flat unused = refl
other_d (x ∷ xs) s k flat unused = go (other_d xs (next_state x s) k (flat_parts x xs flat).others) (with_d x s k (flat_parts x xs flat).first) (unused_after x xs s s.d unused)
  where
    go : (uses_section (trace xs (next_state x s)) (next_state x s).d ≡ false → trace xs (next_state x s) ≡ trace xs (record (next_state x s) { d = k })) → WithD x s k → (uses_section (additions x s) s.d ≡ false) × (uses_section (trace xs (next_state x s)) s.d ≡ false) → trace (x ∷ xs) s ≡ trace (x ∷ xs) (record s { d = k })
    go more (adds_d used) none = absurd (never_both (uses_section (additions x s) s.d) used none.0)
    go more (sets_d same next) none = ap (λ fs. fs ++ trace xs (next_state x s)) same ∙ ap (λ q. additions x (record s { d = k }) ++ trace xs q) next
    go more (keeps_d same next kept) none =
        ap (λ fs. fs ++ trace xs (next_state x s)) same
        ∙ (ap (λ fs. additions x (record s { d = k }) ++ fs) (more (subst (λ (d : ℕ). uses_section (trace xs (next_state x s)) d ≡ false) (sym kept) none.1))
        ∙ ap (λ q. additions x (record s { d = k }) ++ trace xs q) next)

-- an instruction of a least list, with those before it and after it
record Amid (fixups : List Fixup) (done : List Instr) (x : Instr) (rest : List Instr) : Type 0 where
  least : Least fixups (done ++ x ∷ rest)

here : List Instr → State
here done = state_after done start

whole : (fixups : List Fixup) (done : List Instr) (x : Instr) (rest : List Instr) → Amid fixups done x rest → trace done start ++ trace (x ∷ rest) (here done) ≡ fixups
unfolding here
whole fixups done x rest a = sym (trace-append done (x ∷ rest) start) ∙ a.least.makes

rest_flat : (fixups : List Fixup) (done : List Instr) (x : Instr) (rest : List Instr) → Amid fixups done x rest → is_flat rest ≡ true
rest_flat fixups done x rest a = (flat_parts x rest (flat-after done (x ∷ rest) a.least.flat)).others

-- none of its instructions can be left out
none_idle : (fixups : List Fixup) (done : List Instr) (x : Instr) (rest : List Instr) → Amid fixups done x rest → trace (x ∷ rest) (here done) ≡ trace rest (here done) → ⊥
unfolding here
none_idle fixups done x rest a same =
    let others : List Instr = done ++ rest in
    let flat = flat-append done rest (flat-before done (x ∷ rest) a.least.flat) (rest_flat fixups done x rest a) in
    let makes : trace (done ++ rest) start ≡ fixups = trace-append done rest start ∙ (ap (λ fs. trace done start ++ fs) (sym same) ∙ whole fixups done x rest a) in
    let low = a.least.shortest (done ++ rest) flat makes in
    let one = program_length-append done (x ∷ rest) in
    let two = program_length-append done rest in
    let more = some_length x in
    omega (arith, low, one, two, more)

section_used : (fixups : List Fixup) (done : List Instr) (x : Instr) (rest : List Instr) (k : ℕ) → Amid fixups done x rest → uses_section (trace (x ∷ rest) (here done)) k ≡ true → uses_section fixups k ≡ true
section_used fixups done x rest k a e =
    ap (λ fs. uses_section fs k) (sym (whole fixups done x rest a))
    ∙ (uses_section-append (trace done start) (trace (x ∷ rest) (here done)) k
    ∙ or_right (uses_section (trace done start) k) (uses_section (trace (x ∷ rest) (here done)) k) e)

import_used : (fixups : List Fixup) (done : List Instr) (x : Instr) (rest : List Instr) (k : ℕ) → Amid fixups done x rest → uses_import (trace (x ∷ rest) (here done)) k ≡ true → uses_import fixups k ≡ true
import_used fixups done x rest k a e =
    ap (λ fs. uses_import fs k) (sym (whole fixups done x rest a))
    ∙ (uses_import-append (trace done start) (trace (x ∷ rest) (here done)) k
    ∙ or_right (uses_import (trace done start) k) (uses_import (trace (x ∷ rest) (here done)) k) e)

set_used_c : (fixups : List Fixup) (done : List Instr) (x : Instr) (rest : List Instr) (k : ℕ) → Amid fixups done x rest → trace (x ∷ rest) (here done) ≡ trace rest (record (here done) { c = k }) → uses_section fixups k ≡ true
set_used_c fixups done x rest k a is = section_used fixups done x rest k a (true_or _ (λ none.
    none_idle fixups done x rest a (is ∙ other_c rest (record (here done) { c = k }) (here done).c (rest_flat fixups done x rest a) (ap (λ fs. uses_section fs k) (sym is) ∙ none))))

set_used_d : (fixups : List Fixup) (done : List Instr) (x : Instr) (rest : List Instr) (k : ℕ) → Amid fixups done x rest → trace (x ∷ rest) (here done) ≡ trace rest (record (here done) { d = k }) → uses_section fixups k ≡ true
set_used_d fixups done x rest k a is = section_used fixups done x rest k a (true_or _ (λ none.
    none_idle fixups done x rest a (is ∙ other_d rest (record (here done) { d = k }) (here done).d (rest_flat fixups done x rest a) (ap (λ fs. uses_section fs k) (sym is) ∙ none))))

abbrev NamesUsed : List Fixup → Instr → Type 0
NamesUsed fixups x = (all_meet (uses_section fixups) (named_sections x) && all_meet (uses_import fixups) (named_imports x)) ≡ true

one_met : (b : Bool) → b ≡ true → ((b && true) && true) ≡ true
one_met b e = rw e refl

import_met : (b : Bool) → b ≡ true → (true && (b && true)) ≡ true
import_met b e = rw e refl

import_first : (p k : ℕ) (fs : List Fixup) → uses_import (added p (Import k) ∷ fs) k ≡ true
import_first p k fs = rw (eq-eqb k k refl) refl

name_used : (fixups : List Fixup) (done : List Instr) (x : Instr) (rest : List Instr) → Amid fixups done x rest → NamesUsed fixups x
name_used fixups done (SmByImport k) rest a = import_met (uses_import fixups k) (import_used fixups done (SmByImport k) rest k a (import_first (here done).position k (trace rest (next_state (SmByImport k) (here done)))))
name_used fixups done (LgByImport k) rest a = import_met (uses_import fixups k) (import_used fixups done (LgByImport k) rest k a (import_first (here done).position k (trace rest (next_state (LgByImport k) (here done)))))
name_used fixups done (SmBySection k) rest a = one_met (uses_section fixups k) (section_used fixups done (SmBySection k) rest k a (first_used (here done).position k (trace rest (next_state (SmBySection k) (here done)))))
name_used fixups done (LgBySection k) rest a = one_met (uses_section fixups k) (section_used fixups done (LgBySection k) rest k a (first_used (here done).position k (trace rest (next_state (LgBySection k) (here done)))))
name_used fixups done (SmSetSectC k) rest a = one_met (uses_section fixups k) (set_used_c fixups done (SmSetSectC k) rest k a refl)
name_used fixups done (LgSetSectC k) rest a = one_met (uses_section fixups k) (set_used_c fixups done (LgSetSectC k) rest k a refl)
name_used fixups done (SmSetSectD k) rest a = one_met (uses_section fixups k) (set_used_d fixups done (SmSetSectD k) rest k a refl)
name_used fixups done (LgSetSectD k) rest a = one_met (uses_section fixups k) (set_used_d fixups done (LgSetSectD k) rest k a refl)
name_used fixups done _ rest a = refl

names_all : (fixups : List Fixup) (done xs : List Instr) → Least fixups (done ++ xs) → names_used fixups xs ≡ true
names_all fixups done [] least = refl
names_all fixups done (x ∷ xs) least =
    and_from (all_meet (uses_section fixups) (named_sections x) && all_meet (uses_import fixups) (named_imports x)) (names_used fixups xs)
    (name_used fixups done x xs (record { least = least }))
    (names_all fixups (done ++ x ∷ []) xs (subst (λ (ys : List Instr). Least fixups ys) (sym (append_assoc done (x ∷ []) xs)) least))

pub least-names : (fixups : List Fixup) (instrs : List Instr) → Least fixups instrs → names_used fixups instrs ≡ true
least-names fixups instrs least = names_all fixups [] instrs least
