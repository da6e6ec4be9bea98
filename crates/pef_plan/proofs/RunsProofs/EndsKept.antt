-- Windows that were moved to the previous fixup have the ends of the runs that begin there.
use Rattle.std.proofs.Common.{◌≡◌, ℕ, ◌+◌, ◌*◌, ◌<◌, Bool, List, [], ◌∷◌, length, Option, None, Some, refl, ap, ap₂, sym, ◌∙◌, subst, arith, slice_index}
use Rattle.pef_reloc.specs.declared.fixup.Base.{Base}
use Rattle.pef_reloc.specs.declared.fixup.Base.TheVariants.{Section, Import}
use Rattle.pef_reloc.specs.declared.fixup.Fixup.{Fixup}
use Rattle.pef_reloc.specs.Steps.{added}
use Rattle.pef_cert.specs.Labels.{Labels, class_of, classes}
use Rattle.pef_cert.specs.Extension.{extension}
use Rattle.pef_cert.proofs.Laws.{class_of-below}
use Rattle.pef_plan.specs.declared.runs.run.Run.TheVariants.{WordsOfD, Spaced, Pairs, SpacedPairs, Imports}
use Rattle.pef_plan.specs.declared.runs.ends.RunEnds.{RunEnds}
use Rattle.pef_plan.specs.declared.runs.ends.WordWindows.{WordWindows}
use Rattle.pef_plan.specs.declared.runs.suffix.SolvedSuffix.{SolvedSuffix}
use Rattle.pef_plan.specs.declared.runs.state.FixupState.{FixupState}
use Rattle.pef_plan.specs.Runs.Ends.{Begins, Brought, BroughtMaybe, ColumnAt, EndRows, EndsAt, EndsOf, FarAt, FarKept, FarPairsAt, FarPairsKept, GoesOnAfter, GoesOnMaybe, Holding, HoldingTwo, ImportsAt, ImportsKept, NearKept, NearSmall, PairAfter, PairsAt, PairsKept, WordEnds, SpacedAt, SpacedKept, WordsOfCAt, WordsOfCKept, WordsOfDAt, WordsOfDKept, far_pairs_run, pairs_run, rest_of, second_of, sections_of}
use Rattle.pef_plan.specs.Runs.Kept.Turns.{Turns}
use Rattle.pef_plan.specs.Runs.Tables.{Agrees, place_of}
use Rattle.pef_plan.specs.Windows.Windows.{WindowOf, Windowed, rows_brought, rows_moved}
use Rattle.pef_plan.proofs.RunsProofs.EndLemmas.{brought, brought-maybe}

-- the contracts of the calls that move windows to a place
abbrev pub Brings : Bool → List ℕ → Windowed → Windowed → Type 0
Brings on row old new = (count limit : ℕ) (rows : List (List ℕ)) → WindowOf count limit rows old → WindowOf count limit (rows_brought on limit rows row) new

abbrev pub Moves : Option Bool → List ℕ → Windowed → Windowed → Type 0
Moves on row old new = (count limit : ℕ) (rows : List (List ℕ)) → WindowOf count limit rows old → WindowOf count limit (rows_moved on limit rows row) new

-- a fixup with a base
based : (f : Fixup) (rest : List Fixup) (b : Base) → f.base ≡ b → f ∷ rest ≡ added f.offset b ∷ rest
based f rest b base = ap (λ x. added f.offset x ∷ rest) base

tail_same : (f g : Fixup) (rest left : List Fixup) → f ∷ rest ≡ g ∷ left → rest ≡ left
tail_same f g rest left e = cc

tail_two : (f g h : Fixup) (rest left : List Fixup) → f ∷ rest ≡ g ∷ h ∷ left → rest ≡ h ∷ left
tail_two f g h rest left e = cc

-- a line has the extension right after the first fixup with register C in a section's class
abbrev pub LineAt : Labels → Fixup → List Fixup → List ℕ → ℕ → Type 0
LineAt l f rest line k = (c d : ℕ) → c ≡ class_of l.registers k → d < classes l → slice_index line d ≡ extension l rest (f.offset + 4) c d

pub line_at : (l : Labels) (k : SolvedSuffix) (a : FixupState) (section : ℕ) (near line : List ℕ) → Agrees l k a.others.now → NearKept l (a.first ∷ a.others.now) near → ((d : ℕ) → d < length k.registers.now + 1 → slice_index line d ≡ slice_index near (place_of (length k.registers.now + 1) (class_of k.registers.now section) d)) → LineAt l a.first a.others.now line section
line_at l k a section near line agrees kept copied = λ c d is_c under_d.
    let regs = agrees.same.registers_are in
    let same : classes l ≡ length k.registers.now + 1 = ap (λ rs. length rs + 1) regs in
    let class : class_of k.registers.now section ≡ c = ap (λ rs. class_of rs section) (sym regs) ∙ sym is_c in
    let under_c : c < classes l = subst (λ (n : ℕ). n < classes l) (sym is_c) (class_of-below l section) in
    copied d (omega (arith, under_d, same))
    ∙ (ap₂ (λ n x. slice_index near (place_of n x d)) (sym same) class
    ∙ kept c d under_c under_d)

pub column_at : (l : Labels) (k : SolvedSuffix) (a : FixupState) (section : ℕ) (near column : List ℕ) → Agrees l k a.others.now → NearKept l (a.first ∷ a.others.now) near → ((c : ℕ) → c < length k.registers.now + 1 → slice_index column c ≡ slice_index near (place_of (length k.registers.now + 1) c (class_of k.registers.now section))) → ColumnAt l a.first a.others.now column section
column_at l k a section near column agrees kept copied = λ c d under_c is_d.
    let regs = agrees.same.registers_are in
    let same : classes l ≡ length k.registers.now + 1 = ap (λ rs. length rs + 1) regs in
    let class : class_of k.registers.now section ≡ d = ap (λ rs. class_of rs section) (sym regs) ∙ sym is_d in
    let under_d : d < classes l = subst (λ (n : ℕ). n < classes l) (sym is_d) (class_of-below l section) in
    copied c (omega (arith, under_c, same))
    ∙ (ap₂ (λ n x. slice_index near (place_of n c x)) (sym same) class
    ∙ kept c d under_c under_d)

words_c_go : (l : Labels) (f : Fixup) (rest : List Fixup) (count k : ℕ) (rows : List (List ℕ)) (row : List ℕ) (w : Windowed) → WordsOfCKept l rest rows → LineAt l f rest row k → (br : Brought (WordsOfD k) count 512 (f ∷ rest) f.offset 0 rows row w) → WordsOfCAt l f.offset (f ∷ rest) br.now (Section k)
words_c_go l f rest count k rows row w kept line br = λ c d is_c under_d.
    br.ends l c d d
    (λ left more parts on.
    let same = tail_same f (added f.offset (Section k)) rest left parts in
    let there : rest ≡ added (f.offset + 4) (Section k) ∷ more = same ∙ on in
    subst (λ (fs : List Fixup). EndRows l (WordsOfD k) 512 fs (f.offset + 4) 0 c d d rows) (sym on)
    (subst (λ (fs : List Fixup). WordsOfCKept l fs rows) there kept c d is_c under_d))
    (λ left parts. line c d is_c under_d ∙ ap (λ fs. extension l fs (f.offset + 4) c d) (tail_same f (added f.offset (Section k)) rest left parts))

words_d_go : (l : Labels) (f : Fixup) (rest : List Fixup) (count n k : ℕ) (rows : List (List ℕ)) (row : List ℕ) (w : Windowed) → WordsOfDKept n l rest rows → ColumnAt l f rest row k → (br : Brought (WordsOfD k) count n (f ∷ rest) f.offset 0 rows row w) → WordsOfDAt n l f.offset (f ∷ rest) br.now (Section k)
words_d_go l f rest count n k rows row w kept column br = λ c d under_c is_d.
    br.ends l c d c
    (λ left more parts on.
    let same = tail_same f (added f.offset (Section k)) rest left parts in
    let there : rest ≡ added (f.offset + 4) (Section k) ∷ more = same ∙ on in
    subst (λ (fs : List Fixup). EndRows l (WordsOfD k) n fs (f.offset + 4) 0 c d c rows) (sym on)
    (subst (λ (fs : List Fixup). WordsOfDKept n l fs rows) there kept c d under_c is_d))
    (λ left parts. column c d under_c is_d ∙ ap (λ fs. extension l fs (f.offset + 4) c d) (tail_same f (added f.offset (Section k)) rest left parts))

imports_go : (l : Labels) (f : Fixup) (rest : List Fixup) (count i : ℕ) (rows : List (List ℕ)) (row : List ℕ) (w : Windowed) → ImportsKept l rest rows → NearKept l (f ∷ rest) row → (br : Brought Imports count 512 (f ∷ rest) f.offset i rows row w) → ImportsAt l f.offset (f ∷ rest) br.now (Import i)
imports_go l f rest count i rows row w kept near br = λ c d under_c under_d.
    br.ends l c d (place_of (classes l) c d)
    (λ left more parts on.
    let same = tail_same f (added f.offset (Import i)) rest left parts in
    let there : rest ≡ added (f.offset + 4) (Import (i + 1)) ∷ more = same ∙ on in
    subst (λ (fs : List Fixup). EndRows l Imports 512 fs (f.offset + 4) (i + 1) c d (place_of (classes l) c d) rows) (sym on)
    (subst (λ (fs : List Fixup). ImportsKept l fs rows) there kept c d under_c under_d))
    (λ left parts. near c d under_c under_d ∙ ap (λ fs. extension l fs (f.offset + 4) c d) (tail_same f (added f.offset (Import i)) rest left parts))

spaced_go : (l : Labels) (f : Fixup) (rest : List Fixup) (count k : ℕ) (rows : List (List ℕ)) (row : List ℕ) (w : Windowed) → SpacedKept l rest rows → FarAt l f.offset rest row (Section k) → (br : Brought (Spaced k) count 512 (f ∷ rest) f.offset 0 rows row w) → SpacedAt l f.offset (f ∷ rest) br.now (Section k)
spaced_go l f rest count k rows row w kept far br = λ c d under_c is_d.
    br.ends l c d c
    (λ left more parts on.
    let same = tail_same f (added f.offset (Section k)) rest left parts in
    let there : rest ≡ added (f.offset + 8) (Section k) ∷ more = same ∙ on in
    subst (λ (fs : List Fixup). EndRows l (Spaced k) 512 fs (f.offset + 8) 0 c d c rows) (sym on)
    (subst (λ (fs : List Fixup). SpacedKept l fs rows) there kept c d under_c is_d))
    (λ left parts. far c d under_c is_d ∙ ap (λ fs. extension l fs (f.offset + 8) c d) (tail_same f (added f.offset (Section k)) rest left parts))

pairs_go : (l : Labels) (f : Fixup) (rest : List Fixup) (count j k v : ℕ) (rows : List (List ℕ)) (w : Windowed) → PairsKept l (rest_of rest) rows → PairAfter l 4 rest (Some (j, k)) v → (br : Brought (Pairs j k) count 512 (f ∷ rest) f.offset 0 rows (v ∷ []) w) → (c d : ℕ) → c ≡ class_of l.registers j → d ≡ class_of l.registers k → EndRows l (Pairs j k) 512 (f ∷ rest) f.offset 0 c d 0 br.now
pairs_go l f rest count j k v rows w kept behind br c d is_c is_d =
    br.ends l c d 0
    (λ left more parts on.
    let same = tail_two f (added f.offset (Section j)) (added (f.offset + 4) (Section k)) rest left parts in
    let there : rest_of rest ≡ added (f.offset + 8) (Section j) ∷ added (f.offset + 8 + 4) (Section k) ∷ more = ap rest_of same ∙ on in
    subst (λ (fs : List Fixup). EndRows l (Pairs j k) 512 fs (f.offset + 8) 0 c d 0 rows) (sym on)
    (subst (λ (fs : List Fixup). PairsKept l fs rows) there kept c d is_c is_d))
    (λ left parts.
    let same = tail_two f (added f.offset (Section j)) (added (f.offset + 4) (Section k)) rest left parts in
    let end : f.offset + 4 + 4 ≡ f.offset + 8 = omega arith in
    let value : v ≡ extension l left (f.offset + 4 + 4) (class_of l.registers j) (class_of l.registers k) = subst (λ (fs : List Fixup). PairAfter l 4 fs (Some (j, k)) v) same behind in
    value ∙ (ap (λ p. extension l left p (class_of l.registers j) (class_of l.registers k)) end ∙ ap₂ (λ x y. extension l left (f.offset + 8) x y) (sym is_c) (sym is_d)))

far_pairs_go : (l : Labels) (f : Fixup) (rest : List Fixup) (count j k v : ℕ) (rows : List (List ℕ)) (w : Windowed) → FarPairsKept l (rest_of rest) rows → PairAfter l 8 rest (Some (j, k)) v → (br : Brought (SpacedPairs j k) count 512 (f ∷ rest) f.offset 0 rows (v ∷ []) w) → (c d : ℕ) → c ≡ class_of l.registers j → d ≡ class_of l.registers k → EndRows l (SpacedPairs j k) 512 (f ∷ rest) f.offset 0 c d 0 br.now
far_pairs_go l f rest count j k v rows w kept behind br c d is_c is_d =
    br.ends l c d 0
    (λ left more parts on.
    let same = tail_two f (added f.offset (Section j)) (added (f.offset + 4) (Section k)) rest left parts in
    let there : rest_of rest ≡ added (f.offset + 12) (Section j) ∷ added (f.offset + 12 + 4) (Section k) ∷ more = ap rest_of same ∙ on in
    subst (λ (fs : List Fixup). EndRows l (SpacedPairs j k) 512 fs (f.offset + 12) 0 c d 0 rows) (sym on)
    (subst (λ (fs : List Fixup). FarPairsKept l fs rows) there kept c d is_c is_d))
    (λ left parts.
    let same = tail_two f (added f.offset (Section j)) (added (f.offset + 4) (Section k)) rest left parts in
    let end : f.offset + 4 + 8 ≡ f.offset + 12 = omega arith in
    let value : v ≡ extension l left (f.offset + 4 + 8) (class_of l.registers j) (class_of l.registers k) = subst (λ (fs : List Fixup). PairAfter l 8 fs (Some (j, k)) v) same behind in
    value ∙ (ap (λ p. extension l left p (class_of l.registers j) (class_of l.registers k)) end ∙ ap₂ (λ x y. extension l left (f.offset + 12) x y) (sym is_c) (sym is_d)))

-- the windows of words of a section
pub words_c_brought : (P : Labels → Type 0) (count k : ℕ) (f : Fixup) (rest : List Fixup) (on : Bool) (row : List ℕ) (old new : Windowed) → f.base ≡ Section k → Holding P count 512 (λ l rows. WordsOfCKept l rest rows) old → ((l : Labels) → P l → LineAt l f rest row k) → Begins (WordsOfD k) (f.offset + 4) 0 rest on → Brings on row old new → Holding P count 512 (λ l rows. WordsOfCKept l (f ∷ rest) rows) new
words_c_brought P count k f rest on row old new base held near begins brings =
    let b = brought (WordsOfD k) count 512 (f ∷ rest) rest f.offset 0 on held.rows row new (based f rest (Section k) base) begins (brings count 512 held.rows held.is) in
    record { rows = b.now; is = b.is; kept = λ l holds. subst (λ (x : Base). WordsOfCAt l f.offset (f ∷ rest) b.now x) (sym base) (words_c_go l f rest count k held.rows row new (held.kept l holds) (near l holds) b) }

pub words_d_brought : (P : Labels → Type 0) (count n k : ℕ) (f : Fixup) (rest : List Fixup) (on : Bool) (row : List ℕ) (old new : Windowed) → f.base ≡ Section k → Holding P count n (λ l rows. WordsOfDKept n l rest rows) old → ((l : Labels) → P l → ColumnAt l f rest row k) → Begins (WordsOfD k) (f.offset + 4) 0 rest on → Brings on row old new → Holding P count n (λ l rows. WordsOfDKept n l (f ∷ rest) rows) new
words_d_brought P count n k f rest on row old new base held near begins brings =
    let b = brought (WordsOfD k) count n (f ∷ rest) rest f.offset 0 on held.rows row new (based f rest (Section k) base) begins (brings count n held.rows held.is) in
    record { rows = b.now; is = b.is; kept = λ l holds. subst (λ (x : Base). WordsOfDAt n l f.offset (f ∷ rest) b.now x) (sym base) (words_d_go l f rest count n k held.rows row new (held.kept l holds) (near l holds) b) }

pub spaced_brought : (P : Labels → Type 0) (count k : ℕ) (f : Fixup) (rest : List Fixup) (on : Bool) (row : List ℕ) (old new : Windowed) → f.base ≡ Section k → Holding P count 512 (λ l rows. SpacedKept l rest rows) old → ((l : Labels) → P l → FarAt l f.offset rest row (Section k)) → Begins (Spaced k) (f.offset + 8) 0 rest on → Brings on row old new → Holding P count 512 (λ l rows. SpacedKept l (f ∷ rest) rows) new
spaced_brought P count k f rest on row old new base held far begins brings =
    let b = brought (Spaced k) count 512 (f ∷ rest) rest f.offset 0 on held.rows row new (based f rest (Section k) base) begins (brings count 512 held.rows held.is) in
    record { rows = b.now; is = b.is; kept = λ l holds. subst (λ (x : Base). SpacedAt l f.offset (f ∷ rest) b.now x) (sym base) (spaced_go l f rest count k held.rows row new (held.kept l holds) (far l holds) b) }

-- the window of imports
pub imports_brought : (P : Labels → Type 0) (count i : ℕ) (f : Fixup) (rest : List Fixup) (on : Bool) (row : List ℕ) (old new : Windowed) → f.base ≡ Import i → Holding P count 512 (λ l rows. ImportsKept l rest rows) old → ((l : Labels) → P l → NearKept l (f ∷ rest) row) → Begins Imports (f.offset + 4) (i + 1) rest on → Brings on row old new → Holding P count 512 (λ l rows. ImportsKept l (f ∷ rest) rows) new
imports_brought P count i f rest on row old new base held near begins brings =
    let b = brought Imports count 512 (f ∷ rest) rest f.offset i on held.rows row new (based f rest (Import i) base) begins (brings count 512 held.rows held.is) in
    record { rows = b.now; is = b.is; kept = λ l holds. subst (λ (x : Base). ImportsAt l f.offset (f ∷ rest) b.now x) (sym base) (imports_go l f rest count i held.rows row new (held.kept l holds) (near l holds) b) }

-- no run of imports begins at a section
imports_section : (P : Labels → Type 0) (count k : ℕ) (f : Fixup) (rest : List Fixup) (w : Windowed) → f.base ≡ Section k → Holding P count 512 (λ l rows. ImportsKept l rest rows) w → Holding P count 512 (λ l rows. ImportsKept l (f ∷ rest) rows) w
imports_section P count k f rest w base held = record { rows = held.rows; is = held.is; kept = λ l holds. subst (λ (x : Base). ImportsAt l f.offset (f ∷ rest) held.rows x) (sym base) tt }

-- no run of words begins at an import
pub words_import : (P : Labels → Type 0) (count i : ℕ) (f : Fixup) (rest : List Fixup) (w : WordWindows) → f.base ≡ Import i → WordEnds P count rest w → WordEnds P count (f ∷ rest) w
words_import P count i f rest w base held = record {
  in_c = record { rows = held.in_c.rows; is = held.in_c.is; kept = λ l holds. subst (λ (x : Base). WordsOfCAt l f.offset (f ∷ rest) held.in_c.rows x) (sym base) tt };
  in_d = record { rows = held.in_d.rows; is = held.in_d.is; kept = λ l holds. subst (λ (x : Base). WordsOfDAt 512 l f.offset (f ∷ rest) held.in_d.rows x) (sym base) tt };
  skips = record { rows = held.skips.rows; is = held.skips.is; kept = λ l holds. subst (λ (x : Base). WordsOfDAt 63 l f.offset (f ∷ rest) held.skips.rows x) (sym base) tt };
  spaced = record { rows = held.spaced.rows; is = held.spaced.is; kept = λ l holds. subst (λ (x : Base). SpacedAt l f.offset (f ∷ rest) held.spaced.rows x) (sym base) tt };
}

pub far_import : (l : Labels) (i : ℕ) (f : Fixup) (rest : List Fixup) (row : List ℕ) → f.base ≡ Import i → FarKept l (f ∷ rest) row
far_import l i f rest row base = subst (λ (x : Base). FarAt l f.offset rest row x) (sym base) tt

pub far_section : (l : Labels) (k : ℕ) (f : Fixup) (rest : List Fixup) (row : List ℕ) → f.base ≡ Section k → FarAt l f.offset rest row (Section k) → FarKept l (f ∷ rest) row
far_section l k f rest row base is = subst (λ (x : Base). FarAt l f.offset rest row x) (sym base) is

-- the extension after the pair of a fixup and the next one
second_is : (j : ℕ) (b : Base) (s : ℕ × ℕ) → second_of j b ≡ Some s → (j ≡ s.0) × (b ≡ Section s.1)
second_is j (Section k) s e = (cc, cc)
second_is j (Import i) s e = absurd (cc)

pub pair_near : (l : Labels) (b : Base) (others : List Fixup) (s : ℕ × ℕ) (near : List ℕ) (v : ℕ) → NearKept l others near → sections_of b others ≡ Some s → v ≡ slice_index near (place_of (classes l) (class_of l.registers s.0) (class_of l.registers s.1)) → PairAfter l 4 others (sections_of b others) v
pair_near l b [] s near v kept is value = tt
pair_near l b (g ∷ rest) s near v kept is value =
    subst (λ (o : Option (ℕ × ℕ)). PairAfter l 4 (g ∷ rest) o v) (sym is)
    (value ∙ kept (class_of l.registers s.0) (class_of l.registers s.1) (class_of-below l s.0) (class_of-below l s.1))

pub pair_far : (l : Labels) (b : Base) (others : List Fixup) (s : ℕ × ℕ) (far : List ℕ) (v : ℕ) → FarKept l others far → sections_of b others ≡ Some s → v ≡ slice_index far (class_of l.registers s.0) → PairAfter l 8 others (sections_of b others) v
pair_far l b [] s far v kept is value = tt
pair_far l (Import i) (g ∷ rest) s far v kept is value = absurd (cc)
pair_far l (Section j) (g ∷ rest) s far v kept is value =
    let base = (second_is j g.base s is).1 in
    subst (λ (o : Option (ℕ × ℕ)). PairAfter l 8 (g ∷ rest) o v) (sym is)
    (value ∙ subst (λ (x : Base). FarAt l g.offset rest far x) base kept (class_of l.registers s.0) (class_of l.registers s.1) (class_of-below l s.0) refl)

-- the windows of pairs
pairs_here : (P : Labels → Type 0) (count v : ℕ) (f : Fixup) (rest : List Fixup) (b : Base) (rows : List (List ℕ)) (w : Windowed) → f.base ≡ b → ((l : Labels) → P l → PairsKept l (rest_of rest) rows) → ((l : Labels) → P l → PairAfter l 4 rest (sections_of b rest) v) → BroughtMaybe (pairs_run (sections_of b rest)) count 512 (f ∷ rest) f.offset 0 rows (v ∷ []) w → Holding P count 512 (λ l now. PairsKept l (f ∷ rest) now) w
pairs_here P count v f [] (Section j) rows w base kept behind br = record { rows = br.0; is = br.1; kept = λ l holds. tt }
pairs_here P count v f [] (Import i) rows w base kept behind br = record { rows = br.0; is = br.1; kept = λ l holds. tt }
pairs_here P count v f (g ∷ rest) (Import i) rows w base kept behind br = record {
  rows = br.0;
  is = br.1;
  kept = λ l holds. subst (λ (x : Base). PairsAt l f.offset (f ∷ g ∷ rest) br.0 x g.base) (sym base) tt;
}
pairs_here P count v f (g ∷ rest) (Section j) rows w base kept behind br = go g.base refl behind br
  where
    go : (x : Base) → g.base ≡ x → ((l : Labels) → P l → PairAfter l 4 (g ∷ rest) (second_of j x) v) → BroughtMaybe (pairs_run (second_of j x)) count 512 (f ∷ g ∷ rest) f.offset 0 rows (v ∷ []) w → Holding P count 512 (λ l now. PairsKept l (f ∷ g ∷ rest) now) w
    go (Import i) next value b = record {
      rows = b.0;
      is = b.1;
      kept = λ l holds. subst (λ (x : Base). PairsAt l f.offset (f ∷ g ∷ rest) b.0 x g.base) (sym base) (subst (λ (x : Base). PairsAt l f.offset (f ∷ g ∷ rest) b.0 (Section j) x) (sym next) tt);
    }
    go (Section k) next value b = record {
      rows = b.now;
      is = b.is;
      kept = λ l holds. subst (λ (x : Base). PairsAt l f.offset (f ∷ g ∷ rest) b.now x g.base) (sym base) (subst (λ (x : Base). PairsAt l f.offset (f ∷ g ∷ rest) b.now (Section j) x) (sym next)
          (pairs_go l f (g ∷ rest) count j k v rows w (kept l holds) (value l holds) b));
    }

far_pairs_here : (P : Labels → Type 0) (count v : ℕ) (f : Fixup) (rest : List Fixup) (b : Base) (rows : List (List ℕ)) (w : Windowed) → f.base ≡ b → ((l : Labels) → P l → FarPairsKept l (rest_of rest) rows) → ((l : Labels) → P l → PairAfter l 8 rest (sections_of b rest) v) → BroughtMaybe (far_pairs_run (sections_of b rest)) count 512 (f ∷ rest) f.offset 0 rows (v ∷ []) w → Holding P count 512 (λ l now. FarPairsKept l (f ∷ rest) now) w
far_pairs_here P count v f [] (Section j) rows w base kept behind br = record { rows = br.0; is = br.1; kept = λ l holds. tt }
far_pairs_here P count v f [] (Import i) rows w base kept behind br = record { rows = br.0; is = br.1; kept = λ l holds. tt }
far_pairs_here P count v f (g ∷ rest) (Import i) rows w base kept behind br = record {
  rows = br.0;
  is = br.1;
  kept = λ l holds. subst (λ (x : Base). FarPairsAt l f.offset (f ∷ g ∷ rest) br.0 x g.base) (sym base) tt;
}
far_pairs_here P count v f (g ∷ rest) (Section j) rows w base kept behind br = go g.base refl behind br
  where
    go : (x : Base) → g.base ≡ x → ((l : Labels) → P l → PairAfter l 8 (g ∷ rest) (second_of j x) v) → BroughtMaybe (far_pairs_run (second_of j x)) count 512 (f ∷ g ∷ rest) f.offset 0 rows (v ∷ []) w → Holding P count 512 (λ l now. FarPairsKept l (f ∷ g ∷ rest) now) w
    go (Import i) next value b = record {
      rows = b.0;
      is = b.1;
      kept = λ l holds. subst (λ (x : Base). FarPairsAt l f.offset (f ∷ g ∷ rest) b.0 x g.base) (sym base) (subst (λ (x : Base). FarPairsAt l f.offset (f ∷ g ∷ rest) b.0 (Section j) x) (sym next) tt);
    }
    go (Section k) next value b = record {
      rows = b.now;
      is = b.is;
      kept = λ l holds. subst (λ (x : Base). FarPairsAt l f.offset (f ∷ g ∷ rest) b.now x g.base) (sym base) (subst (λ (x : Base). FarPairsAt l f.offset (f ∷ g ∷ rest) b.now (Section j) x) (sym next)
          (far_pairs_go l f (g ∷ rest) count j k v rows w (kept l holds) (value l holds) b));
    }

pub pairs_brought : (P : Labels → Type 0) (v : ℕ) (f : Fixup) (rest : List Fixup) (on : Option Bool) (old new : Turns) → HoldingTwo P PairsKept rest old → ((l : Labels) → P l → PairAfter l 4 rest (sections_of f.base rest) v) → GoesOnMaybe (pairs_run (sections_of f.base rest)) (f ∷ rest) f.offset 0 on → new.next ≡ old.here → Moves on (v ∷ []) old.next new.here → HoldingTwo P PairsKept (f ∷ rest) new
pairs_brought P v f rest on old new held behind goes same moves = record {
  here = pairs_here P 1 v f rest f.base held.next.rows new.here refl held.next.kept behind
      (brought-maybe (pairs_run (sections_of f.base rest)) 1 512 (f ∷ rest) f.offset 0 on held.next.rows (v ∷ []) new.here goes (moves 1 512 held.next.rows held.next.is));
  next = subst (λ (w : Windowed). Holding P 1 512 (λ l rows. PairsKept l rest rows) w) (sym same) held.here;
}

pub far_pairs_brought : (P : Labels → Type 0) (v : ℕ) (f : Fixup) (rest : List Fixup) (on : Option Bool) (old new : Turns) → HoldingTwo P FarPairsKept rest old → ((l : Labels) → P l → PairAfter l 8 rest (sections_of f.base rest) v) → GoesOnMaybe (far_pairs_run (sections_of f.base rest)) (f ∷ rest) f.offset 0 on → new.next ≡ old.here → Moves on (v ∷ []) old.next new.here → HoldingTwo P FarPairsKept (f ∷ rest) new
far_pairs_brought P v f rest on old new held behind goes same moves = record {
  here = far_pairs_here P 1 v f rest f.base held.next.rows new.here refl held.next.kept behind
      (brought-maybe (far_pairs_run (sections_of f.base rest)) 1 512 (f ∷ rest) f.offset 0 on held.next.rows (v ∷ []) new.here goes (moves 1 512 held.next.rows held.next.is));
  next = subst (λ (w : Windowed). Holding P 1 512 (λ l rows. FarPairsKept l rest rows) w) (sym same) held.here;
}

first_is : (b : Base) (others : List Fixup) (s : ℕ × ℕ) → sections_of b others ≡ Some s → b ≡ Section s.0
first_is (Section j) [] s is = absurd (cc)
first_is (Section j) (g ∷ rest) s is = ap Section (second_is j g.base s is).0
first_is (Import i) rest s is = absurd (cc)

-- whether a run of pairs goes on, from the fixups after the first
pub near_pairs_go_on : (f : Fixup) (others : List Fixup) (s : ℕ × ℕ) (on : Option Bool) → sections_of f.base others ≡ Some s → GoesOnAfter (Pairs s.0 s.1) others f.offset s.1 on → GoesOnMaybe (Some (Pairs s.0 s.1)) (f ∷ others) f.offset 0 on
near_pairs_go_on f others s None is none = λ left parts. none left (tail_same f (added f.offset (Section s.0)) others (added (f.offset + 4) (Section s.1) ∷ left) parts)
near_pairs_go_on f others s (Some on) is goes = (goes.0, based f others (Section s.0) (first_is f.base others s is) ∙ ap (λ fs. added f.offset (Section s.0) ∷ fs) goes.1, goes.2)

pub far_pairs_go_on : (f : Fixup) (others : List Fixup) (s : ℕ × ℕ) (on : Option Bool) → sections_of f.base others ≡ Some s → GoesOnAfter (SpacedPairs s.0 s.1) others f.offset s.1 on → GoesOnMaybe (Some (SpacedPairs s.0 s.1)) (f ∷ others) f.offset 0 on
far_pairs_go_on f others s None is none = λ left parts. none left (tail_same f (added f.offset (Section s.0)) others (added (f.offset + 4) (Section s.1) ∷ left) parts)
far_pairs_go_on f others s (Some on) is goes = (goes.0, based f others (Section s.0) (first_is f.base others s is) ∙ ap (λ fs. added f.offset (Section s.0) ∷ fs) goes.1, goes.2)

-- the windows that serve any fixup, after one more fixup
pub record Passed (k : SolvedSuffix) (a : FixupState) (old new : RunEnds) (pair far_pair : ℕ) (on far_on : Option Bool) : Type 0 where
  pub ends : EndsAt k a.others.now a.others.now old
  pub near_is : (l : Labels) → Agrees l k a.others.now → PairAfter l 4 a.others.now (sections_of a.first.base a.others.now) pair
  pub far_is : (l : Labels) → Agrees l k a.others.now → PairAfter l 8 a.others.now (sections_of a.first.base a.others.now) far_pair
  pub pairs_next : new.pairs.next ≡ old.pairs.here
  pub pairs_on : GoesOnMaybe (pairs_run (sections_of a.first.base a.others.now)) (a.first ∷ a.others.now) a.first.offset 0 on
  pub pairs : Moves on (pair ∷ []) old.pairs.next new.pairs.here
  pub far_next : new.far_pairs.next ≡ old.far_pairs.here
  pub far_pairs_on : GoesOnMaybe (far_pairs_run (sections_of a.first.base a.others.now)) (a.first ∷ a.others.now) a.first.offset 0 far_on
  pub far_pairs : Moves far_on (far_pair ∷ []) old.far_pairs.next new.far_pairs.here
  pub near_len : length new.near.items ≡ length old.near.items
  pub near : (l : Labels) → Agrees l k a.others.now → NearKept l (a.first ∷ a.others.now) new.near.items
  pub near_small : NearSmall (length k.registers.now + 1) (a.first ∷ a.others.now) new.near.items

-- all windows, at a fixup with a section and at one with an import
pub section_passed : (k : SolvedSuffix) (a : FixupState) (section : ℕ) (old new : RunEnds) (near far : ℕ) (on far_on : Option Bool) → a.first.base ≡ Section section → Passed k a old new near far on far_on
    → length new.column.items ≡ length k.registers.now + 1 → length new.far.items ≡ length k.registers.now + 1
    → ((l : Labels) → Agrees l k a.others.now → FarAt l a.first.offset a.others.now new.far.items (Section section))
    → WordEnds (λ l. Agrees l k a.others.now) (length k.registers.now + 1) (a.first ∷ a.others.now) new.words
    → new.imports ≡ old.imports
    → EndsAt k a.others.now (a.first ∷ a.others.now) new
section_passed k a section old new near far on far_on base p column_len far_len far_at words imports =
    let P : Labels → Type 0 = λ l. Agrees l k a.others.now in
    let count : ℕ = length k.registers.now + 1 in
    record {
      words = words;
      imports = imports_section P (count * count) section a.first a.others.now new.imports base (subst (λ (w : Windowed). Holding P (count * count) 512 (λ l rows. ImportsKept l a.others.now rows) w) (sym imports) p.ends.imports);
      pairs = pairs_brought P near a.first a.others.now on old.pairs new.pairs p.ends.pairs p.near_is p.pairs_on p.pairs_next p.pairs;
      far_pairs = far_pairs_brought P far a.first a.others.now far_on old.far_pairs new.far_pairs p.ends.far_pairs p.far_is p.far_pairs_on p.far_next p.far_pairs;
      near_len = p.near_len ∙ p.ends.near_len;
      column_len = column_len;
      far_len = far_len;
      near = p.near;
      near_small = p.near_small;
      far = λ l agrees. far_section l section a.first a.others.now new.far.items base (far_at l agrees);
    }

pub import_passed : (k : SolvedSuffix) (a : FixupState) (import : ℕ) (old new : RunEnds) (near far : ℕ) (on far_on : Option Bool) (goes : Bool) → a.first.base ≡ Import import → Passed k a old new near far on far_on
    → new.column ≡ old.column → new.far ≡ old.far
    → WordEnds (λ l. Agrees l k a.others.now) (length k.registers.now + 1) (a.first ∷ a.others.now) new.words
    → Begins Imports (a.first.offset + 4) (import + 1) a.others.now goes
    → Brings goes new.near.items old.imports new.imports
    → EndsAt k a.others.now (a.first ∷ a.others.now) new
import_passed k a import old new near far on far_on goes base p column far_same words begins brings =
    let P : Labels → Type 0 = λ l. Agrees l k a.others.now in
    let count : ℕ = length k.registers.now + 1 in
    record {
      words = words;
      imports = imports_brought P (count * count) import a.first a.others.now goes new.near.items old.imports new.imports base p.ends.imports p.near begins brings;
      pairs = pairs_brought P near a.first a.others.now on old.pairs new.pairs p.ends.pairs p.near_is p.pairs_on p.pairs_next p.pairs;
      far_pairs = far_pairs_brought P far a.first a.others.now far_on old.far_pairs new.far_pairs p.ends.far_pairs p.far_is p.far_pairs_on p.far_next p.far_pairs;
      near_len = p.near_len ∙ p.ends.near_len;
      column_len = ap (λ v. length v.items) column ∙ p.ends.column_len;
      far_len = ap (λ v. length v.items) far_same ∙ p.ends.far_len;
      near = p.near;
      near_small = p.near_small;
      far = λ l agrees. far_import l import a.first a.others.now new.far.items base;
    }

-- the windows, for labels with a stronger property
holding-map : (P Q : Labels → Type 0) (count n : ℕ) (Kept : Labels → List (List ℕ) → Type 0) (w : Windowed) → ((l : Labels) → Q l → P l) → Holding P count n Kept w → Holding Q count n Kept w
holding-map P Q count n Kept w to h = record { rows = h.rows; is = h.is; kept = λ l q. h.kept l (to l q) }

pub ends-map : (P Q : Labels → Type 0) (count : ℕ) (fixups : List Fixup) (e : RunEnds) → ((l : Labels) → Q l → P l) → EndsOf P count fixups e → EndsOf Q count fixups e
ends-map P Q count fixups e to ends = record {
  words = record {
    in_c = holding-map P Q count 512 (λ l rows. WordsOfCKept l fixups rows) e.words.in_c to ends.words.in_c;
    in_d = holding-map P Q count 512 (λ l rows. WordsOfDKept 512 l fixups rows) e.words.in_d to ends.words.in_d;
    skips = holding-map P Q count 63 (λ l rows. WordsOfDKept 63 l fixups rows) e.words.skips to ends.words.skips;
    spaced = holding-map P Q count 512 (λ l rows. SpacedKept l fixups rows) e.words.spaced to ends.words.spaced;
  };
  imports = holding-map P Q (count * count) 512 (λ l rows. ImportsKept l fixups rows) e.imports to ends.imports;
  pairs = record {
    here = holding-map P Q 1 512 (λ l rows. PairsKept l fixups rows) e.pairs.here to ends.pairs.here;
    next = holding-map P Q 1 512 (λ l rows. PairsKept l (rest_of fixups) rows) e.pairs.next to ends.pairs.next;
  };
  far_pairs = record {
    here = holding-map P Q 1 512 (λ l rows. FarPairsKept l fixups rows) e.far_pairs.here to ends.far_pairs.here;
    next = holding-map P Q 1 512 (λ l rows. FarPairsKept l (rest_of fixups) rows) e.far_pairs.next to ends.far_pairs.next;
  };
  near_len = ends.near_len;
  column_len = ends.column_len;
  far_len = ends.far_len;
  near = λ l q. ends.near l (to l q);
  near_small = ends.near_small;
  far = λ l q. ends.far l (to l q);
}
