-- The value of a line is the one that is read from it.
use Rattle.std.proofs.Common.{◌≡◌, ◌==◌, true, false, ℕ, suc, ◌+◌, ◌-◌, ◌<◌, ◌≤◌, List, [], ◌∷◌, ◌++◌, Option, None, Some, Result, Ok, Err, length, length-append, replicate, refl, arith, ap, ap₂, sym, ◌∙◌, subst, eq-eqb}
use Rattle.std.specs.Option.{ok_or}
use Rattle.std.proofs.lemmas.Bool.{ne_eqb}
use Rattle.std.proofs.lemmas.List.{length-replicate}
use Rattle.pef_words.specs.Results.{◌>>=◌}
use Rattle.pef_cert.specs.declared.text.fault.CertFault.{CertFault}
use Rattle.pef_cert.specs.declared.text.fault.CertFault.TheVariants.{BadCertificate, OutOfMemory}
use Rattle.pef_cert.specs.declared.text.lines.Line.{Line}
use Rattle.pef_cert.specs.Text.Grammar.{Left, last_labels, line_read, range_rows, ranges_read, rows_read}
use Rattle.pef_cert.specs.Text.Kept.Reading.{NextLine, RangesGoing, Says, Takes}
use Rattle.pef_cert.specs.Text.Views.{FailsAs}
use Rattle.pef_cert.specs.Text.Lines.{Range, range_line, row_line}

-- if there is no line, its number is refused
pub line_missing : {A : Type 0} (says : List ℕ → Option A) (old new : Left) → NextLine None old new → line_read says old ≡ Err new.number
unfolding line_read
line_missing says old new none = rw (none.0, ap (λ (l : Left). l.number) none.1) refl

-- a line is read by its value
pub line_taken : {A : Type 0} (result : Result A CertFault) (says : List ℕ → Option A) (line : Line) (old new : Left) → NextLine (Some line) old new → Says result line.number (says line.bytes.now) → Takes result new (line_read says old)
unfolding line_read
line_taken {A = A} result says line old new next is = rw (next.1) (by result (says line.bytes.now) (rw (next.0) at is))
  where
    behind : new ≡ record { number = old.number + 1; text = new.text }
    behind = ap (λ (n : ℕ). record { number = n; text = new.text }) next.2

    by : (r : Result A CertFault) (value : Option A) → Says r old.number value → Takes r new (ok_or value old.number >>= λ x. Ok (x, record { number = old.number + 1; text = new.text }))
    by (Ok x) None s = absurd (cc)
    by (Ok x) (Some y) s = (let same : y ≡ x = cc in rw (same, ← behind) refl)
    by (Err (BadCertificate l)) None s = (let same : old.number ≡ l = cc in rw same refl)
    by (Err (BadCertificate l)) (Some y) s = absurd (cc)
    by (Err OutOfMemory) value s = tt

-- rows of which some are left begin with one
pub rows_read-more : (width at count : ℕ) (rows : List (List ℕ)) (left : Left) → at < count
    → rows_read width at (count - at) rows left ≡ (line_read (row_line width at) left >>= λ row. rows_read width (at + 1) (count - (at + 1)) (rows ++ row.0 ∷ []) row.1)
rows_read-more width at count rows left under =
    let e : count - at ≡ suc (count - (at + 1)) = omega arith in
    rw e refl

-- the result of a second step, if the first has one
abbrev pub then_read : {A B : Type 0} → Option A → (A → Option B) → Option B
then_read None others = None
then_read (Some x) others = others x

-- a fault of the first part is one of the whole
pub fails_first : {A B : Type 0} (fault : CertFault) (number : ℕ) (first : Option A) (others : A → Option B) → FailsAs fault (ok_or first number) → FailsAs fault (ok_or (then_read first others) number)
fails_first (BadCertificate l) number None others is = (let same : number ≡ l = cc in rw same refl)
fails_first (BadCertificate l) number (Some x) others is = absurd (cc)
fails_first OutOfMemory number first others is = tt

-- the value that was read is that of the line
pub said_first : {A : Type 0} (value : Option A) (number : ℕ) (x : A) → ok_or value number ≡ Ok x → value ≡ Some x
said_first None number x is = absurd (cc)
said_first (Some y) number x is = (let same : y ≡ x = cc in rw same refl)

-- a fault of a step is one of the steps after it
pub fails_step : {A B : Type 0} (fault : CertFault) (step : Result A ℕ) (others : A → Result B ℕ) → FailsAs fault step → FailsAs fault (step >>= others)
fails_step (BadCertificate l) (Ok x) others is = absurd (cc)
fails_step (BadCertificate l) (Err n) others is = (let same : n ≡ l = cc in rw same refl)
fails_step OutOfMemory step others is = tt

-- rows whose first is read give the others
pub rows_read-step : (width at count : ℕ) (rows : List (List ℕ)) (row : List ℕ) (left next : Left) → at < count → line_read (row_line width at) left ≡ Ok (row, next)
    → rows_read width (at + 1) (count - (at + 1)) (rows ++ row ∷ []) next ≡ rows_read width at (count - at) rows left
rows_read-step width at count rows row left next under is = sym (rows_read-more width at count rows left under ∙ rw is refl)

-- and if the first is refused, they are
pub rows_read-fails : (fault : CertFault) (width at count : ℕ) (rows : List (List ℕ)) (left : Left) → at < count → FailsAs fault (line_read (row_line width at) left) → FailsAs fault (rows_read width at (count - at) rows left)
rows_read-fails fault width at count rows left under is =
    rw (rows_read-more width at count rows left under) (fails_step fault (line_read (row_line width at) left) (λ row. rows_read width (at + 1) (count - (at + 1)) (rows ++ row.0 ∷ []) row.1) is)

-- ranges of which none is read

pub ranges-begin : (width count : ℕ) (old : Left) → RangesGoing width count [] old old
ranges-begin width count old = record { most = count + 1; few = omega arith; more = omega arith; whole = refl }

-- ranges that are left begin with one
ranges_read-more : (width count most : ℕ) (rows : List (List ℕ)) (left : Left) → length rows < count → count < most + length rows
    → ranges_read width count most rows left ≡ (line_read (range_line width count (length rows) (last_labels rows)) left >>= λ range. ranges_read width count (most - 1) (rows ++ range_rows range.0) range.1)
ranges_read-more width count most rows left under enough =
    let e : most ≡ suc (most - 1) = omega (arith, under, enough) in
    let apart : (length rows == count) ≡ false = ne_eqb (length rows) count (λ same. omega (arith, same, under)) in
    ap (λ (n : ℕ). ranges_read width count n rows left) e ∙ rw apart refl

-- the value of the next line, by the beginning of the next range and the labels before it
next_range : (width count first : ℕ) (rows : List (List ℕ)) (before : List ℕ) (behind : Left) → length rows ≡ first → before ≡ last_labels rows
    → line_read (range_line width count (length rows) (last_labels rows)) behind ≡ line_read (range_line width count first before) behind
next_range width count first rows before behind at last = ap₂ (λ (n : ℕ) (labels : List ℕ). line_read (range_line width count n labels) behind) at (sym last)

-- the next range is read
pub ranges-step : (width count first last : ℕ) (rows : List (List ℕ)) (before labels : List ℕ) (behind next old : Left) → RangesGoing width count rows behind old
    → length rows ≡ first → before ≡ last_labels rows → first ≤ last → last < count
    → line_read (range_line width count first before) behind ≡ Ok (record { first = first; last = last; labels = labels }, next)
    → RangesGoing width count (rows ++ replicate (last - first + 1) labels) next old
ranges-step width count first last rows before labels behind next old going at before_is forward inside is =
    let few = going.few in
    let enough = going.more in
    let sum = length-append rows (replicate (last - first + 1) labels) in
    let more = length-replicate (last - first + 1) labels in
    let step = ranges_read-more width count going.most rows behind (omega (arith, at, forward, inside)) enough in
    let read = ap (λ (r : Result (Range × Left) ℕ). r >>= λ range. ranges_read width count (going.most - 1) (rows ++ range_rows range.0) range.1) (next_range width count first rows before behind at before_is ∙ is) in
    record {
      most = going.most - 1;
      few = omega (arith, at, sum, more, forward, inside);
      more = omega (arith, at, sum, more, forward, inside, enough);
      whole = sym (step ∙ read) ∙ going.whole;
    }

-- and if it is refused, they are
pub ranges-fail : (fault : CertFault) (width count first : ℕ) (rows : List (List ℕ)) (before : List ℕ) (behind old : Left) → RangesGoing width count rows behind old
    → length rows ≡ first → before ≡ last_labels rows → first < count
    → FailsAs fault (line_read (range_line width count first before) behind) → FailsAs fault (ranges_read width count (count + 1) [] old)
ranges-fail fault width count first rows before behind old going at before_is under is =
    let step = ranges_read-more width count going.most rows behind (omega (arith, at, under)) going.more in
    let others : Range × Left → Result (List (List ℕ) × Left) ℕ = λ range. ranges_read width count (going.most - 1) (rows ++ range_rows range.0) range.1 in
    subst (FailsAs fault) (sym step ∙ going.whole)
    (fails_step fault (line_read (range_line width count (length rows) (last_labels rows)) behind) others (subst (FailsAs fault) (sym (next_range width count first rows before behind at before_is)) is))

-- after the last one these are all
pub ranges-end : (width count : ℕ) (rows : List (List ℕ)) (behind old : Left) → RangesGoing width count rows behind old → count ≤ length rows → ranges_read width count (count + 1) [] old ≡ Ok (rows, behind)
ranges-end width count rows behind old going whole =
    let few = going.few in
    let enough = going.more in
    let e : going.most ≡ suc (going.most - 1) = omega (arith, few, enough) in
    let same : (length rows == count) ≡ true = eq-eqb (length rows) count (omega (arith, few, whole)) in
    sym going.whole ∙ ap (λ (n : ℕ). ranges_read width count n rows behind) e ∙ rw same refl

-- what is left of a text before its first line
abbrev pub whole_text : List ℕ → Left
whole_text text = record { number = 1; text = text }
