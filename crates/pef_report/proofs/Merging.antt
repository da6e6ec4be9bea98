-- Rows and findings that are printed in turn.
use Rattle.std.proofs.Common.{◌≡◌, ◌∙◌, ℕ, zero, suc, ◌+◌, ◌-◌, ◌<◌, ◌≤◌, Bool, true, false, cond, List, [], ◌∷◌, ◌++◌, None, Some, inl, inr, length, map, min, refl, sym, ap, arith, append_assoc}
use Rattle.std.proofs.lemmas.Bool.{cases_lt}
use Rattle.std.proofs.lemmas.List.{append-nil, take-append-drop}
use Rattle.pef_format.specs.declared.place.Part.{Part}
use Rattle.pef_format.specs.declared.place.Part.TheVariants as part
use Rattle.pef_format.specs.declared.place.Part.TheVariants.{Header}
use Rattle.pef_inspect.specs.declared.finding.Cause.TheVariants.{View}
use Rattle.pef_inspect.specs.declared.finding.Finding.{Finding}
use Rattle.pef_views.specs.declared.fault.ViewFault.TheVariants.{TooShort}
use Rattle.pef_report.specs.Inspection.{Row, element, elements, finding_json, finding_text, findings_json, findings_text, is_chosen, merged_left, merged_text, object_count, row_at, rows_among, rows_below}
use Rattle.pef_rows.specs.Objects.{separator}
use Rattle.pef_report.specs.Order.{after, before, count_before}
use Rattle.pef_report.specs.Readable.{Readable, row_count}
use Rattle.pef_report.specs.Theorems.{JoinsRows, blank}
use Rattle.pef_report.specs.declared.members.Member.{Member}

-- any finding, and any member: what an index past the end of a list gives
abbrev pub no_finding : Finding
no_finding = record { cause = View TooShort; place = record { part = Header; row = 0; field = 0; offset = None } }

abbrev pub no_member : Member
no_member = record { key = record { ref_ptr = (0, 0); now = [] }; part = Header }

-- rows that are left begin with the first of them and what belongs to it
pub rows_among-next : (r : Readable) (kind : Part) (i n : ℕ) → i < n → rows_among r kind i (n - i) ≡ (row_at r kind i ∷ rows_below r kind i) ++ rows_among r kind (i + 1) (n - (i + 1))
rows_among-next r kind i n under =
    let e : n - i ≡ suc (n - (i + 1)) = omega arith in
    rw e refl

pub rows_among-none : (r : Readable) (kind : Part) (i n : ℕ) → n ≤ i → rows_among r kind i (n - i) ≡ []
rows_among-none r kind i n past =
    let e : n - i ≡ 0 = omega arith in
    rw e refl

-- elements that are left begin with the first of them
pub elements-next : (r : Readable) (kind : Part) (i n : ℕ) → i < n → elements r kind i (n - i) ≡ element r kind i ++ elements r kind (i + 1) (n - (i + 1))
elements-next r kind i n under =
    let e : n - i ≡ suc (n - (i + 1)) = omega arith in
    rw e refl

pub elements-none : (r : Readable) (kind : Part) (i n : ℕ) → n ≤ i → elements r kind i (n - i) ≡ []
elements-none r kind i n past =
    let e : n - i ≡ 0 = omega arith in
    rw e refl

-- the text of two lists of rows, one after the other, and the findings that are left after them
pub merged_text-append : (base : ℕ) (xs ys : List Row) (left : List Finding) → merged_text base (xs ++ ys) left ≡ merged_text base xs left ++ merged_text base ys (merged_left xs left)
merged_text-append base [] ys left = refl
merged_text-append base (row ∷ xs) ys left =
    let here = findings_text base (before row.rank left) ++ row.text in
    let rest = after row.rank left in
    ap (λ t. here ++ t) (merged_text-append base xs ys rest) ∙ sym (append_assoc here (merged_text base xs rest) (merged_text base ys (merged_left xs rest)))

pub merged_left-append : (xs ys : List Row) (left : List Finding) → merged_left (xs ++ ys) left ≡ merged_left ys (merged_left xs left)
merged_left-append [] ys left = refl
merged_left-append (row ∷ xs) ys left = merged_left-append xs ys (after row.rank left)

-- a finding that is chosen is printed before the others
pub chosen-next : (base : ℕ) (errors is_first : Bool) (f : Finding) (fs : List Finding) → is_chosen errors f ≡ true → findings_json base errors is_first (f ∷ fs) ≡ (separator is_first ++ finding_json base f) ++ findings_json base errors false fs
chosen-next base errors is_first f fs chosen = by (is_chosen errors f) chosen
  where
    by : (b : Bool) → b ≡ true → cond b ((separator is_first ++ finding_json base f) ++ findings_json base errors false fs) (findings_json base errors is_first fs) ≡ (separator is_first ++ finding_json base f) ++ findings_json base errors false fs
    by true same = refl
    by false same = absurd (cc same)

-- one that isn't chosen is left out
pub unchosen-next : (base : ℕ) (errors is_first : Bool) (f : Finding) (fs : List Finding) → is_chosen errors f ≡ false → findings_json base errors is_first (f ∷ fs) ≡ findings_json base errors is_first fs
unchosen-next base errors is_first f fs chosen = by (is_chosen errors f) chosen
  where
    by : (b : Bool) → b ≡ false → cond b ((separator is_first ++ finding_json base f) ++ findings_json base errors false fs) (findings_json base errors is_first fs) ≡ findings_json base errors is_first fs
    by true same = absurd (cc same)
    by false same = refl

-- the lines of two lists of findings, one after the other
pub findings_text-append : (base : ℕ) (xs ys : List Finding) → findings_text base (xs ++ ys) ≡ findings_text base xs ++ findings_text base ys
findings_text-append base [] ys = refl
findings_text-append base (x ∷ xs) ys =
    ap (λ t. finding_text base x ++ t) (findings_text-append base xs ys) ∙ sym (append_assoc (finding_text base x) (findings_text base xs) (findings_text base ys))

-- without the lines of rows, the text is the lines of all findings
pub each_once : (base : ℕ) (rows : List Row) (fs : List Finding) → merged_text base (map blank rows) fs ++ findings_text base (merged_left rows fs) ≡ findings_text base fs
each_once base [] fs = refl
each_once base (row ∷ rows) fs =
    let front = findings_text base (before row.rank fs) in
    let rest = after row.rank fs in
    append_assoc (front ++ []) (merged_text base (map blank rows) rest) (findings_text base (merged_left rows rest))
    ∙ (ap (λ t. (front ++ []) ++ t) (each_once base rows rest)
    ∙ (ap (λ t. t ++ findings_text base rest) (append-nil front)
    ∙ (sym (findings_text-append base (before row.rank fs) rest)
    ∙ ap (findings_text base) (take-append-drop (count_before row.rank fs) fs))))

-- if no finding is left, none is before a row or after it
pub none_before : (base rank : ℕ) (fs : List Finding) → length fs ≡ 0 → findings_text base (before rank fs) ≡ []
none_before base rank [] none = refl
none_before base rank (f ∷ fs) none = absurd (omega arith)

pub none_after : (rank : ℕ) (fs : List Finding) → length fs ≡ 0 → after rank fs ≡ fs
none_after rank [] none = refl
none_after rank (f ∷ fs) none = absurd (omega arith)

-- elements of a kind and those after them are all of these
elements-append : (r : Readable) (kind : Part) (from n m : ℕ) → elements r kind from n ++ elements r kind (from + n) m ≡ elements r kind from (n + m)
elements-append r kind from zero m = (let e : from + 0 ≡ from = omega arith in let z : 0 + m ≡ m = omega arith in rw (e, z) refl)
elements-append r kind from (suc n) m =
    let e : from + suc n ≡ from + 1 + n = omega arith in
    let z : suc n + m ≡ suc (n + m) = omega arith in
    let here = element r kind from in
    rw (e, z) (append_assoc here (elements r kind (from + 1) n) (elements r kind (from + 1 + n) m) ∙ ap (λ t. here ++ t) (elements-append r kind (from + 1) n m))

-- of a kind that can have several rows, the first ones and those after them are all
first_of : (r : Readable) (kind : Part) (most n : ℕ) → elements r kind 0 (min n most) ++ elements r kind most (n - most) ≡ elements r kind 0 n
first_of r kind most n = elim (cases_lt most n) [
  | inl less ↦ (
      let few : min n most ≡ most = omega (arith, less) in
      let e : most + (n - most) ≡ n = omega (arith, less) in
      let start : 0 + most ≡ most = omega arith in
      let joined = elements-append r kind 0 most (n - most) in
      rw few (rw (start, e) at joined)
      )
  | inr past ↦ (
      let all : min n most ≡ n = omega (arith, past) in
      let none : n - most ≡ 0 = omega (arith, past) in
      rw (all, none) (append-nil (elements r kind 0 n))
      )
]

-- of a kind that has one row, the first ones are that one, and none is after it
only_one : (r : Readable) (kind : Part) (most : ℕ) → 1 ≤ most → elements r kind 0 1 ++ elements r kind most (1 - most) ≡ elements r kind 0 1
only_one r kind most some = (let none : 1 - most ≡ 0 = omega (arith, some) in rw none (append-nil (elements r kind 0 1)))

first_rows : (most : ℕ) (r : Readable) (kind : Part) → 1 ≤ most → elements r kind 0 (object_count (Some most) r kind) ++ elements r kind most (object_count None r kind - most) ≡ elements r kind 0 (object_count None r kind)
first_rows most r part.Header some = only_one r part.Header most some
first_rows most r part.LoaderHeader some = only_one r part.LoaderHeader most some
first_rows most r part.Main some = only_one r part.Main most some
first_rows most r part.Init some = only_one r part.Init most some
first_rows most r part.Term some = only_one r part.Term most some
first_rows most r part.Section some = first_of r part.Section most (row_count r part.Section)
first_rows most r part.Library some = first_of r part.Library most (row_count r part.Library)
first_rows most r part.Import some = first_of r part.Import most (row_count r part.Import)
first_rows most r part.Relocation some = first_of r part.Relocation most (row_count r part.Relocation)
first_rows most r part.Export some = first_of r part.Export most (row_count r part.Export)
first_rows most r part.PackedData some = first_of r part.PackedData most (row_count r part.PackedData)
first_rows most r part.Program some = first_of r part.Program most (row_count r part.Program)
first_rows most r part.Line some = first_of r part.Line most (row_count r part.Line)

-- rows that are printed in parts are all rows
pub joined_rows : JoinsRows
joined_rows = record { first = first_rows; more = elements-append }
