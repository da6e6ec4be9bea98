-- The rows and instructions of a container have ranks that rise.
use Rattle.std.proofs.Common.{◌≡◌, ◌≢◌, ◌⊎◌, ◌∙◌, ℕ, zero, suc, ◌+◌, ◌-◌, ◌*◌, ◌^◌, ◌/◌, ◌<◌, ◌≤◌, Bool, true, false, cond, List, [], ◌∷◌, ◌++◌, length, map, min, take, drop, Option, None, Some, inl, inr, refl, sym, ap, subst, arith}
use Rattle.std.specs.Prelude.{◌&&◌, ◌||◌, ◌==◌, nat_le, nat_lt, Result, Ok, Err}
use Rattle.std.specs.List.{AllByRecursion}
use Rattle.std.specs.Option.{option_and_then, option_map, option_map_or, option_or, unwrap_or}
use Rattle.std.specs.Result.{result_ok}
use native.Mathlib.Nat.{mul-div-le}
use Rattle.std.proofs.lemmas.Bool.{and_parts, cases_lt, eqb-true, leb-true}
use Rattle.std.proofs.lemmas.List.{length-drop, length-take}
use Rattle.pef_words.specs.Bytes.{part_of}
use Rattle.pef_words.specs.Refusals.{◌>>=◌, first_among, first_met, unless}
use Rattle.pef_words.proofs.Laws.Lists.{all-append, all-weaker}
use Rattle.pef_format.specs.declared.place.Part.{Part}
use Rattle.pef_format.specs.declared.place.Part.TheVariants as part
use Rattle.pef_format.specs.Sections.{is_loader, kind_of}
use Rattle.pef_views.specs.Container.{Contained, any_loader, is_instantiated, loader_here, loader_of}
use Rattle.pef_views.specs.Header.{header_of, tag_tests}
use Rattle.pef_views.specs.Partial as views
use Rattle.pef_views.specs.Section.{raw_of, section_at}
use Rattle.pef_views.specs.declared.fault.ViewFault.{ViewFault}
use Rattle.pef_views.specs.declared.fault.ViewFault.TheVariants.{TooShort}
use Rattle.pef_views.specs.declared.header.Header.{Header}
use Rattle.pef_views.specs.declared.section.SectionHeader.{SectionHeader}
use Rattle.pef_loader.specs.Header as loader_header
use Rattle.pef_loader.specs.Loader.{Loaded}
use Rattle.pef_loader.specs.Partial as loader
use Rattle.pef_loader.specs.Partial.{RelocationRow, relocation_row}
use Rattle.pef_loader.specs.Export.{has_exports}
use Rattle.pef_loader.specs.Reloc.{instructions_of, reloc_at}
use Rattle.pef_loader.specs.declared.fault.LoaderFault.{LoaderFault}
use Rattle.pef_loader.specs.declared.fault.LoaderFault.TheVariants.{LoaderShort}
use Rattle.pef_loader.specs.declared.header.LoaderHeader.{LoaderHeader}
use Rattle.pef_reloc.specs.Decoding.{code_at, code_from, code_within, first_instr}
use Rattle.pef_reloc.specs.Instrs.{instr_length}
use Rattle.pef_reloc.specs.Unrolled.{Step, instrs_of, steps_from}
use Rattle.pef_reloc.specs.declared.fault.RelocFault.{RelocFault}
use Rattle.pef_reloc.specs.declared.instr.Instr.{Instr}
use Rattle.pef_reloc.proofs.Laws.{some_length}
use Rattle.pef_report.specs.Inspection.{Row, instr_row, program_rows, row_at, row_parts, rows_among, rows_below, rows_of}
use Rattle.pef_report.specs.Order.{rank, row_part}
use Rattle.pef_report.specs.Places.{Rises}
use Rattle.pef_rows.specs.Programs.{Program, steps_in}
use Rattle.pef_report.specs.Readable.{Readable, loader_count, loader_in, program_in, program_of, readable_at, row_count, row_offset, sections_in}

-- a part has the rank of its row
pub own-rank : (kind : Part) (row field : ℕ) → kind ≢ part.Program → rank kind row field ≡ rank (row_part kind) row 0
unfolding rank
own-rank part.Header row field isnt = refl
own-rank part.Section row field isnt = refl
own-rank part.LoaderHeader row field isnt = refl
own-rank part.Library row field isnt = refl
own-rank part.Import row field isnt = refl
own-rank part.Main row field isnt = refl
own-rank part.Init row field isnt = refl
own-rank part.Term row field isnt = refl
own-rank part.Relocation row field isnt = refl
own-rank part.Export row field isnt = refl
own-rank part.PackedData row field isnt = refl
own-rank part.Program row field isnt = absurd (isnt refl)
own-rank part.Line row field isnt = refl

-- the rank of row i of the kind with a code
abbrev base : ℕ → ℕ → ℕ
base code i = (code * 2 ^ 32 + i) * 2 ^ 65

-- rows that rise from a rank on, below another one
record Block (low high : ℕ) (rows : List Row) : Type 0 where
  pub rises : Rises rows
  pub within : AllByRecursion (λ (row : Row). (low ≤ row.rank) × (row.rank < high)) rows

empty-block : (low high : ℕ) → Block low high []
empty-block low high = record { rises = tt; within = tt }

wider : (a b c d : ℕ) (rows : List Row) → a ≤ b → c ≤ d → Block b c rows → Block a d rows
wider a b c d rows low high block = record {
  rises = block.rises;
  within = all-weaker (λ (row : Row). (b ≤ row.rank) × (row.rank < c)) (λ (row : Row). (a ≤ row.rank) × (row.rank < d)) rows (λ row is. (let least = is.0 in omega (arith, low, least), let most = is.1 in omega (arith, high, most))) block.within;
}

block-append : (a b c : ℕ) (xs ys : List Row) → a ≤ b → b ≤ c → Block a b xs → Block b c ys → Block a c (xs ++ ys)
block-append a b c xs ys low high front back = record {
  rises = joined xs front.rises front.within;
  within = all-append (λ (row : Row). (a ≤ row.rank) × (row.rank < c)) xs ys (wider a a b c xs (omega arith) high front).within (wider a b c c ys low (omega arith) back).within;
}
  where
    joined : (us : List Row) → Rises us → AllByRecursion (λ (row : Row). (a ≤ row.rank) × (row.rank < b)) us → Rises (us ++ ys)
    joined [] rises within = back.rises
    joined (u ∷ us) rises within = (
      all-append (λ (other : Row). u.rank < other.rank) us ys rises.0 (all-weaker (λ (row : Row). (b ≤ row.rank) × (row.rank < c)) (λ (row : Row). u.rank < row.rank) ys (λ row is. (let least = is.0 in let under = within.0.1 in omega (arith, least, under))) back.within),
      joined us rises.1 within.1,
    )

-- one row, and rows after it
block-more : (low high : ℕ) (row : Row) (rows : List Row) → row.rank ≡ low → low < high → Block (low + 1) high rows → Block low high (row ∷ rows)
block-more low high row rows is some block = record {
  rises = (all-weaker (λ (other : Row). (low + 1 ≤ other.rank) × (other.rank < high)) (λ (other : Row). row.rank < other.rank) rows (λ other within. (let least = within.0 in omega (arith, is, least))) block.within, block.rises);
  within = ((omega (arith, is), omega (arith, is, some)), (wider low (low + 1) high high rows (omega arith) (omega arith) block).within);
}

-- the instructions of a program
instr-rank : (k at : ℕ) (instr : Instr) (from : ℕ) → k < 2 ^ 32 → (instr_row k from (at, instr)).rank ≡ base 9 k + 1 + at
unfolding rank
instr-rank k at instr from under = (let few : min k (2 ^ 32 - 1) ≡ k = omega (arith, under) in rw few (omega arith))

-- no byte is past the end of a list
drop-past : (n : ℕ) (xs : List ℕ) → length xs ≤ n → drop n xs ≡ []
drop-past zero [] past = refl
drop-past zero (x ∷ xs) past = absurd (omega (arith, past))
drop-past (suc n) [] past = refl
drop-past (suc n) (x ∷ xs) past = drop-past n xs (omega (arith, past))

-- .. and no instruction begins past it
no-steps : (P : Step → Type 0) (n at : ℕ) → AllByRecursion P (steps_from at (code_within n at []).instrs)
unfolding code_within
no-steps P zero at = tt
no-steps P (suc n) at = tt

-- they begin before the end of its bytes
begins-inside : (n at : ℕ) (xs : List ℕ) → AllByRecursion (λ (step : Step). step.0 < at + length xs) (steps_from at (code_within n at xs).instrs)
unfolding code_within
begins-inside zero at xs = tt
begins-inside (suc n) at [] = tt
begins-inside (suc n) at (b ∷ bytes) = by (first_instr at (b ∷ bytes)) (λ len. begins-inside n (at + 2 * len) (drop (2 * len) (b ∷ bytes)))
  where
    later : (len : ℕ) → AllByRecursion (λ (step : Step). step.0 < at + 2 * len + length (drop (2 * len) (b ∷ bytes))) (steps_from (at + 2 * len) (code_within n (at + 2 * len) (drop (2 * len) (b ∷ bytes))).instrs)
        → AllByRecursion (λ (step : Step). step.0 < at + length (b ∷ bytes)) (steps_from (at + 2 * len) (code_within n (at + 2 * len) (drop (2 * len) (b ∷ bytes))).instrs)
    later len inside = elim (cases_lt (length (b ∷ bytes)) (2 * len)) [
      | inl past ↦ (let none : drop (2 * len) (b ∷ bytes) ≡ [] = drop-past (2 * len) (b ∷ bytes) (omega (arith, past)) in rw none (no-steps (λ step. step.0 < at + length (b ∷ bytes)) n (at + 2 * len)))
      | inr whole ↦ (let left = length-drop (2 * len) (b ∷ bytes) in all-weaker (λ (step : Step). step.0 < at + 2 * len + length (drop (2 * len) (b ∷ bytes))) (λ (step : Step). step.0 < at + length (b ∷ bytes)) _ (λ step under. omega (arith, under, left, whole)) inside)
    ]

    by : (r : Result Instr RelocFault) → ((len : ℕ) → AllByRecursion (λ (step : Step). step.0 < at + 2 * len + length (drop (2 * len) (b ∷ bytes))) (steps_from (at + 2 * len) (code_within n (at + 2 * len) (drop (2 * len) (b ∷ bytes))).instrs))
        → AllByRecursion (λ (step : Step). step.0 < at + length (b ∷ bytes)) (steps_from at (code_from r (λ instr. code_within n (at + 2 * instr_length instr) (drop (2 * instr_length instr) (b ∷ bytes)))).instrs)
    by (Ok instr) inside = (omega arith, later (instr_length instr) (inside (instr_length instr)))
    by (Err fault) inside = tt

-- the rows of instructions
steps-block : (k from at end : ℕ) (instrs : List Instr) → k < 2 ^ 32 → AllByRecursion (λ (step : Step). step.0 < end) (steps_from at instrs) → Block (base 9 k + 1 + at) (base 9 k + 1 + end) (map (instr_row k from) (steps_from at instrs))
steps-block k from at end [] under inside = empty-block (base 9 k + 1 + at) (base 9 k + 1 + end)
steps-block k from at end (instr ∷ instrs) under inside =
    let some = some_length instr in
    let here = inside.0 in
    let next = at + 2 * instr_length instr in
    let rest = steps-block k from next end instrs under inside.1 in
    block-more (base 9 k + 1 + at) (base 9 k + 1 + end) (instr_row k from (at, instr)) (map (instr_row k from) (steps_from next instrs)) (instr-rank k at instr from under) (omega (arith, here))
    (wider (base 9 k + 1 + at + 1) (base 9 k + 1 + next) (base 9 k + 1 + end) (base 9 k + 1 + end) (map (instr_row k from) (steps_from next instrs)) (omega (arith, some)) (omega arith) rest)

program-block : (k : ℕ) (p : Program) → k < 2 ^ 32 → length p.bytes ≤ 2 ^ 34 → Block (base 9 k + 1) (base 9 (k + 1)) (map (instr_row k p.at) (steps_in p))
unfolding instrs_of code_at
program-block k p under small =
    let block = steps-block k p.at 0 (0 + length p.bytes) (instrs_of p.bytes) under (begins-inside (length p.bytes) 0 p.bytes) in
    wider (base 9 k + 1) (base 9 k + 1 + 0) (base 9 k + 1 + (0 + length p.bytes)) (base 9 (k + 1)) (map (instr_row k p.at) (steps_in p)) (omega arith) (omega (arith, small)) block

-- what is needed of a container for its ranks to rise: no kind has too many rows, and no program is too long
record Small (r : Readable) : Type 0 where
  pub rows : (kind : Part) → row_count r kind ≤ 2 ^ 32
  pub programs : (k : ℕ) (p : Program) → program_of r k ≡ Some p → length p.bytes ≤ 2 ^ 34

module _ (r : Readable) (small : Small r) where
  -- the n rows of a kind from one on, with what belongs to them
  rows-block : (kind : Part) (code from n : ℕ) → ((i : ℕ) → i < 2 ^ 32 → rank kind i 0 ≡ base code i) → ((k : ℕ) → k < 2 ^ 32 → Block (base code k + 1) (base code (k + 1)) (rows_below r kind k)) → from + n ≤ 2 ^ 32
      → Block (base code from) (base code (from + n)) (rows_among r kind from n)
  rows-block kind code from zero is below few = empty-block (base code from) (base code (from + zero))
  rows-block kind code from (suc n) is below few =
      let under : from < 2 ^ 32 = omega (arith, few) in
      let here = block-more (base code from) (base code (from + 1)) (row_at r kind from) (rows_below r kind from) (is from under) (omega arith) (below from under) in
      let rest = rows-block kind code (from + 1) n is below (omega (arith, few)) in
      let last : from + 1 + n ≡ from + suc n = omega arith in
      block-append (base code from) (base code (from + 1)) (base code (from + suc n)) (row_at r kind from ∷ rows_below r kind from) (rows_among r kind (from + 1) n) (omega arith) (omega arith) here
      (subst (λ m. Block (base code (from + 1)) (base code m) (rows_among r kind (from + 1) n)) last rest)

  -- all rows of a kind
  kind-block : (kind : Part) (code : ℕ) → ((i : ℕ) → i < 2 ^ 32 → rank kind i 0 ≡ base code i) → ((k : ℕ) → k < 2 ^ 32 → Block (base code k + 1) (base code (k + 1)) (rows_below r kind k)) → Block (base code 0) (base (code + 1) 0) (rows_among r kind 0 (row_count r kind))
  kind-block kind code is below =
      let few = small.rows kind in
      wider (base code 0) (base code 0) (base code (0 + row_count r kind)) (base (code + 1) 0) (rows_among r kind 0 (row_count r kind)) (omega arith) (omega (arith, few)) (rows-block kind code 0 (row_count r kind) is below (omega (arith, few)))

  nothing-below : (code k : ℕ) → Block (base code k + 1) (base code (k + 1)) []
  nothing-below code k = empty-block (base code k + 1) (base code (k + 1))

  instrs-below : (k : ℕ) → k < 2 ^ 32 → Block (base 9 k + 1) (base 9 (k + 1)) (program_rows k (program_of r k))
  instrs-below k under = by (program_of r k) refl
    where
      by : (o : Option Program) → program_of r k ≡ o → Block (base 9 k + 1) (base 9 (k + 1)) (program_rows k o)
      by None is = nothing-below 9 k
      by (Some p) is = program-block k p under (small.programs k p is)

  -- kinds after one another
  kinds-more : (code : ℕ) (kind : Part) (kinds : List Part) → code ≤ 10 → Block (base code 0) (base (code + 1) 0) (rows_among r kind 0 (row_count r kind)) → Block (base (code + 1) 0) (base 11 0) (rows_of r kinds) → Block (base code 0) (base 11 0) (rows_of r (kind ∷ kinds))
  kinds-more code kind kinds low here rest = block-append (base code 0) (base (code + 1) 0) (base 11 0) (rows_among r kind 0 (row_count r kind)) (rows_of r kinds) (omega arith) (omega (arith, low)) here rest

  all-block : Block (base 1 0) (base 11 0) (rows_of r row_parts)
  unfolding rank
  all-block =
      let last = empty-block (base 11 0) (base 11 0) in
      let from_10 = kinds-more 10 part.Export [] (omega arith) (kind-block part.Export 10 (λ i under. omega (arith, under)) (λ k under. nothing-below 10 k)) last in
      let from_9 = kinds-more 9 part.Relocation (part.Export ∷ []) (omega arith) (kind-block part.Relocation 9 (λ i under. omega (arith, under)) instrs-below) from_10 in
      let from_8 = kinds-more 8 part.Term (part.Relocation ∷ part.Export ∷ []) (omega arith) (kind-block part.Term 8 (λ i under. omega (arith, under)) (λ k under. nothing-below 8 k)) from_9 in
      let from_7 = kinds-more 7 part.Init (part.Term ∷ part.Relocation ∷ part.Export ∷ []) (omega arith) (kind-block part.Init 7 (λ i under. omega (arith, under)) (λ k under. nothing-below 7 k)) from_8 in
      let from_6 = kinds-more 6 part.Main (part.Init ∷ part.Term ∷ part.Relocation ∷ part.Export ∷ []) (omega arith) (kind-block part.Main 6 (λ i under. omega (arith, under)) (λ k under. nothing-below 6 k)) from_7 in
      let from_5 = kinds-more 5 part.Import (part.Main ∷ part.Init ∷ part.Term ∷ part.Relocation ∷ part.Export ∷ []) (omega arith) (kind-block part.Import 5 (λ i under. omega (arith, under)) (λ k under. nothing-below 5 k)) from_6 in
      let from_4 = kinds-more 4 part.Library (part.Import ∷ part.Main ∷ part.Init ∷ part.Term ∷ part.Relocation ∷ part.Export ∷ []) (omega arith) (kind-block part.Library 4 (λ i under. omega (arith, under)) (λ k under. nothing-below 4 k)) from_5 in
      let from_3 = kinds-more 3 part.LoaderHeader (part.Library ∷ part.Import ∷ part.Main ∷ part.Init ∷ part.Term ∷ part.Relocation ∷ part.Export ∷ []) (omega arith) (kind-block part.LoaderHeader 3 (λ i under. omega (arith, under)) (λ k under. nothing-below 3 k)) from_4 in
      let from_2 = kinds-more 2 part.Section (part.LoaderHeader ∷ part.Library ∷ part.Import ∷ part.Main ∷ part.Init ∷ part.Term ∷ part.Relocation ∷ part.Export ∷ []) (omega arith) (kind-block part.Section 2 (λ i under. omega (arith, under)) (λ k under. nothing-below 2 k)) from_3 in
      let from_1 = kinds-more 1 part.Header (part.Section ∷ part.LoaderHeader ∷ part.Library ∷ part.Import ∷ part.Main ∷ part.Init ∷ part.Term ∷ part.Relocation ∷ part.Export ∷ []) (omega arith) (kind-block part.Header 1 (λ i under. omega (arith, under)) (λ k under. nothing-below 1 k)) from_2 in
      from_1

  all-rise : Rises (rows_of r row_parts)
  all-rise = all-block.rises

-- a part of some bytes is no longer
raw-small : (bytes : List ℕ) (s : SectionHeader) → length (raw_of bytes s) ≤ length bytes
raw-small bytes s =
    let taken = length-take s.packed_size (drop s.container_offset bytes) in
    let dropped = length-drop s.container_offset bytes in
    omega (arith, taken, dropped)

part-small : (bytes : List ℕ) (from len : ℕ) (part : List ℕ) → part_of bytes from len ≡ Some part → length part ≤ length bytes
unfolding part_of
part-small bytes from len part is = by (nat_le (from + len) (length bytes)) is
  where
    by : (b : Bool) → cond b (Some (take len (drop from bytes))) None ≡ Some part → length part ≤ length bytes
    by true is =
        let same : take len (drop from bytes) ≡ part = cc is in
        let size = ap length same in
        let taken = length-take len (drop from bytes) in
        let dropped = length-drop from bytes in
        omega (arith, size, taken, dropped)
    by false is = absurd (cc is)

-- a loader section is no longer than its container
abbrev IsSmallPart : List ℕ → Option (List ℕ) → Type 0
IsSmallPart bytes None = Unit {0}
IsSmallPart bytes (Some part) = length part ≤ length bytes

first-small : (bytes : List ℕ) (answer : ℕ → Option (List ℕ)) (from n : ℕ) → ((k : ℕ) → IsSmallPart bytes (answer k)) → IsSmallPart bytes (first_among answer from n)
first-small bytes answer from zero each = tt
first-small bytes answer from (suc n) each = by (answer from) (each from) (first-small bytes answer (from + 1) n each)
  where
    by : (o : Option (List ℕ)) → IsSmallPart bytes o → IsSmallPart bytes (first_among answer (from + 1) n) → IsSmallPart bytes (option_or o (first_among answer (from + 1) n))
    by None here later = later
    by (Some part) here later = here

here-small : (bytes : List ℕ) (h : Header) (i : ℕ) → IsSmallPart bytes (loader_here bytes h i)
here-small bytes h i = by (is_instantiated h i) (section_at bytes i)
  where
    chosen : (s : SectionHeader) (b : Bool) → IsSmallPart bytes (cond b (Some (raw_of bytes s)) None)
    chosen s true = raw-small bytes s
    chosen s false = tt

    by : (b : Bool) (o : Option SectionHeader) → IsSmallPart bytes (cond b None (o >>= (λ s. cond (is_loader (kind_of s.section_kind)) (Some (raw_of bytes s)) None)))
    by true o = tt
    by false None = tt
    by false (Some s) = chosen s (is_loader (kind_of s.section_kind))

found-small : (bytes : List ℕ) (h : Header) → IsSmallPart bytes (views.found_loader bytes h)
found-small bytes h = by (loader_of bytes h) (first-small bytes (loader_here bytes h) 0 h.section_count (here-small bytes h)) (any_loader bytes h)
  where
    by : (o : Option (List ℕ)) → IsSmallPart bytes o → (any : Option SectionHeader) → IsSmallPart bytes (option_or o (option_map (raw_of bytes) any))
    by (Some part) here any = here
    by None here None = tt
    by None here (Some s) = raw-small bytes s

-- what can be read of some bytes has these bytes, and a loader section that is no longer
record IsOpened (bytes : List ℕ) (c : Contained) : Type 0 where
  pub bytes_are : c.bytes ≡ bytes
  pub loader : length c.loader ≤ length bytes

opened-is : (bytes : List ℕ) (c : Contained) → views.partial_of bytes ≡ Ok c → IsOpened bytes c
unfolding views.partial_of
opened-is bytes c is = by (header_of bytes) is
  where
    loader-small : (h : Header) (o : Option (List ℕ)) → IsSmallPart bytes o → length (unwrap_or o []) ≤ length bytes
    loader-small h None small = omega arith
    loader-small h (Some part) small = small

    at : (h : Header) (o : Option ViewFault) → unless o (Ok (views.opened bytes h)) ≡ Ok c → IsOpened bytes c
    at h None is = (let same : views.opened bytes h ≡ c = cc is in subst (IsOpened bytes) same (record { bytes_are = refl; loader = loader-small h (views.found_loader bytes h) (found-small bytes h) }))
    at h (Some fault) is = absurd (cc is)

    by : (o : Option Header) → option_map_or (λ h. unless (first_met (tag_tests h)) (Ok (views.opened bytes h))) o (Err TooShort) ≡ Ok c → IsOpened bytes c
    by None is = absurd (cc is)
    by (Some h) is = at h (first_met (tag_tests h)) is

-- .. so has the loader section that can be read of it
loader-bytes : (sections : ℕ) (bytes : List ℕ) (l : Loaded) → loader.partial_of sections bytes ≡ Ok l → l.bytes ≡ bytes
unfolding loader.partial_of
loader-bytes sections bytes l is = by (loader_header.header_of bytes) is
  where
    by : (o : Option LoaderHeader) → option_map_or (λ h. Ok (record { sections = sections; bytes = bytes; header = h })) o (Err LoaderShort) ≡ Ok l → l.bytes ≡ bytes
    by None is = absurd (cc is)
    by (Some h) is = (let same : record { sections = sections; bytes = bytes; header = h } ≡ l = cc is in sym (ap (λ (m : Loaded). m.bytes) same))

-- the rows that are there have bytes
rows-small : (len from size count : ℕ) → 4 * ((len - from) / size) ≤ len → len ≤ 2 ^ 34 → min ((len - from) / size) count ≤ 2 ^ 32
rows-small len from size count few small = omega (arith, few, small)

four-of : (len from : ℕ) → 4 * ((len - from) / 4) ≤ len
four-of len from = (let few = mul-div-le (len - from) 4 in omega (arith, few))

twelve-of : (len from : ℕ) → 4 * ((len - from) / 12) ≤ len
twelve-of len from = (let few = mul-div-le (len - from) 12 in omega (arith, few))

twenty_four-of : (len from : ℕ) → 4 * ((len - from) / 24) ≤ len
twenty_four-of len from = (let few = mul-div-le (len - from) 24 in omega (arith, few))

twenty_eight-of : (len from : ℕ) → 4 * ((len - from) / 28) ≤ len
twenty_eight-of len from = (let few = mul-div-le (len - from) 28 in omega (arith, few))

either : (a b c : Bool) → (a || (b && c)) ≡ true → (a ≡ true) ⊎ (c ≡ true)
either true b c is = inl refl
either false b c is = inr (and_parts b c is).1

exports-small : (l : Loaded) → length l.bytes ≤ 2 ^ 34 → loader.exports_in l ≤ 2 ^ 32
exports-small l small = by (has_exports l.bytes l.header) refl
  where
    whole : has_exports l.bytes l.header ≡ true → l.header.export_count ≤ 2 ^ 32
    whole is = elim (either (l.header.export_count == 0) _ (nat_le (4 * 2 ^ l.header.export_power + 14 * l.header.export_count) (length (drop l.header.export_hash_offset l.bytes))) is) [
      | inl none ↦ (let zero = eqb-true l.header.export_count 0 none in omega (arith, zero))
      | inr fits ↦ (let most = leb-true (4 * 2 ^ l.header.export_power + 14 * l.header.export_count) (length (drop l.header.export_hash_offset l.bytes)) fits in let dropped = length-drop l.header.export_hash_offset l.bytes in omega (arith, most, dropped, small))
    ]

    by : (b : Bool) → has_exports l.bytes l.header ≡ b → cond b l.header.export_count 0 ≤ 2 ^ 32
    by true is = whole is
    by false is = omega arith

loader-rows : (l : Loaded) (kind : Part) → length l.bytes ≤ 2 ^ 34 → loader_count kind l ≤ 2 ^ 32
loader-rows l part.LoaderHeader small = omega arith
loader-rows l part.Library small = rows-small (length l.bytes) (loader_header.library_place 0) 24 l.header.library_count (twenty_four-of (length l.bytes) (loader_header.library_place 0)) small
loader-rows l part.Import small = rows-small (length l.bytes) (loader_header.imports_from l.header) 4 l.header.import_count (four-of (length l.bytes) (loader_header.imports_from l.header)) small
loader-rows l part.Main small = omega arith
loader-rows l part.Init small = omega arith
loader-rows l part.Term small = omega arith
loader-rows l part.Relocation small = rows-small (length l.bytes) (loader_header.relocs_from l.header) 12 l.header.reloc_count (twelve-of (length l.bytes) (loader_header.relocs_from l.header)) small
loader-rows l part.Export small = exports-small l small
loader-rows l part.Header small = omega arith
loader-rows l part.Section small = omega arith
loader-rows l part.PackedData small = omega arith
loader-rows l part.Program small = omega arith
loader-rows l part.Line small = omega arith

-- a program is no longer than its loader section
made-row : {E : Type 0} (make : E → RelocationRow) (P : RelocationRow → Type 0) (b : Bool) (o : Option E) (row : RelocationRow) → ((e : E) → P (make e)) → cond b (option_map make o) None ≡ Some row → P row
made-row make P false o row each is = absurd (cc is)
made-row make P true None row each is = absurd (cc is)
made-row make P true (Some e) row each is = (let same : make e ≡ row = cc is in subst P same (each e))

row-program : (l : Loaded) (k : ℕ) (row : RelocationRow) (program : List ℕ) → relocation_row l k ≡ Some row → row.program ≡ Some program → length program ≤ length l.bytes
unfolding instructions_of
row-program l k row program is has =
    made-row _ (λ (r : RelocationRow). r.program ≡ Some program → length program ≤ length l.bytes) (nat_lt k l.header.reloc_count) (reloc_at l.bytes l.header k) row
    (λ e there. part-small l.bytes (l.header.reloc_instr_offset + e.first) (2 * e.count) program there) is has

-- what can be read of few bytes meets these bounds
module _ (base_at : ℕ) (bytes : List ℕ) (programs : ℕ) (small : length bytes ≤ 2 ^ 34) where
  abbrev shown : Option Contained → Readable
  shown o = record { base = base_at; container = o; loader = option_and_then loader_in o; programs = programs }

  loader-small : (c : Contained) (l : Loaded) → IsOpened bytes c → loader_in c ≡ Some l → length l.bytes ≤ 2 ^ 34
  loader-small c l opened is = by (loader.partial_of (views.sections_allowed c) c.loader) refl is
    where
      by : (r : Result Loaded LoaderFault) → loader.partial_of (views.sections_allowed c) c.loader ≡ r → result_ok r ≡ Some l → length l.bytes ≤ 2 ^ 34
      by (Ok m) was is =
          let same : m ≡ l = cc is in
          let bytes_are = ap length (loader-bytes (views.sections_allowed c) c.loader l (was ∙ ap Ok same)) in
          let few = opened.loader in
          omega (arith, bytes_are, few, small)
      by (Err fault) was is = absurd (cc is)

  some-rows : (kind : Part) (o : Option Loaded) → ((l : Loaded) → o ≡ Some l → length l.bytes ≤ 2 ^ 34) → option_map_or (loader_count kind) o 0 ≤ 2 ^ 32
  some-rows kind None each = omega arith
  some-rows kind (Some l) each = loader-rows l kind (each l refl)

  module _ (o : Option Contained) (opened : (c : Contained) → o ≡ Some c → IsOpened bytes c) where
    loaders : (l : Loaded) → option_and_then loader_in o ≡ Some l → length l.bytes ≤ 2 ^ 34
    loaders l is = by o opened is
      where
        by : (o : Option Contained) → ((c : Contained) → o ≡ Some c → IsOpened bytes c) → option_and_then loader_in o ≡ Some l → length l.bytes ≤ 2 ^ 34
        by None opened is = absurd (cc is)
        by (Some c) opened is = loader-small c l (opened c refl) is

    containers : option_map_or (λ (c : Contained). 1) o 0 ≤ 2 ^ 32
    containers = by o
      where
        by : (o : Option Contained) → option_map_or (λ (c : Contained). 1) o 0 ≤ 2 ^ 32
        by None = omega arith
        by (Some c) = omega arith

    sections : option_map_or sections_in o 0 ≤ 2 ^ 32
    sections = by o opened
      where
        by : (o : Option Contained) → ((c : Contained) → o ≡ Some c → IsOpened bytes c) → option_map_or sections_in o 0 ≤ 2 ^ 32
        by None opened = omega arith
        by (Some c) opened = (let same = ap length (opened c refl).bytes_are in rows-small (length c.bytes) 40 28 c.header.section_count (twenty_eight-of (length c.bytes) 40) (omega (arith, same, small)))

    counts : (kind : Part) → row_count (shown o) kind ≤ 2 ^ 32
    unfolding row_count
    counts part.Header = containers
    counts part.Section = sections
    counts part.LoaderHeader = some-rows part.LoaderHeader (option_and_then loader_in o) loaders
    counts part.Library = some-rows part.Library (option_and_then loader_in o) loaders
    counts part.Import = some-rows part.Import (option_and_then loader_in o) loaders
    counts part.Main = some-rows part.Main (option_and_then loader_in o) loaders
    counts part.Init = some-rows part.Init (option_and_then loader_in o) loaders
    counts part.Term = some-rows part.Term (option_and_then loader_in o) loaders
    counts part.Relocation = some-rows part.Relocation (option_and_then loader_in o) loaders
    counts part.Export = some-rows part.Export (option_and_then loader_in o) loaders
    counts part.PackedData = some-rows part.PackedData (option_and_then loader_in o) loaders
    counts part.Program = some-rows part.Program (option_and_then loader_in o) loaders
    counts part.Line = some-rows part.Line (option_and_then loader_in o) loaders

    program-small : (k : ℕ) (p : Program) → program_of (shown o) k ≡ Some p → length p.bytes ≤ 2 ^ 34
    program-small k p is = by o (option_and_then loader_in o) refl is
      where
        shown-in : (c : Contained) (l : Loaded) (row : RelocationRow) (b : Bool) (bytes : Option (List ℕ)) → relocation_row l k ≡ Some row → row.program ≡ bytes → length l.bytes ≤ 2 ^ 34
            → cond b (option_map (λ bs. record { at = row_offset (shown o) c part.Program k; bytes = bs }) bytes) None ≡ Some p → length p.bytes ≤ 2 ^ 34
        shown-in c l row false bytes read has few is = absurd (cc is)
        shown-in c l row true None read has few is = absurd (cc is)
        shown-in c l row true (Some program) read has few is =
            let same : record { at = row_offset (shown o) c part.Program k; bytes = program } ≡ p = cc is in
            let len = ap (λ (q : Program). length q.bytes) same in
            let most = row-program l k row program read has in
            omega (arith, len, most, few)

        in-row : (c : Contained) (l : Loaded) (r : Option RelocationRow) → relocation_row l k ≡ r → length l.bytes ≤ 2 ^ 34 → (r >>= (λ row. program_in (shown o) c k row.program)) ≡ Some p → length p.bytes ≤ 2 ^ 34
        in-row c l None read few is = absurd (cc is)
        in-row c l (Some row) read few is = shown-in c l row (nat_lt k programs) row.program read refl few is

        by : (at : Option Contained) (found : Option Loaded) → option_and_then loader_in o ≡ found → (at >>= (λ c. found >>= (λ l. relocation_row l k >>= (λ row. program_in (shown o) c k row.program)))) ≡ Some p → length p.bytes ≤ 2 ^ 34
        by None found was is = absurd (cc is)
        by (Some c) None was is = absurd (cc is)
        by (Some c) (Some l) was is = in-row c l (relocation_row l k) refl (loaders l was) is

    shown-small : Small (shown o)
    shown-small = record { rows = counts; programs = program-small }

  read-small : Small (readable_at base_at bytes programs)
  unfolding readable_at
  read-small = shown-small (result_ok (views.partial_of bytes)) (λ c is. by (views.partial_of bytes) refl c is)
    where
      by : (r : Result Contained ViewFault) → views.partial_of bytes ≡ r → (c : Contained) → result_ok r ≡ Some c → IsOpened bytes c
      by (Ok d) was c is = (let same : d ≡ c = cc is in opened-is bytes c (was ∙ ap Ok same))
      by (Err fault) was c is = absurd (cc is)

pub rows_rise : (base_at : ℕ) (bytes : List ℕ) (programs : ℕ) → length bytes ≤ 2 ^ 34 → Rises (rows_of (readable_at base_at bytes programs) row_parts)
rows_rise base_at bytes programs small = all-rise (readable_at base_at bytes programs) (read-small base_at bytes programs small)
