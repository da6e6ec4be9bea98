-- The labels at a fixup are small, and close to one another.
use Rattle.std.proofs.Common.{◌≡◌, ℕ, ◌+◌, ◌*◌, ◌^◌, ◌<◌, ◌≤◌, List, length, slice_index, arith}
use Rattle.pef_plan.specs.declared.runs.suffix.SolvedSuffix.{SolvedSuffix}
use Rattle.pef_plan.specs.declared.runs.state.FixupState.{FixupState}
use Rattle.pef_plan.specs.Kept.Rows.{RowOf, SmallLine}
use Rattle.pef_plan.specs.Runs.Places.{AtOf}
use Rattle.pef_plan.specs.Runs.Tables.{number_in}
use Rattle.pef_plan.specs.Windows.Tables.{Close}
use Rattle.pef_plan.proofs.DirectLemmas.{each_place}
use Rattle.pef_plan.proofs.WindowsProofs.TableLemmas.{mul-le}

pub row_close : (k : SolvedSuffix) (a : FixupState) (row : List ℕ) → RowOf k a row → length row ≡ (length k.registers.now + 1) * (length k.registers.now + 1) → Close row
row_close k a row r wide = λ i j under_i under_j.
    let n : ℕ = length k.registers.now + 1 in
    each_place (λ v. v ≤ 2 + slice_index row j) n row
    (λ c d under_c under_d.
    each_place (λ v. number_in n row c d ≤ 2 + v) n row
    (λ e f under_e under_f.
    let one = r.closed.c_line c e d under_c under_e under_d in
    let two = r.closed.d_line e d f under_e under_d under_f in
    omega (arith, one, two))
    j (omega (arith, under_j, wide)))
    i (omega (arith, under_i, wide))

pub row_small : (k : SolvedSuffix) (a : FixupState) (row : List ℕ) → AtOf k a → RowOf k a row → length row ≡ (length k.registers.now + 1) * (length k.registers.now + 1) → SmallLine (length row) row
row_small k a row at r wide = λ i under.
    let few = at.shaped.count in
    each_place (λ v. v ≤ 1048576) (length k.registers.now + 1) row
    (λ c d under_c under_d.
    let low = r.closed.below c d under_c under_d in
    let most = (r.direct_is c d under_c under_d).small in
    omega (arith, low, most, few))
    i (omega (arith, under, wide))

-- all rows have room
pub table_small : (n r : ℕ) → n ≤ 65536 → r ≤ 17 → (n + 1) * (r * r) < 2 ^ 64
table_small n r few small =
    let rows = mul-le (n + 1) 65537 (r * r) (omega (arith, few)) in
    let row = mul-le r 17 r small in
    omega (arith, rows, row, small)
