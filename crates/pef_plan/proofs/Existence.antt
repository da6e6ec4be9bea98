-- There is a valid certificate whose labels are least lengths, also for each least program.
use Rattle.std.proofs.Common.{◌≡◌, ℕ, zero, suc, ◌+◌, Bool, true, false, List, [], ◌∷◌, ◌++◌, length, refl, subst, arith}
use Rattle.pef_reloc.specs.declared.fixup.Fixup.{Fixup}
use Rattle.pef_reloc.specs.declared.instr.Instr.{Instr}
use Rattle.pef_reloc.specs.Deliveries.{uses_section}
use Rattle.pef_reloc.specs.Fixups.{fixups_fit}
use Rattle.pef_reloc.specs.Limits.{most_sections}
use Rattle.pef_reloc.specs.Steps.{Least, start}
use Rattle.pef_reloc.proofs.Laws.{each_fits}
use Rattle.pef_cert.specs.Certified.{Certified}
use Rattle.pef_cert.specs.Feasible.{Feasible}
use Rattle.pef_cert.specs.Valid.{RegistersOf, Valid, labels_in, labels_of}
use Rattle.pef_cert.proofs.Laws.{all_registered, numbers, valid-least}
use Rattle.pef_plan.specs.Exact.{Exact}
use Rattle.pef_plan.proofs.Reaching.{reached-exact, reached-least}
use Rattle.pef_plan.proofs.RegisterLemmas.{UsedBelow, used_all, used_more, used_none, used_passed}
use Rattle.pef_plan.proofs.SolvedRows.{last-rows_for, length-rows_for, rows_for, solved, wide-rows_for}

-- the sections below one that fixups use
record Used (fixups : List Fixup) (most : ℕ) : Type 0 where
  registers : List ℕ
  are : UsedBelow fixups most registers

used_next : (fixups : List Fixup) (most : ℕ) (b : Bool) → b ≡ uses_section fixups most → Used fixups most → Used fixups (most + 1)
used_next fixups most true is u = record { registers = u.registers ++ most ∷ []; are = used_more fixups most u.registers u.are is }
used_next fixups most false is u = record { registers = u.registers; are = used_passed fixups most u.registers u.are is }

used_to : (fixups : List Fixup) (most : ℕ) → Used fixups most
used_to fixups zero = record { registers = []; are = used_none fixups }
used_to fixups (suc most) = (let next : most + 1 ≡ suc most = omega arith in subst (λ n. Used fixups n) next (used_next fixups most (uses_section fixups most) refl (used_to fixups most)))

-- the sections that fixups use
registers_for : List Fixup → List ℕ
registers_for fixups = (used_to fixups most_sections).registers

registers_for-are : (fixups : List Fixup) → fixups_fit fixups ≡ true → RegistersOf fixups (registers_for fixups)
unfolding registers_for
registers_for-are fixups fit = used_all fixups most_sections (used_to fixups most_sections).registers fit (omega arith) (used_to fixups most_sections).are

pub some_certificate : (fixups : List Fixup) (section : ℕ) → fixups_fit fixups ≡ true → (c : Certified) × (c.section ≡ section) × Valid fixups c × Exact (labels_of c (length fixups)) fixups
some_certificate fixups section fit =
    let rs = registers_for fixups in
    let right = registers_for-are fixups fit in
    let rows = rows_for rs 0 fixups in
    let l = labels_in rs rows (length fixups) in
    let each = solved rs l.label 0 fixups (numbers fixups l fit right) (each_fits fixups fit) (all_registered fixups rs right) (λ left c d under. refl) in
    let feasible : Feasible l fixups = record { last = last-rows_for rs 0 fixups; each = each.feasible } in
    let shortest = reached-least l fixups [] fixups start fit right feasible each.reached refl (record { index = refl }) in (
      record { section = section; program = shortest.instrs; registers = rs; labels = rows },
      refl,
      record {
        registers = right;
        rows = length-rows_for rs 0 fixups;
        row = wide-rows_for rs 0 fixups;
        feasible = feasible;
        flat = shortest.flat;
        makes = shortest.makes.is;
        length_is = shortest.length_is;
      },
      reached-exact l fixups fit right feasible each.reached,
    )

pub program_certificate : (fixups : List Fixup) (section : ℕ) (program : List Instr) → fixups_fit fixups ≡ true → Least fixups program → (c : Certified) × (c.section ≡ section) × (c.program ≡ program) × Valid fixups c × Exact (labels_of c (length fixups)) fixups
program_certificate fixups section program fit least =
    let some = some_certificate fixups section fit in
    let valid = some.2 in
    let low = least.shortest some.0.program valid.flat valid.makes in
    let high = (valid-least fixups some.0 fit valid).shortest program least.flat least.makes in
    let is = valid.length_is in (
      record { section = some.0.section; program = program; registers = some.0.registers; labels = some.0.labels },
      some.1,
      refl,
      record {
        registers = valid.registers;
        rows = valid.rows;
        row = valid.row;
        feasible = valid.feasible;
        flat = least.flat;
        makes = least.makes;
        length_is = omega (arith, low, high, is);
      },
      some.3,
    )
