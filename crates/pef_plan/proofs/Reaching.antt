-- Labels that are feasible and reached are least lengths, and so is the extension everywhere.
use Rattle.std.proofs.Common.{◌≡◌, ℕ, zero, suc, ◌*◌, ◌≤◌, true, List, [], ◌∷◌, ◌++◌, length, refl, sym, subst, arith}
use Rattle.pef_reloc.specs.declared.fixup.Fixup.{Fixup}
use Rattle.pef_reloc.specs.declared.instr.Instr.{Instr}
use Rattle.pef_reloc.specs.Deliveries.{MakesFrom, StandsAfter}
use Rattle.pef_reloc.specs.Fixups.{fixups_fit}
use Rattle.pef_reloc.specs.Instrs.{program_length}
use Rattle.pef_reloc.specs.Steps.{Least, State, is_flat, next_state}
use Rattle.pef_reloc.proofs.Laws.{each_fits, flat_more, makes_more, some_length}
use Rattle.pef_cert.specs.Labels.{Labels, class_of}
use Rattle.pef_cert.specs.Extension.{extension_at}
use Rattle.pef_cert.specs.Feasible.{Feasible}
use Rattle.pef_cert.specs.Valid.{RegistersOf}
use Rattle.pef_cert.proofs.Laws.{extension-here, none_shorter, whole_world}
use Rattle.pef_plan.specs.Exact.{Exact, LeastFrom}
use Rattle.pef_plan.specs.Reached.{ReachedFrom}
use Rattle.pef_plan.proofs.Leading.{Planned, leads, planned-after, planned_left}
use Rattle.pef_plan.proofs.WordByWord.{word_by_word, word_by_word-flat, word_by_word-makes, word_by_word-short}

-- a flat list that makes some fixups from a state, within a number of halfwords
record Within (s : State) (fixups : List Fixup) (n : ℕ) : Type 0 where
  instrs : List Instr
  flat : is_flat instrs ≡ true
  makes : MakesFrom s fixups instrs
  short : program_length instrs ≤ n

within : (n : ℕ) (l : Labels) (s : State) (fixups : List Fixup) → Planned l s.import_index fixups → extension_at l fixups s ≤ n → Within s fixups (extension_at l fixups s)
within n l s [] p low = record { instrs = []; flat = refl; makes = record { is = refl }; short = omega arith }
within zero l s (f ∷ rest) p low =
    let first = leads l s f rest p in
    let some = some_length first.instr in
    let falls = first.falls in
    absurd (omega (arith, some, falls, low))
within (suc n) l s (f ∷ rest) p low =
    let first = leads l s f rest p in
    let some = some_length first.instr in
    let falls = first.falls in
    let more = within n l (next_state first.instr s) first.left (planned_left l first.instr s (f ∷ rest) first.left p first.delivers) (omega (arith, some, falls, low)) in
    let short = more.short in
    record {
      instrs = first.instr ∷ more.instrs;
      flat = flat_more first.instr more.instrs first.flat more.flat;
      makes = makes_more first.instr more.instrs s (f ∷ rest) first.left first.delivers more.makes;
      short = omega (arith, falls, short);
    }

pub least_from : (l : Labels) (s : State) (fixups : List Fixup) → Planned l s.import_index fixups → LeastFrom s fixups (extension_at l fixups s)
least_from l s fixups p =
    let some = within (extension_at l fixups s) l s fixups p (omega arith) in
    let low = none_shorter some.instrs l s fixups p.world some.flat some.makes in
    let high = some.short in
    record {
      instrs = some.instrs;
      flat = some.flat;
      makes = some.makes;
      length_is = omega (arith, low, high);
      least = λ others flat makes. none_shorter others l s fixups p.world flat makes;
    }

pub whole_planned : (l : Labels) (fixups : List Fixup) → fixups_fit fixups ≡ true → RegistersOf fixups l.registers → Feasible l fixups → ReachedFrom l 0 fixups → Planned l 0 fixups
whole_planned l fixups fit registers feasible reached = record {
  world = whole_world l fixups fit registers feasible;
  reached = reached;
  fit = each_fits fixups fit;
}

-- the extension is the least length in every state
pub reached-least : (l : Labels) (fixups made rest : List Fixup) (s : State) → fixups_fit fixups ≡ true → RegistersOf fixups l.registers → Feasible l fixups → ReachedFrom l 0 fixups → fixups ≡ made ++ rest → StandsAfter made s → LeastFrom s rest (extension_at l rest s)
reached-least l fixups made rest s fit registers feasible reached parts behind =
    least_from l s rest (subst (λ (index : ℕ). Planned l index rest) (sym behind.index)
    (planned-after l 0 made rest (subst (λ (fs : List Fixup). Planned l 0 fs) parts (whole_planned l fixups fit registers feasible reached))))

-- each label is the least length in its state
pub reached-exact : (l : Labels) (fixups : List Fixup) → fixups_fit fixups ≡ true → RegistersOf fixups l.registers → Feasible l fixups → ReachedFrom l 0 fixups → Exact l fixups
reached-exact l fixups fit registers feasible reached = record {
  at = λ made rest f s parts here.
      let least = reached-least l fixups made (f ∷ rest) s fit registers feasible reached parts (record { index = here.index_is }) in
      subst (λ (n : ℕ). LeastFrom s (f ∷ rest) n) (extension-here l f rest s.position (class_of l.registers s.c) (class_of l.registers s.d) here.position) least;
}

-- a least program is no longer than the one that adds word by word
pub least-short : (fixups : List Fixup) (instrs : List Instr) → fixups_fit fixups ≡ true → Least fixups instrs → program_length instrs ≤ 4 * length fixups
least-short fixups instrs fit least =
    let low = least.shortest (word_by_word fixups) (word_by_word-flat fixups fit) (word_by_word-makes fixups) in
    let short = word_by_word-short fixups in
    omega (arith, low, short)
