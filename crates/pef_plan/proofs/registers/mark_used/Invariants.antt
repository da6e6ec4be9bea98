use Rattle.std.proofs.Common.{◌≡◌, ◌||◌, drop, false, length, ℕ, true}
use Rattle.std.specs.List.{AllByRecursion}
use Rattle.std.specs.Prelude.{slice_index_or}
use Rattle.pef_reloc.specs.Deliveries.{uses_section}
use Rattle.pef_reloc.specs.Fixups.{fixup_fits}
use Rattle.pef_plan.proofs.registers.mark_used.Given as goal

-- the sections marked so far, with those of the fixups left, are those of all fixups
abbrev pub invariant-loop-fixup : goal.invariant-loop-fixup
invariant-loop-fixup l = record {
  len : length l.used ≡ length l.fn.used;
  fit : AllByRecursion (λ f. fixup_fits f ≡ true) (drop l.fixup-index l.fixups);
  used : (k : ℕ) → (slice_index_or l.used k false || uses_section (drop l.fixup-index l.fixups) k) ≡ uses_section l.fixups k;
}
