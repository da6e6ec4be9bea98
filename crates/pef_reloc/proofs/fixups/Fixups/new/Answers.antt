-- Nothing was executed yet.
use Rattle.std.proofs.Common.{ap, arith, refl}
use Rattle.pef_reloc.specs.Steps.{State}
use Rattle.pef_reloc.specs.Traces.{fixups_of}
use Rattle.pef_reloc.proofs.fixups.Fixups.new.Goals as goal

pub invariant_of-result : goal.invariant_of-result
invariant_of-result c =
    let position = ap (λ (s : State). s.position) c.new-2.ensures in
    let imports = ap (λ (s : State). s.import_index) c.new-2.ensures in
    record {
      few = c.new.ensures.few;
      position = omega (arith, position, c.new.ensures.few);
      imports = omega (arith, imports, c.new.ensures.few);
    }

pub returns : goal.returns
unfolding fixups_of
returns c = rw (c.none.ensures, c.new.ensures.all, c.new-2.ensures) refl
