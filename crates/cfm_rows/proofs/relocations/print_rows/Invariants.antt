use Rattle.std.proofs.Common.{◌-◌}
use Rattle.pef_loader.specs.Views.{loaded}
use Rattle.pef_ports.proofs.Laws.Sending.{IsSentUpTo}
use Rattle.cfm_rows.specs.Relocations.{relocation_elements}
use Rattle.cfm_rows.proofs.relocations.print_rows.Given as goal

abbrev pub invariant-loop-k : goal.invariant-loop-k
invariant-loop-k g l = IsSentUpTo (g.W.Sink.stream l.fn.out) (g.W.Sink.stream l.out) l.fn.page.items l.page.items
    (relocation_elements (loaded l.loader) 0 (loaded l.loader).header.reloc_count)
    (relocation_elements (loaded l.loader) l.k ((loaded l.loader).header.reloc_count - l.k))
