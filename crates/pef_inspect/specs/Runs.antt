-- What a readable program with the sizes of its section shows.
use Rattle.std.specs.Prelude.{ℕ, List}
use Rattle.pef_reloc.specs.Views.{program_bytes}
use Rattle.pef_reloc.specs.declared.verifying.Sizes.{Sizes}
use Rattle.pef_inspect.specs.declared.runs.Run.{Run}

abbrev pub run_seen : Run → Sizes × List ℕ
run_seen r = (r.sizes, program_bytes r.program)
