use Rattle.std.proofs.Common.{◌≡◌, ℕ, List}
use Rattle.cfm_memory.specs.Extents.{AreHeld, Stand, given_back}
use Rattle.pef_loader.specs.Loader.{reloc_of}
use Rattle.pef_loader.specs.Views.{loaded}
use Rattle.cfm_sections.proofs.HeaderLemmas.{HaveRun}
use Rattle.cfm_sections.proofs.relocation.relocate_sections.Given as goal

abbrev pub invariant-loop-i : goal.invariant-loop-i
invariant-loop-i l = record {
  run : (bytes : ℕ → List ℕ) → Stand l.fn.memory l.places bytes
      → HaveRun (record { sections = l.sections; imports = l.imports }) (reloc_of (loaded l.loader)) l.places bytes l.memory l.i (loaded l.loader).header.reloc_count;
  others : given_back l.memory l.places ≡ given_back l.fn.memory l.places;
  held : AreHeld l.memory l.places;
}
