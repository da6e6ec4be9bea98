-- How great feasible labels and their extension can get.
use Rattle.std.proofs.Common.{◌≡◌, ℕ, ◌+◌, ◌*◌, ◌<◌, ◌≤◌, true, List, [], ◌∷◌, length, arith}
use Rattle.std.specs.List.{AllByRecursion}
use Rattle.pef_reloc.specs.declared.fixup.Base.{Base}
use Rattle.pef_reloc.specs.declared.fixup.Base.TheVariants.{Section, Import}
use Rattle.pef_reloc.specs.declared.fixup.Fixup.{Fixup}
use Rattle.pef_reloc.specs.Deliveries.{index_past}
use Rattle.pef_reloc.specs.Fixups.{fixup_fits}
use Rattle.pef_reloc.proofs.Laws.{fixup_fits-parts}
use Rattle.pef_cert.specs.Labels.{Labels, classes}
use Rattle.pef_cert.specs.Extension.{extension}
use Rattle.pef_cert.specs.LabelTests.{base_test}
use Rattle.pef_cert.proofs.ExtensionLemmas.{extension-end}
use Rattle.pef_cert.proofs.Falling.{World, world-first, world-next}
use Rattle.pef_cert.proofs.LabelFacts.{Stands, extension-label}
use Rattle.pef_cert.proofs.NeededTests.{tests_needed}
use Rattle.pef_cert.proofs.TestLemmas.{any_cost, single_import, single_section}

single_most : (l : Labels) (label index : ℕ) (f : Fixup) (rest : List Fixup) (c d : ℕ) (b : Base) → base_test l label index f rest c d b ≡ true → label ≤ 2 + extension l rest (f.offset + 4) c d
single_most l label index f rest c d (Section k) e = single_section l label index k f rest c d 2 (omega arith) e
single_most l label index f rest c d (Import k) e = single_import l label index k f rest c d 2 (any_cost k) e

-- a label is at most 2 more than the value after its fixup
label-next : (l : Labels) (index : ℕ) (f : Fixup) (rest : List Fixup) (c d : ℕ) → Stands l index f rest → fixup_fits f ≡ true → c < classes l → d < classes l → l.label (length (f ∷ rest)) c d ≤ 2 + extension l rest (f.offset + 4) c d
label-next l index f rest c d stands fits under_c under_d =
    single_most l (l.label (length (f ∷ rest)) c d) index f rest c d f.base ((tests_needed l index f rest stands (fixup_fits-parts f fits).base).adds c d under_c under_d)

-- four halfwords for each fixup, and two to get to the first
pub extension-small : (l : Labels) (index : ℕ) (fixups : List Fixup) (p c d : ℕ) → World l index fixups → AllByRecursion (λ f. fixup_fits f ≡ true) fixups → c < classes l → d < classes l → extension l fixups p c d ≤ 4 * length fixups + 2
extension-small l index [] p c d w fit under_c under_d = let none = extension-end l p c d in omega (arith, none)
extension-small l index (f ∷ rest) p c d w fit under_c under_d =
    let stands = world-first l index f rest w in
    let near = extension-label l f rest p c d in
    let step = label-next l index f rest c d stands fit.0 under_c under_d in
    let others = extension-small l (index_past f.base index) rest (f.offset + 4) c d (world-next l index f rest w) fit.1 under_c under_d in
    omega (arith, near, step, others)
