use Rattle.std.proofs.Common.{◌≤◌, inl, inr, arith}
use Rattle.pef_pidata.specs.Kept.Runs.{zeros_first}
use Rattle.pef_pidata.proofs.Parts.{parts-block, parts-run, zeros_first-within}
use Rattle.pef_pidata.proofs.packing.first_piece.Goals as goal

pub split_at-requires : goal.split_at-requires
split_at-requires c = omega (arith, c.zeros_len-zeros.ensures, zeros_first-within c.args.image.now)

pub returns-then-block-eq0-clause-parts : goal.returns-then-block-eq0-clause-parts
returns-then-block-eq0-clause-parts c =
    let long : 3 ≤ zeros_first c.args.image.now = elim c.block_len-block.ensures.end [
      | inl last ↦ absurd (omega (arith, last, c.if-block-eq0.true, c.requires))
      | inr run ↦ rw c.if-block-eq0.true at run
    ] in
    rw (c.split_at.ensures.back, c.zeros_len-zeros.ensures) (parts-run c.args.image.now long)

pub returns-clause-parts : goal.returns-clause-parts
returns-clause-parts c =
    let block = c.block_len-block.ensures in
    rw (c.split_at-2.ensures.front, c.split_at-2.ensures.back) (parts-block c.args.image.now c.block_len-block.result block.within (omega arith) block.copied block.end)
