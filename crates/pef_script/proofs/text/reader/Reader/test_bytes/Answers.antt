-- The section is section k, and has room.
use Rattle.std.proofs.Common.{◌+◌, ◌≤◌, length, refl, ◌∙◌, arith}
use Rattle.std.proofs.lemmas.Bool.{le-ltb}
use Rattle.std.proofs.lemmas.List.{get_or_read}
use Rattle.pef_script.specs.Text.SoFar.{no_section}
use Rattle.pef_script.proofs.text.reader.Reader.test_bytes.Goals as goal

pub returns : goal.returns
returns c =
    let section = c.section.inside in
    let here = c.section.view_is ∙ get_or_read c.args.self.now.sections.items c.args.k c.index-section.result.now (omega (arith, c.args.self.now.sections.ok.0)) c.index-section.ensures no_section in
    let room : length section.image.items + c.args.count ≤ section.header.total = omega arith in
    rw (← here, le-ltb _ _ room) refl
