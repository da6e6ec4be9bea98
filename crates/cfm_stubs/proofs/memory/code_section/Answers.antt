-- The code has eight bytes for each routine.
use Rattle.std.proofs.Common.{◌≡◌, ◌∙◌, ◌*◌, [], ◌∷◌, length, ap, arith}
use Rattle.pef_format.specs.declared.section.SectionKind.TheVariants as kind
use Rattle.pef_format.specs.declared.section.Share.TheVariants as share
use Rattle.cfm_stubs.specs.MemoryStubs.{code_image, routines}
use Rattle.cfm_stubs.proofs.MemoryLemmas.{length-code, routines-few}
use Rattle.cfm_stubs.proofs.memory.code_section.Goals as goal

pub overflow_cast-header : goal.overflow_cast-header
overflow_cast-header c =
    let xs = c.args.symbols.now in
    let items : length c.in_ok-image.image.items ≡ 8 * routines xs = ap length c.in_ok-image.ensures ∙ length-code c.args.word xs in
    omega (arith, c.len.ensures, c.in_ok-image.image.ok.0, items, routines-few xs, c.requires)

pub returns : goal.returns
returns c =
    let xs = c.args.symbols.now in
    let image : c.in_ok-image.image.items ≡ code_image c.args.word xs = c.in_ok-image.ensures in
    let items : length c.in_ok-image.image.items ≡ 8 * routines xs = ap length image ∙ length-code c.args.word xs in
    let total : c.len.result ≡ 8 * routines xs = omega (arith, c.len.ensures, c.in_ok-image.image.ok.0, items) in
    let fixups = c.new.ensures.items in
    λ j. record {
      header = record { name = 99 ∷ []; kind = kind.Code; share = share.Global; align = 4; total = total j };
      image = image j;
      fixups = fixups j;
    }
