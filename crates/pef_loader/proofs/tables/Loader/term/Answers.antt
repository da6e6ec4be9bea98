-- The cast keeps the number of the section.
use Rattle.std.proofs.Common.{◌≡◌, ◌∙◌, ap, arith}
use Rattle.std.specs.Int.{w32, cast_signed, cast_unsigned}
use Rattle.std.proofs.lemmas.Int.{to_z-of_z}
use Rattle.pef_loader.specs.Header.{entry_of}
use Rattle.pef_loader.specs.Views.{loaded}
use Rattle.pef_loader.proofs.Loaders.{entries_are}
use Rattle.pef_loader.proofs.tables.Loader.term.Goals as goal

pub entry-requires : goal.entry-requires
entry-requires c =
    let section = c.args.self.now.tables.header.term_section in
    let same : cast_signed w32 (cast_unsigned w32 section) ≡ section = search (arith, to_z-of_z) in
    rw same (entries_are (loaded c.args.self.now) c.args.self.now.accepted).term

pub returns-clause-value : goal.returns-clause-value
returns-clause-value c =
    let header = c.args.self.now.tables.header in
    let same : cast_signed w32 (cast_unsigned w32 header.term_section) ≡ header.term_section = search (arith, to_z-of_z) in
    c.entry.ensures.value ∙ ap (λ section. entry_of section header.term_offset) same
