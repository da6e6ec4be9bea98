-- A name that begins before the last zero byte ends at the first one from there on.
use Rattle.std.proofs.Common.{sym, arith}
use Rattle.pef_loader.specs.Kept.Marks.{IsFirstZero}
use Rattle.pef_loader.proofs.MarkLemmas.{ends-inside, name-to, no-name}
use Rattle.pef_loader.proofs.name_reader.NameReader.name.Goals.{in-Some, in-None+in_ok-end-in-None}
use Rattle.pef_loader.proofs.name_reader.NameReader.name.Goals as goal

pub known_end-requires-clause-inside : goal.known_end-requires-clause-inside
known_end-requires-clause-inside c =
    let names = c.args.self.now.names in
    let inside = ends-inside names.cut.bytes.now names.end names.ended in
    omega (arith, c.if-from-names.false)

pub search-requires-clause-inside : goal.search-requires-clause-inside
search-requires-clause-inside c =
    let names = c.args.self.now.names in
    let inside = ends-inside names.cut.bytes.now names.end names.ended in
    omega (arith, c.if-from-names.false)

pub returns-in_err-end-in-None-clause-value : goal.returns-in_err-end-in-None-clause-value
returns-in_err-end-in-None-clause-value c = rw c.from_residual.ensures (sym (no-name c.args.self.now.names.cut.bytes.now c.args.from c.in_err-end-in-None.ensures.end))

pub returns-clause-value : goal.returns-clause-value
returns-clause-value c =
    let bytes = c.args.self.now.names.cut.bytes.now in
    let is : IsFirstZero bytes c.args.from c.match-known_end.end = elim c.match-known_end.branch [
      | in-Some w ↦ rw w.end-is w.in-Some.ensures
      | in-None+in_ok-end-in-None w ↦ rw w.end-is w.in_ok-end-in-None.ensures.end.0
    ] in
    rw c.bytes.ensures (sym (name-to bytes c.args.from c.match-known_end.end is))
