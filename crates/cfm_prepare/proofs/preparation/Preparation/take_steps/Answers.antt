-- The new fragments are placed, filled and relocated, or those placed can be released.
use Rattle.std.proofs.Common.{take}
use Rattle.std.proofs.lemmas.Result.{err_from_is_err_and}
use Rattle.cfm_prepare.specs.Kept.Ready.{found_in}
use Rattle.cfm_prepare.proofs.BegunLemmas.{begun-after, begun-of, changes-then, found-changes, found-held, found-laid, found-placed, image-refused, prepared-after, relocating-refused}
use Rattle.cfm_prepare.proofs.FoundLemmas.{take-has}
use Rattle.cfm_prepare.proofs.preparation.Preparation.take_steps.Goals as goal

pub returns-in_err-place-clause-begun : goal.returns-in_err-place-clause-begun
returns-in_err-place-clause-begun c =
    let far = c.in_err-place.ensures.so_far in
    begun-of c.args.self.now.closure.now.pairs c.args.memory.now c.args.present.now.items c.place.new.present.items (take far.0 c.args.self.now.new.now) c.args.self.now.new.now c.place.new.memory c.requires.ready (take-has far.0 c.args.self.now.new.now) far.1

pub fill-requires-clause-laid : goal.fill-requires-clause-laid
fill-requires-clause-laid c =
    let placed = c.in_ok-place.ensures.placed in
    found-laid c.args.self.now.closure.now.pairs c.args.memory.now placed.empty c.args.present.now.items c.place.new.present.items c.args.self.now.new.now c.requires.new placed.have

pub fill-requires-clause-first : goal.fill-requires-clause-first
fill-requires-clause-first c = found-placed c.args.self.now.closure.now.pairs c.args.memory.now c.place.new.memory c.args.present.now.items c.place.new.present.items c.args.self.now.new.now c.requires.new c.in_ok-place.ensures.placed

pub relocate-requires-clause-laid : goal.relocate-requires-clause-laid
relocate-requires-clause-laid c =
    let placed = c.in_ok-place.ensures.placed in
    found-laid c.args.self.now.closure.now.pairs c.args.memory.now placed.empty c.args.present.now.items c.place.new.present.items c.args.self.now.new.now c.requires.new placed.have

pub relocate-requires-clause-held : goal.relocate-requires-clause-held
relocate-requires-clause-held c =
    c.in_ok-fill.ensures.changes.held (found-held c.args.self.now.closure.now.pairs c.args.memory.now c.place.new.memory c.args.present.now.items c.place.new.present.items c.args.self.now.new.now c.requires.new c.in_ok-place.ensures.placed)

pub returns-in_err-fill-clause-begun : goal.returns-in_err-fill-clause-begun
returns-in_err-fill-clause-begun c =
    let placed = c.in_ok-place.ensures.placed in
    let pairs = c.args.self.now.closure.now.pairs in
    let before = found-changes pairs c.args.memory.now c.place.new.memory c.args.present.now.items c.place.new.present.items c.args.self.now.new.now c.requires.new placed in
    let changes = changes-then placed.empty c.place.new.memory c.fill.new.memory (found_in c.place.new.present.items c.args.self.now.new.now) before c.in_err-fill.ensures.changes in
    begun-after pairs c.args.memory.now c.args.present.now.items c.place.new.present.items c.args.self.now.new.now placed.empty c.fill.new.memory c.requires.new placed.have c.requires.ready changes

pub returns-in_err-fill-clause-refused : goal.returns-in_err-fill-clause-refused
returns-in_err-fill-clause-refused c =
    let placed = c.in_ok-place.ensures.placed in
    let p = err_from_is_err_and c.from_residual-in_err-fill.result c.from_residual-in_err-fill.ensures.1 in
    rw (p.1, p.2) (image-refused c.in_err-fill.field-0.0 c.args.self.now.closure.now.pairs c.args.memory.now c.args.present.now.items c.place.new.present.items c.args.self.now.new.now placed.empty c.requires.new placed.have c.in_err-fill.ensures.refused)

pub returns-clause-begun : goal.returns-clause-begun
returns-clause-begun c =
    let placed = c.in_ok-place.ensures.placed in
    let pairs = c.args.self.now.closure.now.pairs in
    let found = found_in c.place.new.present.items c.args.self.now.new.now in
    let before = found-changes pairs c.args.memory.now c.place.new.memory c.args.present.now.items c.place.new.present.items c.args.self.now.new.now c.requires.new placed in
    let filled = changes-then placed.empty c.place.new.memory c.fill.new.memory found before c.in_ok-fill.ensures.changes in
    let changes = changes-then placed.empty c.fill.new.memory c.relocate.new.memory found filled c.relocate.ensures.changes in
    begun-after pairs c.args.memory.now c.args.present.now.items c.place.new.present.items c.args.self.now.new.now placed.empty c.relocate.new.memory c.requires.new placed.have c.requires.ready changes

pub returns-clause-prepared : goal.returns-clause-prepared
returns-clause-prepared c =
    let placed = c.in_ok-place.ensures.placed in
    let pairs = c.args.self.now.closure.now.pairs in
    let found = found_in c.place.new.present.items c.args.self.now.new.now in
    let before = found-changes pairs c.args.memory.now c.place.new.memory c.args.present.now.items c.place.new.present.items c.args.self.now.new.now c.requires.new placed in
    let filled = changes-then placed.empty c.place.new.memory c.fill.new.memory found before c.in_ok-fill.ensures.changes in
    let changes = changes-then placed.empty c.fill.new.memory c.relocate.new.memory found filled c.relocate.ensures.changes in
    prepared-after c.relocate.result pairs c.args.memory.now c.args.present.now.items c.place.new.present.items c.args.self.now.new.now placed.empty c.relocate.new.memory c.requires.new placed.have
    c.in_ok-fill.ensures.refused changes c.relocate.ensures.refused c.relocate.ensures.relocated

pub returns-clause-refused : goal.returns-clause-refused
returns-clause-refused c =
    let placed = c.in_ok-place.ensures.placed in
    relocating-refused c.relocate.result c.args.self.now.closure.now.pairs c.args.memory.now c.args.present.now.items c.place.new.present.items c.args.self.now.new.now placed.empty c.requires.new placed.have c.in_ok-fill.ensures.refused c.relocate.ensures.refused
