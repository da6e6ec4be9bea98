use Rattle.std.proofs.Common.{◌+◌, drop, take, refl, sym, ◌∙◌, arith}
use Rattle.pef_reloc.specs.Deliveries.{index_after}
use Rattle.pef_cert.specs.Kept.Claims.{labels_claimed}
use Rattle.pef_cert.proofs.AdditionLemmas.{got-import}
use Rattle.pef_cert.proofs.KindLemmas.{import-fails, import-says}
use Rattle.pef_cert.proofs.SharedLemmas.{next-holds}
use Rattle.pef_cert.proofs.claim.CheckedSuffix.import_holds.Goals as goal

pub overflow_add-import : goal.overflow_add-import
overflow_add-import c =
    let low = got-import c.args.self.claim c.args.under.at c.args.import c.args.under.fixup c.requires.under.knows.shaped c.requires.under.here c.requires.base in
    omega (arith, low)

pub returns-then-goes_on : goal.returns-then-goes_on
returns-then-goes_on c =
    let b = c.args.self in
    let u = c.args.under in
    (λ e. next-holds b u c.args.import (index_after (take u.at b.claim.fixups.now) 0) c.requires.under c.requires.base (c.if-goes_on.ensures refl), λ all. refl)

pub returns-then-not-singles_hold : goal.returns-then-not-singles_hold
returns-then-not-singles_hold c =
    let b = c.args.self in
    let u = c.args.under in
    import-fails (labels_claimed b.claim) (index_after (take u.at b.claim.fixups.now) 0) c.args.import c.import_cost.result u.fixup (drop (u.at + 1) b.claim.fixups.now) c.requires.base c.import_cost.ensures c.if-not-singles_hold.ensures

pub import_runs_hold-requires-clause-import : goal.import_runs_hold-requires-clause-import
import_runs_hold-requires-clause-import c =
    let low = got-import c.args.self.claim c.args.under.at c.args.import c.args.under.fixup c.requires.under.knows.shaped c.requires.under.here c.requires.base in
    omega (arith, low)

pub returns : goal.returns
returns c =
    let b = c.args.self in
    let u = c.args.under in
    let next = sym c.from.ensures ∙ (c.if-from-import_index.false ∙ c.import_index.ensures) in
    import-says (labels_claimed b.claim) (index_after (take u.at b.claim.fixups.now) 0) c.args.import c.import_cost.result u.fixup (drop (u.at + 1) b.claim.fixups.now) c.import_runs_hold.result c.requires.base c.import_cost.ensures next c.if-not-singles_hold.ensures c.import_runs_hold.ensures
