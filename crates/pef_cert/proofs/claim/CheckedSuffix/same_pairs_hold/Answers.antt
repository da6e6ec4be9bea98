use Rattle.std.proofs.Common.{take, ap, sym, ◌∙◌, arith}
use Rattle.pef_reloc.specs.Deliveries.{index_after}
use Rattle.pef_cert.specs.declared.runs.TestedState.{TestedState}
use Rattle.pef_cert.specs.Kept.Claims.{labels_claimed}
use Rattle.pef_cert.proofs.ClassLemmas.{class_of-below}
use Rattle.pef_cert.proofs.SharedLemmas.{same-says}
use Rattle.pef_cert.proofs.claim.CheckedSuffix.same_pairs_hold.Goals as goal

pub state-requires-clause-c : goal.state-requires-clause-c
state-requires-clause-c c = let low = class_of-below (labels_claimed c.args.self.claim) c.args.section in omega (arith, low, c.class_of-class.ensures)

pub state-requires-clause-d : goal.state-requires-clause-d
state-requires-clause-d c = let low = class_of-below (labels_claimed c.args.self.claim) c.args.section in omega (arith, low, c.class_of-class.ensures)

pub second_holds-requires-clause-class : goal.second_holds-requires-clause-class
second_holds-requires-clause-class c = sym c.class_of-class.ensures ∙ sym (ap (λ (s : TestedState). s.c) c.state.ensures.is)

pub returns : goal.returns
returns c =
    let b = c.args.self in
    let u = c.args.under in
    same-says b u c.args.section (index_after (take u.at b.claim.fixups.now) 0) c.class_of-class.result c.state.result c.second_holds.result c.requires.under c.requires.base c.requires.on c.class_of-class.ensures c.state.ensures.is c.second_holds.ensures
