use Rattle.std.proofs.Common.{◌≢◌, refl, sym, ◌∙◌, arith, slice_index, eq-eqb}
use Rattle.std.proofs.lemmas.Bool.{ne_eqb}
use Rattle.pef_cert.specs.Labels.{class_of}
use Rattle.pef_cert.proofs.ClassLemmas.{has_class-at}
use Rattle.pef_cert.proofs.claim.Claim.change.Goals as goal

pub returns-then-register-section : goal.returns-then-register-section
returns-then-register-section c =
    let rs = c.args.self.registers.now in
    let found = c.in-Some.ensures.lookup.3 in
    let same = eq-eqb (slice_index rs c.args.class) c.args.section (sym (found.1 0) ∙ c.if-register-section.true) in
    rw (has_class-at rs c.args.section c.args.class c.requires.shaped.registers.rising found.0 c.requires.counts ∙ same) refl

pub returns-else-register-section : goal.returns-else-register-section
returns-else-register-section c =
    let rs = c.args.self.registers.now in
    let found = c.in-Some.ensures.lookup.3 in
    let apart : slice_index rs c.args.class ≢ c.args.section = λ same. c.if-register-section.false (found.1 0 ∙ same) in
    rw (has_class-at rs c.args.section c.args.class c.requires.shaped.registers.rising found.0 c.requires.counts ∙ ne_eqb (slice_index rs c.args.class) c.args.section apart) refl

pub returns-in-None : goal.returns-in-None
returns-in-None c =
    let found = c.in-None.ensures.lookup.3 in
    let apart : c.args.class ≢ class_of c.args.self.registers.now c.args.section = omega (arith, c.requires.counts, found) in
    rw (ne_eqb c.args.class (class_of c.args.self.registers.now c.args.section) apart) refl
