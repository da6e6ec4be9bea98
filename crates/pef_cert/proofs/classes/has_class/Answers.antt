use Rattle.std.proofs.Common.{◌≢◌, ◌∙◌, sym, slice_index}
use Rattle.std.proofs.lemmas.Bool.{ne_eqb}
use Rattle.pef_cert.specs.Labels.{class_of}
use Rattle.pef_cert.proofs.ClassLemmas.{class_of-apart}
use Rattle.pef_cert.proofs.classes.has_class.Goals as goal

pub returns-in-Some : goal.returns-in-Some
returns-in-Some c =
    let apart : slice_index c.args.registers.now c.args.class ≢ c.args.section = λ same. c.if-register-section.true (c.in-Some.ensures.lookup.3.1 0 ∙ same) in
    sym (ne_eqb (class_of c.args.registers.now c.args.section) c.args.class (class_of-apart c.args.registers.now c.args.class c.args.section c.in-Some.ensures.lookup.3.0 apart))
