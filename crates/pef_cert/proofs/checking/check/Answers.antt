use Rattle.std.proofs.Common.{◌∙◌, ap}
use Rattle.pef_cert.specs.Certified.{Certified}
use Rattle.pef_cert.proofs.CheckLemmas.{check-least, check-registers, check-rows, check-says}
use Rattle.pef_cert.proofs.checking.check.Goals as goal

pub returns-then-not-registers_hold-clause-valid : goal.returns-then-not-registers_hold-clause-valid
returns-then-not-registers_hold-clause-valid c =
    let registers = c.as_slice-registers.ensures.value ∙ ap (λ (x : Certified). x.registers) c.certificate.view_is in
    check-registers c.args.fixups.now c.as_slice-registers.result.now c.args.certificate.now registers c.if-not-registers_hold.ensures

pub returns-in-Some-clause-valid : goal.returns-in-Some-clause-valid
returns-in-Some-clause-valid c =
    let registers = c.as_slice-registers.ensures.value ∙ ap (λ (x : Certified). x.registers) c.certificate.view_is in
    let labels = ap (λ (x : Certified). x.labels) c.certificate.view_is in
    let program = c.deref.ensures.value ∙ ap (λ (x : Certified). x.program) c.certificate.view_is in
    check-says c.in-Some.claim c.args.fixups.now c.deref.result.now c.as_slice-registers.result.now c.certificate.inside.labels.rows c.args.certificate.now c.holds.result
    c.in-Some.ensures.0 c.in-Some.ensures.1 registers labels program c.holds.ensures

pub returns-in-Some-clause-least : goal.returns-in-Some-clause-least
returns-in-Some-clause-least c =
    check-least c.args.fixups.now c.args.certificate.now c.holds.result c.requires (returns-in-Some-clause-valid c)

pub returns-in-None-clause-valid : goal.returns-in-None-clause-valid
returns-in-None-clause-valid c =
    let registers = c.as_slice-registers.ensures.value ∙ ap (λ (x : Certified). x.registers) c.certificate.view_is in
    let labels = ap (λ (x : Certified). x.labels) c.certificate.view_is in
    check-rows c.args.fixups.now c.as_slice-registers.result.now c.certificate.inside.labels.rows c.args.certificate.now registers labels c.in-None.ensures
