-- A program takes a part of what is left, or more than that, or isn't read.
use Rattle.std.proofs.Common.{◌≡◌, ◌+◌, ◌-◌, ◌<◌, ℕ, Some, sym, ap, ◌∙◌, arith}
use Rattle.pef_loader.specs.Loader.{reloc_of}
use Rattle.pef_loader.specs.Views.{loaded}
use Rattle.pef_reloc.specs.Headers.{steps_by}
use Rattle.pef_reloc.specs.Unrolled.{program_fault, steps_of}
use Rattle.cfm_prepare.specs.Kept.Bounds.{left_of}
use Rattle.cfm_prepare.proofs.BoundLemmas.{step-end, step-here, step-past, steps-last, steps-next, was-read, was-unread}
use Rattle.cfm_prepare.proofs.bounds.left_after_programs.Goals as goal

pub returns-in_default-read : goal.returns-in_default-read
returns-in_default-read c =
    let at = c.loop-i in
    let header = reloc_of (loaded c.args.loader.now) in
    let count = (loaded c.args.loader.now).header.reloc_count in
    let under : at.i < count = omega (arith, c.loop-i-test.true, c.relocs-i-end.ensures.count) in
    let is : header at.i ≡ Some (c.in-Some.field-0-0, c.in-Some.bytes.now) = sym c.in-Some.ensures.value in
    let unread = was-unread (program_fault c.in-Some.bytes.now) c.in-Some.bytes.now c.in_default-read.field-0 c.in_default-read.ensures in
    step-end at.left (steps_by header at.i (count - at.i)) (left_of c.args.steps (steps_by header 0 count)) (steps-last header at.i count c.in-Some.field-0-0 c.in-Some.bytes.now c.in_default-read.field-0 under is unread) at.invariant

pub returns-then-taken-left : goal.returns-then-taken-left
returns-then-taken-left c =
    let at = c.loop-i in
    let header = reloc_of (loaded c.args.loader.now) in
    let count = (loaded c.args.loader.now).header.reloc_count in
    let under : at.i < count = omega (arith, c.loop-i-test.true, c.relocs-i-end.ensures.count) in
    let is : header at.i ≡ Some (c.in-Some.field-0-0, c.in-Some.bytes.now) = sym c.in-Some.ensures.value in
    let read = was-read (program_fault c.in-Some.bytes.now) c.in-Ok.program.bytes.now c.in-Some.bytes.now c.in-Ok.ensures in
    let takes : c.from-taken.result ≡ steps_of c.in-Some.bytes.now = c.from-taken.ensures ∙ c.steps.ensures ∙ ap steps_of read.1 in
    let more = steps_by header (at.i + 1) (count - (at.i + 1)) in
    let rest = steps-next header at.i count c.in-Some.field-0-0 c.in-Some.bytes.now under is read.0 ∙ ap (λ (k : ℕ). k + more) (sym takes) in
    step-past at.left c.from-taken.result more (steps_by header at.i (count - at.i)) (left_of c.args.steps (steps_by header 0 count)) rest (omega (arith, c.if-taken-left.true)) at.invariant

pub loop-i-preserved : goal.loop-i-preserved
loop-i-preserved c =
    let at = c.loop-i in
    let header = reloc_of (loaded c.args.loader.now) in
    let count = (loaded c.args.loader.now).header.reloc_count in
    let under : at.i < count = omega (arith, c.loop-i-test.true, c.relocs-i-end.ensures.count) in
    let is : header at.i ≡ Some (c.in-Some.field-0-0, c.in-Some.bytes.now) = sym c.in-Some.ensures.value in
    let read = was-read (program_fault c.in-Some.bytes.now) c.in-Ok.program.bytes.now c.in-Some.bytes.now c.in-Ok.ensures in
    let takes : c.from-taken.result ≡ steps_of c.in-Some.bytes.now = c.from-taken.ensures ∙ c.steps.ensures ∙ ap steps_of read.1 in
    let more = steps_by header (at.i + 1) (count - (at.i + 1)) in
    let rest = steps-next header at.i count c.in-Some.field-0-0 c.in-Some.bytes.now under is read.0 ∙ ap (λ (k : ℕ). k + more) (sym takes) in
    step-here at.left c.from-taken.result more (steps_by header at.i (count - at.i)) (left_of c.args.steps (steps_by header 0 count)) rest (omega (arith, c.if-taken-left.false)) at.invariant
