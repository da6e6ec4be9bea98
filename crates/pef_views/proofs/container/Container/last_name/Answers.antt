-- Each name that begins later is the last one so far.
use Rattle.std.proofs.Common.{◌≡◌, ℕ, ◌+◌, ◌-◌, ◌≤◌, ◌∙◌, ap, arith, length, max}
use Rattle.pef_views.specs.Container.{section_of}
use Rattle.pef_views.specs.Extents.{greatest, name_start}
use Rattle.pef_views.specs.Views.{contained}
use Rattle.pef_views.proofs.ExtentLemmas.{greatest-next}
use Rattle.pef_views.proofs.container.Container.last_name.Goals as goal

pub loop-i-preserved : goal.loop-i-preserved
loop-i-preserved c =
    let whole = contained c.args.self.now in
    let f : ℕ → ℕ = λ i. name_start whole (section_of whole i) in
    let i = c.loop-i.i in
    let n = c.from-count.result in
    let last : c.max-last.result ≡ max c.loop-i.last (f i) = c.max-last.ensures ∙ ap (max c.loop-i.last) c.name_start.ensures.value in
    let bound : c.max-last.result ≤ length whole.bytes = (let e = c.max-last.ensures in let here = c.name_start.ensures.bound in let before = c.loop-i.invariant.1 in omega (arith, e, here, before)) in
    (ap (λ e. max e (greatest f (i + 1) (n - (i + 1)))) last ∙ (greatest-next f i n c.loop-i.last c.loop-i-test.true ∙ c.loop-i.invariant.0), bound)
