-- Each section moves the end on, or leaves it.
use Rattle.std.proofs.Common.{◌≡◌, ℕ, ◌+◌, ◌-◌, max, ap, sym, ◌∙◌}
use Rattle.pef_views.specs.Container.{section_of}
use Rattle.pef_views.specs.Extents.{greatest, raw_end}
use Rattle.pef_views.specs.Views.{contained}
use Rattle.pef_views.proofs.ExtentLemmas.{greatest-end, greatest-next}
use Rattle.pef_views.proofs.container.Container.parts_end.Goals as goal

pub loop-i-preserved : goal.loop-i-preserved
loop-i-preserved c =
    let whole = contained c.args.self.now in
    let f : ℕ → ℕ = λ i. raw_end (section_of whole i) in
    let i = c.loop-i.i in
    let n = c.from-count.result in
    let raw : c.raw_end.result ≡ f i = c.raw_end.ensures ∙ ap raw_end c.section.ensures.value in
    let end : c.max-end.result ≡ max c.loop-i.end (f i) = c.max-end.ensures ∙ ap (max c.loop-i.end) raw in
    ap (λ e. max e (greatest f (i + 1) (n - (i + 1)))) end ∙ (greatest-next f i n c.loop-i.end c.loop-i-test.true ∙ c.loop-i.invariant)

pub returns : goal.returns
returns c =
    let f : ℕ → ℕ = λ i. raw_end (section_of (contained c.args.self.now) i) in
    sym (greatest-end f c.loop-i.i c.from-count.result c.loop-i.end c.loop-i-test.false) ∙ c.loop-i.invariant
