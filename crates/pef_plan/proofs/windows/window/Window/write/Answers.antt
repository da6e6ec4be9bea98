use Rattle.std.proofs.Common.{List, ap, arith, length, subst, sym, ℕ, ◌*◌, ◌∙◌, ◌≡◌}
use Rattle.pef_plan.specs.Windows.Windows.{LesserOf, RowAdded}
use Rattle.pef_plan.proofs.WindowsProofs.TableLemmas.{same_slice}
use Rattle.pef_plan.proofs.WindowsProofs.WindowLemmas.{window-add}
use Rattle.pef_plan.proofs.windows.window.Window.write.Goals.{then-self-eq0, else-self-eq0}
use Rattle.pef_plan.proofs.windows.window.Window.write.Goals as goal

pub returns : goal.returns
returns c =
    let s = c.self.inside in
    let row = c.args.row.now in
    let wide = rw (← c.self.view_is) at c.requires.wide in
    let free = rw (← c.self.view_is) at c.requires.free in
    let start_is = rw (← c.self.view_is) at c.requires.start in
    elim c.if-self-eq0.branch [
      | then-self-eq0 b ↦
          (let none = b.if-self-eq0.true in
          let e = b.write_first.ensures in
          let values = b.write_first.new.values in
          let low = b.write_first.new.low in
          let values_len : length values ≡ s.values.len = e.values_len ∙ (ap length b.deref_mut.ensures.value ∙ sym s.values.ok.0) in
          let low_len : length low ≡ s.low.len = e.low_len ∙ (ap length b.deref_mut-then-self-eq0.ensures.value ∙ sym s.low.ok.0) in
          let nothing : 0 ≡ 0 * s.width = omega arith in
          let start = nothing ∙ ap (λ n. n * s.width) (sym none) in
          let added = subst (λ (n : ℕ). RowAdded row n s.values.items values) start (subst (λ (vs : List ℕ). RowAdded row 0 vs values) b.deref_mut.ensures.value e.added) in
          rw (b.self-inside-is, same_slice s.values.len values s.values.items values_len (sym s.values.ok.0), same_slice s.low.len low s.low.items low_len (sym s.low.ok.0), ← c.self.view_is)
          (λ width limit rows w.
          window-add width limit rows _ row values low w free wide added (λ is. e.first) (λ some. absurd (omega (arith, none, some)))))
      | else-self-eq0 b ↦
          (let none = b.if-self-eq0.false in
          let e = b.write_next.ensures in
          let values = b.write_next.new.values in
          let low = b.write_next.new.low in
          let values_len : length values ≡ s.values.len = e.values_len ∙ (ap length b.deref_mut-else-self-eq0.ensures.value ∙ sym s.values.ok.0) in
          let low_len : length low ≡ s.low.len = e.low_len ∙ (ap length b.deref_mut-else-self-eq0-2.ensures.value ∙ sym s.low.ok.0) in
          let added = subst (λ (n : ℕ). RowAdded row n s.values.items values) start_is (subst (λ (vs : List ℕ). RowAdded row c.args.start vs values) b.deref_mut-else-self-eq0.ensures.value e.added) in
          let lesser = subst (λ (ls : List ℕ). LesserOf (length row) ls row low) b.deref_mut-else-self-eq0-2.ensures.value e.lesser in
          rw (b.self-inside-is, same_slice s.values.len values s.values.items values_len (sym s.values.ok.0), same_slice s.low.len low s.low.items low_len (sym s.low.ok.0), ← c.self.view_is)
          (λ width limit rows w.
          window-add width limit rows _ row values low w free wide added (λ is. absurd (none is)) (λ some. lesser)))
    ]
