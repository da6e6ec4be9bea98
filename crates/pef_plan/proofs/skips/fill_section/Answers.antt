use Rattle.std.proofs.Common.{◌+◌, ◌<◌, ℕ, List, length, arith, slice_index, subst}
use Rattle.pef_plan.specs.Runs.Places.{Counts}
use Rattle.pef_plan.specs.Runs.Tables.{number_in}
use Rattle.pef_plan.specs.Windows.Windows.{BestOf, WindowOf}
use Rattle.pef_plan.proofs.DirectLemmas.{skip-best}
use Rattle.pef_plan.proofs.RowLemmas.{skips-of}
use Rattle.pef_plan.proofs.skips.fill_section.Goals as goal

pub fill_skips-requires : goal.fill_skips-requires
fill_skips-requires c =
    let a = c.args in
    let r = c.requires in
    let few = r.at.shaped.few in
    let most = r.at.shaped.count in
    let counts = subst (λ b. Counts a.known.registers.now b) r.base r.at.counts.0 in
    let is = c.class_of.ensures in
    let class : c.class_of.result < length a.known.registers.now + 1 = omega (arith, counts, is) in
    record {
      few = few;
      class = class;
      near = r.ends.near_len;
      small = λ x under. (let low = r.ends.near_small x c.class_of.result under class in omega (arith, low, most));
      width = r.ends.words.skips.is.width_is;
      len = r.skips;
    }

pub returns-clause-are : goal.returns-clause-are
returns-clause-are c =
    let a = c.args in
    let line = c.fill_skips.new.skips in
    skips-of a.known a.at a.section line c.requires.base
    (λ x under. skip-best a.known a.at a.section x (slice_index line x) a.ends.now c.requires.at c.requires.base under c.requires.ends
    (subst (λ n. (width limit : ℕ) (rows : List (List ℕ)) → WindowOf width limit rows a.ends.now.words.skips → BestOf (1 + number_in (length a.known.registers.now + 1) a.ends.now.near.items x n) rows x (slice_index line x)) c.class_of.ensures (c.fill_skips.ensures.best x under)))
