-- Each byte that isn't zero belongs to the path.
use Rattle.std.proofs.Common.{◌∷◌, ◌∙◌, List, ℕ, ap₂, sym}
use Rattle.std.proofs.lemmas.List.{drop_all, take_all}
use Rattle.pef_tool.specs.Inspect.{listed_paths}
use Rattle.pef_tool.proofs.PathLemmas.{extended, path-ended, path-last, path-more}
use Rattle.pef_tool.proofs.inspect.first_path.Goals as goal

pub loop-i-preserved : goal.loop-i-preserved
loop-i-preserved c = path-more c.args.list.now c.loop-i.i c.loop-i-test.true c.loop-i.invariant c.if-b-eq0.false

pub returns-then-b-eq0-clause-paths : goal.returns-then-b-eq0-clause-paths
returns-then-b-eq0-clause-paths c =
    path-ended c.args.list.now c.loop-i.i c.loop-i-test.true c.loop-i.invariant c.if-b-eq0.true
    ∙ ap₂ (λ (p q : List ℕ). p ∷ listed_paths q) (sym c.split_at.ensures.front) (sym c.split_at-then-b-eq0.ensures.back)

pub returns-clause-paths : goal.returns-clause-paths
returns-clause-paths c =
    let i = c.loop-i.i in
    let list = c.args.list.now in
    path-last list c.requires (c.loop-i.invariant ∙ ap₂ (λ p q. extended p (listed_paths q)) (take_all i list c.loop-i-test.false) (drop_all i list c.loop-i-test.false))
