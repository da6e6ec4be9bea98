-- The closure's fragments are kept with those that were.
use Rattle.std.proofs.Common.{◌≡◌, ◌≤◌, List, Option, length, refl, sym, subst, arith}
use Rattle.cfm_closure.specs.Kept.Views.{AreRead}
use Rattle.cfm_closure.specs.declared.fragment.FragmentView.{FragmentView}
use Rattle.cfm_closure.proofs.CacheLemmas.{kept_more}
use Rattle.cfm_closure.proofs.cache.Cache.keep_targets.Goals as goal

pub returns-in-Ok-clause-cache : goal.returns-in-Ok-clause-cache
returns-in-Ok-clause-cache c =
    let pairs = c.args.bindings.now.pairs in
    let views = sym c.in-Ok.ensures.views in
    let rows = c.in-Ok.ensures.rows in
    record {
      few = subst (λ (views : List (Option FragmentView)). length views ≤ length pairs) views c.requires.cache.few;
      read = subst (AreRead pairs) views c.requires.cache.read;
      few_rows = let size = rows.size in omega arith;
      right = rows.right;
      closures = kept_more pairs c.args.bindings.now.order (length c.args.bindings.now.order) c.args.self.now.rows c.keep_rows.new.self.rows c.requires.closure refl rows c.requires.cache.closures;
    }
