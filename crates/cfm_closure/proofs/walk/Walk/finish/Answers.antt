-- A fragment that is done has all its libraries.
use Rattle.std.proofs.Common.{◌∙◌, sym, rules}
use Rattle.cfm_closure.proofs.TableLemmas.{frame-imports, tables-joined}
use Rattle.cfm_closure.proofs.CacheLemmas.{rows_known}
use Rattle.cfm_closure.proofs.walk.Walk.finish.Goals as goal

pub returns-clause-walk : goal.returns-clause-walk
returns-clause-walk c =
    rw (c.in_ok-put.ensures.ok, c.in_ok-push.ensures.items)
    (tables-joined c.args.store.now c.args.self.now.fragments c.args.self.now.closed c.args.self.now.marked.items c.args.self.now.path.items c.args.self.now.order.items
    c.requires.walk c.args.frame c.in_ok-targets.targets c.requires.frame c.requires.all
    (c.in_ok-targets.ensures.count c.args.store.now c.requires.rows (frame-imports c.args.store.now c.args.self.now.fragments c.args.self.now.closed c.args.self.now.marked.items c.args.self.now.path.items c.args.self.now.order.items c.requires.walk c.args.frame c.requires.frame ∙ sym c.imports-imports.ensures.count) ∙ c.imports-imports.ensures.count)
    (c.in_ok-targets.ensures.right c.args.store.now c.requires.rows))

pub returns-clause-continues : goal.returns-clause-continues
returns-clause-continues c = search rules

pub kept_or_unknown-requires : goal.kept_or_unknown-requires
kept_or_unknown-requires c = rows_known c.args.store.now c.args.rows.now c.requires.rows
