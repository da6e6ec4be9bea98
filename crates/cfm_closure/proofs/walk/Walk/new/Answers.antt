-- No fragment was visited.
use Rattle.std.proofs.Common.{None, ap, replicate, ◌∙◌, arith}
use Rattle.cfm_closure.proofs.TableLemmas.{tables-none}
use Rattle.cfm_closure.proofs.walk.Walk.new.Goals as goal

pub returns-clause-walk : goal.returns-clause-walk
returns-clause-walk c =
    let len = c.len-len.ensures.len in
    tables-none c.args.store.now c.args.fragments c.in_ok-closed.closed c.in_ok-marked.marked.items c.new-2.result.items c.new-3.result.items
    c.requires.size
    c.requires.read
    (c.in_ok-closed.ensures ∙ ap (λ n. replicate n None) len)
    (omega (arith, c.in_ok-marked.ensures.len, c.in_ok-marked.marked.ok.0))
    c.new-2.ensures.items
    c.new-3.ensures.items
