-- A fragment that was visited is passed by.
use Rattle.std.proofs.Common.{◌≡◌, ◌∙◌, true, Ok, get_or, sym, ap}
use Rattle.pef_loader.specs.Views.{library_seen}
use Rattle.pef_words.specs.Results.{◌>>=◌}
use Rattle.cfm_closure.specs.Kept.Searches.{sought_of}
use Rattle.cfm_closure.specs.Missing.{search, search_by}
use Rattle.cfm_closure.proofs.SearchLemmas.{search-met}
use Rattle.cfm_closure.proofs.search.Search.follow.Goals as goal

pub returns-then-index-clause-leads : goal.returns-then-index-clause-leads
returns-then-index-clause-leads c = λ n.
    let s = sought_of c.args.self.now in
    let marks = c.args.self.now.marked.items in
    let met : get_or marks c.in-By.q true ≡ true = ap (λ d. get_or marks c.in-By.q d) (sym c.if-index.true) ∙ sym c.index.ensures ∙ c.if-index.true in
    ap (λ r. r >>= search_by (search n c.args.store.now) c.args.p (library_seen c.args.library) s) (c.in_ok-q.ensures.answer ∙ ap Ok c.in-By.is)
    ∙ search-met c.args.store.now n c.in-By.q s met
