-- A name that is longer than all has no export.
use Rattle.std.proofs.Common.{None, sym, ◌∙◌}
use Rattle.cfm_store.proofs.IndexLemmas.{index-named}
use Rattle.cfm_store.proofs.NameLemmas.{means-found}
use Rattle.cfm_store.proofs.name_index.NameIndex.find.Goals as goal

pub returns-then-name-self : goal.returns-then-name-self
returns-then-name-self c = λ l ok are. means-found l c.args.name.now None ok (sym (are.long c.args.name.now c.if-name-self.true) ∙ index-named l c.args.self.now c.args.name.now are)

pub returns : goal.returns
returns c = λ l ok are. means-found l c.args.name.now c.copied.result ok (c.copied.ensures ∙ c.get.ensures.value ∙ index-named l c.args.self.now c.args.name.now are)
