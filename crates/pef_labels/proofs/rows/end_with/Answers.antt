use Rattle.std.proofs.Common.{◌-◌, length, take}
use Rattle.std.proofs.lemmas.Bool.{false≢true}
use Rattle.std.proofs.lemmas.Bool.Decides.{Decides-eqb}
use Rattle.std.proofs.lemmas.Slice.Eq.{ends_is}
use Rattle.std.proofs.Common.{◌∙◌, sym}
use Rattle.pef_labels.proofs.RowLemmas.{some_there}
use Rattle.pef_labels.proofs.rows.end_with.Goals as goal

pub returns-then-not-is_empty-clause-yes : goal.returns-then-not-is_empty-clause-yes
returns-then-not-is_empty-clause-yes c = λ yes. record {
  some = some_there (length c.args.ends.now) (sym c.is_empty.ensures ∙ c.if-not-is_empty.true);
  front = take (length c.args.values.now - length c.args.row.now) c.args.values.now;
  is = (ends_is Decides-eqb c.args.values.now c.args.row.now c.ends_with.result c.ends_with.ensures.value).0 yes;
}

pub returns-then-not-is_empty-clause-no : goal.returns-then-not-is_empty-clause-no
returns-then-not-is_empty-clause-no c = λ no some front is.
    false≢true (sym no ∙ (ends_is Decides-eqb c.args.values.now c.args.row.now c.ends_with.result c.ends_with.ensures.value).1 front is)
