use Rattle.pef_headline.proofs.ServedLemmas.{symbols-agree, symbols-mean, symbols-root}
use Rattle.pef_headline.proofs.theorems.imports_mean_symbols.Goals as goal

pub returns : goal.returns
returns c = record {
  means = symbols-mean c.present_fragments.ensures.closed;
  agree = symbols-agree c.present_fragments.ensures.closed;
  root = symbols-root c.present_fragments.ensures.closed;
}
