-- No names are distinct.
use Rattle.std.proofs.Common.{List, sym, subst}
use Rattle.std.specs.List.{IsDistinct}
use Rattle.std.specs.Str.{bytes_eq}
use Rattle.pef_script.specs.Script.{DescribedSection}
use Rattle.pef_script.proofs.TextProofs.ListLemmas.{names_of, no_names_apart}
use Rattle.pef_script.proofs.text.reader.Reader.new.Goals as goal

pub invariant_of-result-2-clause-distinct : goal.invariant_of-result-2-clause-distinct
invariant_of-result-2-clause-distinct c = subst (λ (sections : List DescribedSection). IsDistinct bytes_eq (names_of sections)) (sym c.new-5.ensures.items) no_names_apart
