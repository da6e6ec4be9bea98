-- The sort leaves the one list of these fixups in address order.
use Rattle.std.proofs.Common.{rules}
use Rattle.std.proofs.lemmas.List.Sorted.{IsNonDecreasingBy-from_sort_by_key}
use Rattle.pef_script.proofs.TextProofs.Sorting.{sorted_is}
use Rattle.pef_script.proofs.text.sections.sorted.Goals as goal

pub returns : goal.returns
returns c =
    sorted_is c.args.fixups.items c.sort_unstable_by_key.new.self.items c.requires c.sort_unstable_by_key.ensures.permutation
    (IsNonDecreasingBy-from_sort_by_key (λ fixup. fixup.offset) _ c.sort_unstable_by_key.ensures.sorted (λ a r q k. search rules))
