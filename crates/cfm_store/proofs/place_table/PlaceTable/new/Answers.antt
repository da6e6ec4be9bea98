-- No place has a value.
use Rattle.std.proofs.Common.{[], ap, ◌∙◌}
use Rattle.cfm_store.specs.Kept.Numbers.{values_at}
use Rattle.cfm_store.proofs.NumberLemmas.{values-none}
use Rattle.cfm_store.proofs.place_table.PlaceTable.new.Goals as goal

pub returns : goal.returns
returns g c =
    ap (λ values. values_at c.in_ok-numbers.numbers.items values) c.new-values.ensures.items
    ∙ ap (λ numbers. values_at numbers []) (c.in_ok-numbers.ensures.items_if_clones_equal (λ n is. is))
    ∙ values-none c.args.len
