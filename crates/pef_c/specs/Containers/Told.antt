-- A list that only proofs read, as a list.
use Rattle.std.specs.Prelude.{List, [], ◌∷◌, ◌++◌}
use Rattle.pef_c.specs.declared.containers.told.Told.{Told}
use Rattle.pef_c.specs.declared.containers.told.Told.TheVariants.{Nothing, Another'}

-- the items, the first one first
abbrev pub told_items : {A : Type 0} → Told A → List A
told_items Nothing = []
told_items (Another' shape before item) = told_items before ++ item.value ∷ []
