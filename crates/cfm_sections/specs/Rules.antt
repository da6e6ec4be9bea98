-- The code's rule of placement as a rule of the definitions.
use Rattle.cfm_memory.specs.Extents.{Rule, at_given, at_lowest}
use Rattle.cfm_sections.specs.declared.places.PlaceRule.{PlaceRule}
use Rattle.cfm_sections.specs.declared.places.PlaceRule.TheVariants.{Given, Lowest}

abbrev pub rule_of : PlaceRule → Rule
rule_of Lowest = at_lowest
rule_of (Given addresses) = at_given addresses.now
