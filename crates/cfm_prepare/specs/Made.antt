-- The options of the code as plain numbers.
use Rattle.cfm_prepare.specs.Options.{Choices}
use Rattle.cfm_prepare.specs.declared.options.Options.{Options}

abbrev pub choices_of : Options → Choices
choices_of o = record { limit = o.limit; granule = o.granule.bytes; bounds = record { connections = o.connections; steps = o.steps; bytes = o.bytes } }
