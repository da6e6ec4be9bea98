-- The values of views, without places in memory.
use Rattle.cfm_stubs.specs.declared.library.Lacking.{Lacking}
use Rattle.cfm_stubs.specs.Lacking.{LackingLibrary}

abbrev pub lacking_seen : Lacking → LackingLibrary
lacking_seen l = record { name = l.name.now; is_weak = l.is_weak }
