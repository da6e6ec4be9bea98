-- The values of the fragments of a store and of missing libraries, without places in memory.
use Rattle.pef_views.specs.Views.{contained}
use Rattle.pef_loader.specs.Views.{loaded}
use Rattle.cfm_closure.specs.declared.fragment.FragmentView.{FragmentView}
use Rattle.cfm_closure.specs.declared.missing.MissingLibrary.{MissingLibrary}
use Rattle.cfm_closure.specs.Fragments.{Fragment}
use Rattle.cfm_closure.specs.Missing.{Missing}

abbrev pub fragment_seen : FragmentView → Fragment
fragment_seen f = record { name = f.name.now; container = contained f.container; loader = loaded f.loader }

abbrev pub missing_seen : MissingLibrary → Missing
missing_seen m = record { name = m.name.now; needed = m.needed; found = m.found; weak = m.weak; fragment = m.fragment }
