-- The names that an error gives (docs/ERRORS.md): of the fragment that is refused, of its library, and of a symbol.
use Rattle.std.specs.Prelude.{ℕ, List, Option, None, Some}
use Rattle.cfm_closure.specs.declared.fault.BindFault.{BindFault}
use Rattle.cfm_closure.specs.declared.fault.BindFault.TheVariants as bind
use Rattle.cfm_prepare.specs.declared.fragment_fault.FragmentFault.{FragmentFault}
use Rattle.cfm_prepare.specs.declared.fragment_fault.FragmentFault.TheVariants as fragment
use Rattle.cfm_prepare.specs.declared.fault.PrepareFault.{PrepareFault}
use Rattle.cfm_prepare.specs.declared.fault.PrepareFault.TheVariants as prepare
use Rattle.pef_faults.specs.declared.fault.Fault.{Fault}
use Rattle.pef_faults.specs.declared.fault.Fault.TheVariants.{Prepare}

pub record Names : Type 0 where
  pub fragment : Option (List ℕ)
  pub library : Option (List ℕ)
  pub symbol : Option (List ℕ)

abbrev pub no_names : Names
no_names = record { fragment = None; library = None; symbol = None }

-- the names of the error of a fragment that has no closure
unfoldable pub bind_names : BindFault → Names
bind_names (bind.Container f v) = record { fragment = Some f.now; library = None; symbol = None }
bind_names (bind.Loader f v place) = record { fragment = Some f.now; library = None; symbol = None }
bind_names (bind.LibraryMissing f l place) = record { fragment = Some f.now; library = Some l.now; symbol = None }
bind_names (bind.SymbolMissing f l s place) = record { fragment = Some f.now; library = Some l.now; symbol = Some s.now }
bind_names (bind.ImplementationTooOld f l place needed found) = record { fragment = Some f.now; library = Some l.now; symbol = None }
bind_names (bind.ImplementationTooNew f l place needed found) = record { fragment = Some f.now; library = Some l.now; symbol = None }
bind_names (bind.ReexportLoop f s place) = record { fragment = Some f.now; library = None; symbol = Some s.now }
bind_names (bind.InitLoop f place) = record { fragment = Some f.now; library = None; symbol = None }
bind_names bind.OutOfMemory = no_names

-- the name of a new fragment of a closure that isn't prepared
unfoldable pub fragment_names : FragmentFault → Names
fragment_names (fragment.NoRoom f place) = record { fragment = Some f.now; library = None; symbol = None }
fragment_names (fragment.Pack f k place) = record { fragment = Some f.now; library = None; symbol = None }
fragment_names (fragment.Reloc f k section place) = record { fragment = Some f.now; library = None; symbol = None }
fragment_names fragment.OutOfMemory = no_names

-- the names of the error of a fragment that isn't prepared
unfoldable pub prepare_names : PrepareFault → Names
prepare_names (prepare.Bind f) = bind_names f
prepare_names (prepare.TooManyBytes f) = record { fragment = Some f.now; library = None; symbol = None }
prepare_names (prepare.TooManyStepsInAll f) = record { fragment = Some f.now; library = None; symbol = None }
prepare_names (prepare.Fragment f) = fragment_names f
prepare_names _ = no_names

-- the names of any error
unfoldable pub fault_names : Fault → Names
fault_names (Prepare f) = prepare_names f
fault_names _ = no_names
