-- A fragment is read if its container and its loader section are.
use Rattle.std.proofs.Common.{◌≡◌, ◌∙◌, ℕ, List, Ok, ap}
use Rattle.std.specs.Prelude.{Result}
use Rattle.pef_loader.specs.Loader.{Loaded, loaded_of}
use Rattle.pef_loader.specs.declared.fault.LoaderFault.{LoaderFault}
use Rattle.pef_views.specs.Container.{Contained, container_of}
use Rattle.pef_views.specs.declared.fault.ViewFault.{ViewFault}
use Rattle.cfm_store.specs.Stores.{Pair, pair_of}
use Rattle.cfm_closure.specs.Fragments.{fragment_of, with_container, with_loader}

pub read-fragment : (pairs : List Pair) (q : ℕ) (c : Contained) (l : Loaded) → container_of (pair_of pairs q).bytes ≡ Ok c → loaded_of c.header.instantiated_section_count c.loader ≡ Ok l
    → fragment_of pairs q ≡ Ok (record { name = (pair_of pairs q).name; container = c; loader = l })
unfolding fragment_of
read-fragment pairs q c l contained loaded =
    ap (λ (r : Result Contained ViewFault). with_container (pair_of pairs q).name r) contained
    ∙ ap (λ (r : Result Loaded LoaderFault). with_loader (pair_of pairs q).name c r) loaded
