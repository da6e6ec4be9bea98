-- Linked bytes are read back as the script's container, under any name and in any store.
use Rattle.std.proofs.Common.{◌≡◌, List, ℕ, Ok, ap, ◌∙◌}
use Rattle.cfm_store.specs.Stores.{Pair, pair_of}
use Rattle.cfm_closure.specs.Fragments.{Fragment, fragment_of, with_container, with_loader}
use Rattle.pef_loader.specs.Loader.{Loaded}
use Rattle.pef_script.specs.Script.{DescribedScript}
use Rattle.pef_views.specs.Container.{Contained, container_of}
use Rattle.pef_write.specs.Linked.{IsLinked, LinkedContainer}
use Rattle.pef_write.specs.ReadBack.{HasSections, HasTables}
use Rattle.pef_write.proofs.Laws.{is_read_back}

-- a container and a loader section with the sections and the tables of a linked script
pub record IsContainerOf (script : DescribedScript) (k : LinkedContainer) (linked : IsLinked script k) (c : Contained) (l : Loaded) : Type 0 where
  pub sections : HasSections script c
  pub tables : HasTables script linked.programs l

module _ (script : DescribedScript) (k : LinkedContainer) (linked : IsLinked script k) (pairs : List Pair) (p : ℕ) where
  -- the fragment in a place that has the linked bytes ..
  abbrev pub read_fragment : Fragment
  read_fragment = record { name = (pair_of pairs p).name; container = (is_read_back script k linked).container; loader = (is_read_back script k linked).loader }

  pub record FragmentLinked : Type 0 where
    pub read : fragment_of pairs p ≡ Ok read_fragment
    pub of : IsContainerOf script k linked read_fragment.container read_fragment.loader

  -- .. is read, as the script's
  pub fragment_linked : (pair_of pairs p).bytes ≡ k.bytes → FragmentLinked
  unfolding fragment_of
  fragment_linked is =
      let back = is_read_back script k linked in
      let name = (pair_of pairs p).name in
      record {
        read = ap (with_container name) (ap container_of is ∙ back.read) ∙ ap (with_loader name back.container) back.loaded;
        of = record { sections = back.sections; tables = back.tables };
      }
