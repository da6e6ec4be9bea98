-- A container that was linked from a script with the versions and the exports of a stub is one.
use Rattle.std.proofs.Common.{◌∙◌, ℕ, List, ap, slice_get}
use Rattle.pef_format.specs.Exports.{Export}
use Rattle.pef_loader.specs.Loader.{Loaded}
use Rattle.pef_script.specs.declared.parts.Versions.{Versions}
use Rattle.pef_views.specs.Container.{container_of}
use Rattle.pef_write.proofs.Laws.{is_read_back}
use Rattle.cfm_store.specs.Stores.{Pair, pair_of}
use Rattle.cfm_stubs.specs.Made.{IsLinkedStub, IsMade}
use Rattle.cfm_stubs.proofs.ReadLemmas.{read-fragment}

pub linked-made : (pairs : List Pair) (loaders : List Loaded) (first step q : ℕ) → IsLinkedStub pairs loaders first step q → IsMade pairs loaders first step q
linked-made pairs loaders first step q is =
    let back = is_read_back is.script is.container is.linked in
    let name = (pair_of pairs q).name in
    record {
      fragment = record { name = name; container = back.container; loader = back.loader };
      read = read-fragment pairs q back.container back.loader (ap container_of is.bytes ∙ back.read) back.loaded;
      current = back.sections.current ∙ ap (λ (v : Versions). v.current) is.versions;
      old_def = back.sections.old_def ∙ ap (λ (v : Versions). v.old_def) is.versions;
      named = λ k x there. back.tables.named k x (ap (λ (es : List Export). slice_get es k) is.exports ∙ there);
    }
