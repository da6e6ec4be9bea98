-- The entries before this one name no marked fragment.
use Rattle.std.proofs.Common.{◌≡◌, ◌<◌, ℕ, Some}
use Rattle.pef_loader.specs.Library.{Library}
use Rattle.pef_loader.specs.Loader.{library_of}
use Rattle.pef_loader.specs.Views.{loaded}
use Rattle.cfm_closure.specs.Kept.Removal.{IsUnmarked}
use Rattle.cfm_closure.proofs.fragment.FragmentView.names_marked.Given as goal

abbrev pub invariant-loop-l : goal.invariant-loop-l
invariant-loop-l l = (k : ℕ) → k < l.l → (library : Library) → library_of (loaded l.self.loader) k ≡ Some library → IsUnmarked l.store l.marks library.name
