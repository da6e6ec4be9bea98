-- The notes on some bytes as a container that need memory.
use Rattle.std.specs.Prelude.{◌≡◌, ◌++◌, ℕ, List, [], Result, Ok, Err}
use Rattle.pef_views.specs.Container.{Contained}
use Rattle.pef_views.specs.Partial.{partial_of}
use Rattle.pef_views.specs.declared.fault.ViewFault.{ViewFault}
use Rattle.pef_inspect.specs.Extents.{AreParts, Extent, extent_notes}
use Rattle.pef_inspect.specs.Limits.{container_limits}
use Rattle.pef_inspect.specs.LoaderParts.{AreGaps}
use Rattle.pef_inspect.specs.Twice.{twice_in}
use Rattle.pef_inspect.specs.declared.finding.Finding.{Finding}
use Rattle.pef_inspect.specs.declared.limits.Limits.{Limits}

-- the notes on the parts of a container, in their order, then those on bytes of the loader section that belong to none of its
-- parts, then those on words that are relocated twice
pub record AreMoreIn (limits : Limits) (c : Contained) (found : List Finding) : Type 0 where
  pub extents : List Extent
  pub are : AreParts c extents
  pub gaps : List Finding
  pub are_gaps : AreGaps c gaps
  pub notes : found ≡ extent_notes c extents ++ (gaps ++ twice_in limits c)

-- there are no such notes if the bytes have no header
abbrev pub AreMoreOpened : Limits → Result Contained ViewFault → List Finding → Type 0
AreMoreOpened limits (Ok c) found = AreMoreIn limits c found
AreMoreOpened limits (Err f) found = found ≡ []

unfoldable pub AreMoreWithin : Limits → List ℕ → List Finding → Type 0
AreMoreWithin limits bytes found = AreMoreOpened limits (partial_of bytes) found

-- the notes that need memory within the limits for one container
unfoldable pub AreMore : List ℕ → List Finding → Type 0
AreMore bytes found = AreMoreWithin container_limits bytes found
