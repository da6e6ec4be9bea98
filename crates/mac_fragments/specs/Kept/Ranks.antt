-- The values of candidates that were read and ranked, for the proofs of this crate.
use Rattle.pef_views.specs.Views.{contained}
use Rattle.pef_loader.specs.Views.{loaded}
use Rattle.cfm_closure.specs.Fragments.{Fragment}
use Rattle.mac_fragments.specs.declared.choice.RankedPlace.{RankedPlace}
use Rattle.mac_fragments.specs.declared.rank.RankedCandidate.{RankedCandidate}
use Rattle.mac_fragments.specs.declared.rank.ReadCandidate.{ReadCandidate}
use Rattle.mac_fragments.specs.Choices.{Place, Ranked}

abbrev pub read_seen : ReadCandidate → Fragment
read_seen c = record { name = c.name.now; container = contained c.container; loader = loaded c.loader }

abbrev pub ranked_seen : RankedCandidate → Ranked
ranked_seen c = record { name = c.name.now; usage = c.usage; rank = c.rank }

abbrev pub place_seen : RankedPlace → Place
place_seen p = record { place = p.place; rank = p.rank }
