use Rattle.pef_headline.proofs.ReaderLemmas.{reads-fragment, reads-root}
use Rattle.pef_headline.proofs.theorems.script_to_memory.Goals as goal

pub returns : goal.returns
returns c = record { fragment = reads-fragment; root = reads-root }
