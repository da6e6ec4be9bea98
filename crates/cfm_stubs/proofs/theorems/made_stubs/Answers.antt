-- A store with stubs that were made for it is one with stubs.
use Rattle.cfm_stubs.proofs.MadeLemmas.{made-stubbed}
use Rattle.cfm_stubs.proofs.theorems.made_stubs.Goals as goal

pub returns : goal.returns
returns c = λ pairs loaders stub first step made. made-stubbed pairs loaders stub first step made
