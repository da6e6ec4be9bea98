-- What the closures of a store with stubs are.
use Rattle.cfm_stubs.proofs.StubbedLemmas.{closed-may_end, target-number}
use Rattle.cfm_stubs.proofs.theorems.stubbed_stores.Goals as goal

pub returns : goal.returns
returns c = record {
  ends = λ pairs stub number root r stubbed inside is. closed-may_end pairs stub number stubbed root r inside is;
  numbers = λ pairs stub number p j q f i stubbed read there names is. target-number pairs stub number stubbed p j q f i read there names is;
}
