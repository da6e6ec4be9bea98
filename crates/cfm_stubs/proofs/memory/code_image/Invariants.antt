-- The code so far, and the code that is left, is all.
use Rattle.std.proofs.Common.{◌≡◌, ◌++◌, drop}
use Rattle.cfm_stubs.specs.MemoryStubs.{code_image}
use Rattle.cfm_stubs.proofs.memory.code_image.Given as goal

abbrev pub invariant-loop-k : goal.invariant-loop-k
invariant-loop-k l = l.image.items ++ code_image l.word (drop l.k l.symbols) ≡ code_image l.word l.symbols
