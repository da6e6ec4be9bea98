-- The exports so far, and those that are left, are all. They have the names of the symbols so far.
use Rattle.std.proofs.Common.{◌≡◌, ◌+◌, ◌*◌, ◌≤◌, ◌++◌, drop, map, take}
use Rattle.cfm_stubs.specs.Kept.Places.{entry_names, exports_in}
use Rattle.cfm_stubs.specs.MemoryStubs.{data_total, memory_exports, others, zeros_from}
use Rattle.cfm_stubs.specs.Symbols.{Symbol}
use Rattle.cfm_stubs.proofs.memory.exports.Given as goal

abbrev pub invariant-loop-k : goal.invariant-loop-k
invariant-loop-k l = record {
  all : exports_in l.exports.entries ++ memory_exports l.size l.places.code l.places.vector l.places.zeros (drop l.k l.symbols) ≡ memory_exports l.size 0 0 (zeros_from l.symbols) l.symbols;
  names : entry_names l.exports.entries ≡ map (λ (s : Symbol). s.name) (take l.k l.symbols);
  code : l.places.code ≤ 8 * l.k;
  vector : l.places.vector ≤ 8 * l.k;
  zeros : l.places.zeros + l.size * others (drop l.k l.symbols) ≡ data_total l.size l.symbols;
}
