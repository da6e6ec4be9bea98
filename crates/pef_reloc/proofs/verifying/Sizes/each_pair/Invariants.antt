use Rattle.std.proofs.Common.{◌≡◌, ℕ, ◌+◌, ◌*◌, ◌-◌, map}
use Rattle.pef_reloc.specs.declared.fixup.Base.TheVariants.{Section}
use Rattle.pef_reloc.specs.Steps.{add, pairs}
use Rattle.pef_reloc.specs.Verified.{first_stop}
use Rattle.pef_reloc.proofs.verifying.Sizes.each_pair.Given as goal

abbrev pub invariant-words : goal.invariant-words
invariant-words l = record {
  at_is : l.at ≡ l.places.from + l.places.stride * l.counter;
  left : (k j : ℕ) → first_stop l.self (map add (pairs (l.places.count - l.counter) l.at l.places.stride (Section k) (Section j))) ≡ first_stop l.self (map add (pairs l.places.count l.places.from l.places.stride (Section k) (Section j)));
}
