-- Packed bytes are at most twice as many as those of the image.
use Rattle.std.proofs.Common.{◌∙◌, length, ap, sym, arith, Vec, Global, ℕ, Option}
use Rattle.std.specs.Option.{option_map_or}
use Rattle.pef_write.proofs.Containers.{length-raw_of}
use Rattle.pef_write.proofs.sections.RawSection.bytes.Goals as goal

pub returns-in-Some-clause-few : goal.returns-in-Some-clause-few
returns-in-Some-clause-few c =
    let s = c.self.inside.section.now in
    let raw = ap (λ (packed : Option (Vec ℕ Global)). option_map_or (λ v. v.items) packed s.image) (sym c.in-Some.is) ∙ c.self.invariant.1 in
    omega (arith, ap length c.deref.ensures.value, ap length raw, length-raw_of s, c.self.invariant.0)
