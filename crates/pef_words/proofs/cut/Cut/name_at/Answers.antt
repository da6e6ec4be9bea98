-- Past the end no byte is left, and from a place before the end the name is that of the bytes left.
use Rattle.std.proofs.Common.{refl, arith}
use Rattle.std.proofs.Math.ListN.{drop_of_length-le}
use Rattle.pef_words.specs.Bytes.{name_at}
use Rattle.pef_words.proofs.cut.Cut.name_at.Goals as goal

pub returns-then-from-self : goal.returns-then-from-self
unfolding name_at
returns-then-from-self c =
    let nothing = drop_of_length-le c.args.self.bytes.now {i = c.args.from} (omega arith) in
    rw nothing refl

pub returns : goal.returns
unfolding name_at
returns c = rw (← c.split_at.ensures.back) c.zero_ended.ensures
