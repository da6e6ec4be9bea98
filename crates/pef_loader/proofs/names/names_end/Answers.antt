-- The backward search finds the last zero byte, or none.
use Rattle.std.proofs.Common.{eq-eqb, arith}
use Rattle.std.proofs.lemmas.Bool.{eqb-true}
use Rattle.pef_loader.proofs.NameEnds.{names_to_last, no_names}
use Rattle.pef_loader.proofs.names.names_end.Goals as goal

pub returns-in-Some : goal.returns-in-Some
returns-in-Some c =
    let found = c.in-Some.ensures in
    rw (← c.bytes.ensures) (names_to_last c.bytes.result.now c.in-Some.last found.0.high (eqb-true _ 0 found.1) (λ k low high is. found.0.after k (omega arith) high (eq-eqb _ 0 is)))

pub returns-in-None : goal.returns-in-None
returns-in-None c =
    rw (← c.bytes.ensures) (no_names c.bytes.result.now (λ k under is. c.in-None.ensures k (omega arith) under (eq-eqb _ 0 is)))
