-- A name lies among the bytes of the container.
use Rattle.std.proofs.Common.{arith, sym}
use Rattle.pef_views.proofs.ExtentLemmas.{name_room}
use Rattle.pef_views.proofs.container.Container.names_end.Goals as goal

pub overflow_add-result : goal.overflow_add-result
overflow_add-result c =
    let inside = name_room _ _ _ (sym c.in-Some.ensures) in
    let len = c.len-len.ensures in
    omega (arith, inside, len)

pub overflow_add-result-in-Some : goal.overflow_add-result-in-Some
overflow_add-result-in-Some c =
    let inside = name_room _ _ _ (sym c.in-Some.ensures) in
    let len = c.len-len.ensures in
    omega (arith, inside, len)
