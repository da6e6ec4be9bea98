-- What was taken begins with what is kept.
use Rattle.std.proofs.Common.{◌≡◌, arith, take}
use Rattle.std.proofs.lemmas.List.{take_all}
use Rattle.pef_c.specs.Containers.Fillings.{start_of}
use Rattle.pef_c.specs.Containers.Told.{told_items}
use Rattle.pef_c.proofs.ContainerProofs.KeptLemmas.{took}
use Rattle.pef_c.proofs.containers.findings.Filling.take_each.Goals as goal

pub returns-clause-same_reference : goal.returns-clause-same_reference
returns-clause-same_reference c =
    let old = c.args.self.now in
    let new = c.loop-finding.self in
    let last = c.loop-finding-test.false in
    let all : take c.loop-finding.finding-index c.args.found.now ≡ c.args.found.now = take_all c.loop-finding.finding-index c.args.found.now (omega (arith, last)) in
    (took old.places.ghost_name new.places.ghost_name old.from new.from (start_of old) (start_of new) (told_items old.taken) (told_items new.taken) c.args.found.now
    (rw all at c.loop-finding.invariant)).name_is

pub returns-clause-from : goal.returns-clause-from
returns-clause-from c =
    let old = c.args.self.now in
    let new = c.loop-finding.self in
    let last = c.loop-finding-test.false in
    let all : take c.loop-finding.finding-index c.args.found.now ≡ c.args.found.now = take_all c.loop-finding.finding-index c.args.found.now (omega (arith, last)) in
    (took old.places.ghost_name new.places.ghost_name old.from new.from (start_of old) (start_of new) (told_items old.taken) (told_items new.taken) c.args.found.now
    (rw all at c.loop-finding.invariant)).from_is

pub returns-clause-start : goal.returns-clause-start
returns-clause-start c =
    let old = c.args.self.now in
    let new = c.loop-finding.self in
    let last = c.loop-finding-test.false in
    let all : take c.loop-finding.finding-index c.args.found.now ≡ c.args.found.now = take_all c.loop-finding.finding-index c.args.found.now (omega (arith, last)) in
    (took old.places.ghost_name new.places.ghost_name old.from new.from (start_of old) (start_of new) (told_items old.taken) (told_items new.taken) c.args.found.now
    (rw all at c.loop-finding.invariant)).old_is

pub returns-clause-found : goal.returns-clause-found
returns-clause-found c =
    let old = c.args.self.now in
    let new = c.loop-finding.self in
    let last = c.loop-finding-test.false in
    let all : take c.loop-finding.finding-index c.args.found.now ≡ c.args.found.now = take_all c.loop-finding.finding-index c.args.found.now (omega (arith, last)) in
    (took old.places.ghost_name new.places.ghost_name old.from new.from (start_of old) (start_of new) (told_items old.taken) (told_items new.taken) c.args.found.now
    (rw all at c.loop-finding.invariant)).items_are
