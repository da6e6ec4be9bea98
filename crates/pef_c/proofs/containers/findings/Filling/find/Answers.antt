-- What was taken begins with what is kept.
use Rattle.pef_inspect.specs.Errors.{errors_of}
use Rattle.pef_inspect.specs.Oddities.{notes_of}
use Rattle.pef_c.specs.Containers.Fillings.{start_of}
use Rattle.pef_c.specs.Containers.Told.{told_items}
use Rattle.pef_c.proofs.ContainerProofs.KeptLemmas.{took_more}
use Rattle.pef_c.proofs.containers.findings.Filling.find.Goals as goal

pub returns-clause-same_reference : goal.returns-clause-same_reference
returns-clause-same_reference c =
    let old = c.args.self.now in
    let new = c.find_notes.new.sink in
    let notes = c.in-Ok-find_notes.ensures in
    (took_more old.places.ghost_name new.places.ghost_name old.from new.from (start_of old) (start_of new) (told_items old.taken) (told_items new.taken) _
    (errors_of c.args.bytes.now) (notes_of c.args.bytes.now notes.answer) c.in-Ok.ensures notes.taken).name_is

pub returns-clause-from : goal.returns-clause-from
returns-clause-from c =
    let old = c.args.self.now in
    let new = c.find_notes.new.sink in
    let notes = c.in-Ok-find_notes.ensures in
    (took_more old.places.ghost_name new.places.ghost_name old.from new.from (start_of old) (start_of new) (told_items old.taken) (told_items new.taken) _
    (errors_of c.args.bytes.now) (notes_of c.args.bytes.now notes.answer) c.in-Ok.ensures notes.taken).from_is

pub returns-clause-start : goal.returns-clause-start
returns-clause-start c =
    let old = c.args.self.now in
    let new = c.find_notes.new.sink in
    let notes = c.in-Ok-find_notes.ensures in
    (took_more old.places.ghost_name new.places.ghost_name old.from new.from (start_of old) (start_of new) (told_items old.taken) (told_items new.taken) _
    (errors_of c.args.bytes.now) (notes_of c.args.bytes.now notes.answer) c.in-Ok.ensures notes.taken).old_is

pub returns-clause-found : goal.returns-clause-found
returns-clause-found c =
    let old = c.args.self.now in
    let new = c.find_notes.new.sink in
    let notes = c.in-Ok-find_notes.ensures in
    let more = took_more old.places.ghost_name new.places.ghost_name old.from new.from (start_of old) (start_of new) (told_items old.taken) (told_items new.taken) _
    (errors_of c.args.bytes.now) (notes_of c.args.bytes.now notes.answer) c.in-Ok.ensures notes.taken in
    record { answer = notes.answer; exact = notes.exact; taken = more.items_are }
