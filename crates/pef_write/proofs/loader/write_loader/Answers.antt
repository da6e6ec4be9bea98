-- There is room for the parts, and they make the pieces.
use Rattle.std.proofs.Common.{◌∙◌, ◌++◌, length, map, refl, ap, arith}
use Rattle.pef_hash.specs.Build.{BuiltTable}
use Rattle.pef_write.specs.Linked.{script_tables}
use Rattle.pef_write.specs.Kept.Pieces.{names_in_order}
use Rattle.pef_write.specs.Kept.Views.{program_entry}
use Rattle.pef_write.proofs.GatherLemmas.{programs_room, strings_are, strings_room}
use Rattle.pef_write.proofs.loader.write_loader.Goals as goal

pub put_entries-requires-clause-first : goal.put_entries-requires-clause-first
put_entries-requires-clause-first c = (c.new-entries.ensures.items, c.new-strings.ensures.items)

pub put_entries-requires-clause-fits : goal.put_entries-requires-clause-fits
put_entries-requires-clause-fits c = programs_room c.args.script.now (map program_entry c.args.programs.now) c.requires.fits

pub put_entries-requires-clause-names : goal.put_entries-requires-clause-names
put_entries-requires-clause-names c = omega (arith, strings_room c.args.script.now (map program_entry c.args.programs.now) c.requires.strings)

pub put_table-requires-clause-room : goal.put_table-requires-clause-room
put_table-requires-clause-room c =
    omega (arith, ap length c.in_ok-put_entries.ensures.names, strings_room c.args.script.now (map program_entry c.args.programs.now) c.requires.strings)

pub join-requires-clause-pieces : goal.join-requires-clause-pieces
unfolding script_tables
join-requires-clause-pieces c =
    let s = c.args.script.now in
    let programs = map program_entry c.args.programs.now in
    record {
      entries = c.deref.ensures.value ∙ c.in_ok-put_entries.ensures.entries;
      programs = refl;
      strings = c.deref-2.ensures.value ∙ c.in_ok-put_table.ensures.names ∙ ap (λ z. z ++ names_in_order s) c.in_ok-put_entries.ensures.names ∙ strings_are s programs;
      power = ap (λ (t : BuiltTable). t.power) (c.hash.view_is ∙ c.in_ok-hash.ensures);
      table = c.deref-3.ensures.value ∙ c.in_ok-put_table.ensures.table programs;
    }
