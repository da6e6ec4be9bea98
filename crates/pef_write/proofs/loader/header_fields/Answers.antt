-- The counts and the places are those of the tables.
use Rattle.std.proofs.Common.{◌≡◌, ◌∙◌, length, map, refl, sym, ap}
use Rattle.std.proofs.lemmas.List.{length-map}
use Rattle.pef_hash.specs.Build.{built}
use Rattle.pef_script.specs.Script.{export_names}
use Rattle.pef_write.specs.Linked.{exports_at, libraries_from, script_tables}
use Rattle.pef_write.specs.Loaders.{entry_offset, entry_section, header_fields}
use Rattle.pef_write.specs.Kept.Views.{program_entry}
use Rattle.pef_write.proofs.Fitting.{length-exports, length-libraries}
use Rattle.pef_write.proofs.loader.header_fields.Goals as goal

pub returns : goal.returns
unfolding header_fields script_tables
returns c =
    let s = c.args.script.now in
    let main = c.entry_numbers-main.ensures ∙ ap (λ e. (entry_section e, entry_offset e)) c.main.ensures in
    let init = c.entry_numbers-init.ensures ∙ ap (λ e. (entry_section e, entry_offset e)) c.init.ensures in
    let term = c.entry_numbers-term.ensures ∙ ap (λ e. (entry_section e, entry_offset e)) c.term.ensures in
    let libraries : c.libraries.result ≡ length (libraries_from s.imports 0 s.libraries) = c.libraries.ensures.count ∙ sym (length-libraries s.imports 0 s.libraries) in
    let imports : c.imports.result ≡ length s.imports = c.imports.ensures.count in
    let programs : length c.args.pieces.programs.now ≡ length (map program_entry c.args.pieces.programs.now) = sym (length-map c.args.pieces.programs.now program_entry) in
    let exports : c.exports.result ≡ length (exports_at s.exports (built (export_names s)).order) = c.exports.ensures.count ∙ sym (length-exports s) in
    rw (ap (λ p. p.0) main, ap (λ p. p.1) main, ap (λ p. p.0) init, ap (λ p. p.1) init, ap (λ p. p.0) term, ap (λ p. p.1) term, libraries, imports, exports, programs, c.requires.places.programs, c.requires.places.strings, c.requires.places.exports, c.requires.pieces.power) refl
