-- The file of one section more, and then those of all.
use Rattle.std.proofs.Common.{◌∙◌, ◌+◌, ◌≤◌, ◌<◌, ◌∷◌, ◌++◌, List, ℕ, ap, arith, drop, length, map, sym}
use Rattle.std.proofs.lemmas.List.{append-nil, at_drop_all}
use Rattle.cfm_prepare.specs.Fragments.{places_of}
use Rattle.cfm_files.specs.Paths.{section_path}
use Rattle.cfm_files.specs.Sections.{file_seen, files_from, fragment_name}
use Rattle.cfm_files.specs.Writing.{FileIs}
use Rattle.cfm_files.specs.declared.sections.SectionFile.{SectionFile}
use Rattle.cfm_files.proofs.SectionLemmas.{added, files-more}
use Rattle.cfm_files.proofs.sections.add_files.Goals as goal

pub loop-i-preserved : goal.loop-i-preserved
loop-i-preserved c =
    let at = c.loop-i in
    let s = c.args.context.now in
    let folder = c.args.folder.now in
    let fragment = fragment_name s c.args.position in
    let places = places_of s.present c.args.position in
    let files = map file_seen at.files.items in
    let x : ℕ × List ℕ = (c.in-Some.field-0-0, c.in-Some.bytes.now) in
    let under : at.i < length places = omega (arith, c.loop-i-test.true, c.section_count-i-end.ensures) in
    let rest = files_from s.memory folder fragment (at.i + 1) (drop (at.i + 1) places) in
    let path = c.in_ok-path.ensures ∙ ap (λ (name : List ℕ). section_path folder name at.i) c.name_of-name.ensures in
    ap (λ (more : List SectionFile). map file_seen more ++ rest) c.in_ok-push.ensures.items
    ∙ added file_seen at.files.items _ rest
    ∙ ap (λ (first : List ℕ). files ++ record { path = first; bytes = x.1 } ∷ rest) path
    ∙ ap (λ (more : List FileIs). files ++ more) (sym (files-more s.memory folder fragment places at.i x under c.in-Some.ensures.section))
    ∙ at.invariant

pub returns : goal.returns
returns c =
    let at = c.loop-i in
    let s = c.args.context.now in
    let fragment = fragment_name s c.args.position in
    let places = places_of s.present c.args.position in
    let files = map file_seen at.files.items in
    let past : length places ≤ at.i = omega (arith, c.loop-i-test.false, c.section_count-i-end.ensures) in
    sym (append-nil files) ∙ ap (λ (more : List FileIs). files ++ more) (sym (at_drop_all (files_from s.memory c.args.folder.now fragment at.i) places at.i past)) ∙ at.invariant
