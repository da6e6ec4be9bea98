-- Words that don't begin with `-` are parsed as expected.
use Rattle.std.proofs.Common.{◌≡◌, false, List, [], ◌∷◌, None, codes, drop, refl, ◌∙◌, inl, inr}
use Rattle.std.specs.Str.{bytes_eq}
use Rattle.std.proofs.lemmas.Bool.{ne_eqb}
use Rattle.clap.proofs.OnLiterals.{clap_on_literals}
use Rattle.clap.specs.Walk.{Text}
use Rattle.pef_request.specs.CommandLine.{asked_by, asks_version, pef, request_by}
use Rattle.pef_request.specs.Plain.{ArePlain, plain_check, plain_distances, plain_extract, plain_link, plain_list, plain_show, plain_words}
use Rattle.pef_request.proofs.InspectLemmas.{inspect_operands}
use Rattle.pef_request.proofs.LoadLemmas.{load_operands}
use Rattle.pef_request.proofs.PrepareLemmas.{prepare_operands}
use Rattle.pef_request.proofs.StubsLemmas.{stubs_operands}
use Rattle.pef_request.proofs.NameLemmas.{IsNoFlag, at_end, command_named, is_or_not, named, no_flag}

-- the operands of `show`
show_operands : (words : List Text) → ArePlain words → at_end (named (codes "show") words) [] ≡ plain_show words
unfolding pef clap_on_literals named at_end
show_operands [] plain = refl
show_operands (word ∷ words) plain =
    let free = no_flag word plain.0 in
    rw (free.dashes, free.long, free.short) refl

-- the operands of `link`
link_operands : (words : List Text) → ArePlain words → at_end (named (codes "link") words) [] ≡ plain_link words
unfolding pef clap_on_literals named at_end
link_operands [] plain = refl
link_operands (script ∷ []) plain =
    let a = no_flag script plain.0 in
    rw (a.dashes, a.long, a.short) refl
link_operands (script ∷ out ∷ []) plain =
    let a = no_flag script plain.0 in
    let b = no_flag out plain.1.0 in
    rw (a.dashes, a.long, a.short, b.dashes, b.long, b.short) refl
link_operands (script ∷ out ∷ word ∷ words) plain =
    let a = no_flag script plain.0 in
    let b = no_flag out plain.1.0 in
    let c = no_flag word plain.1.1.0 in
    rw (a.dashes, a.long, a.short, b.dashes, b.long, b.short, c.dashes, c.long, c.short) refl

-- the operand of `list`
list_operands : (words : List Text) → ArePlain words → at_end (named (codes "list") words) [] ≡ plain_list words
unfolding pef clap_on_literals named at_end
list_operands [] plain = refl
list_operands (file ∷ []) plain =
    let a = no_flag file plain.0 in
    rw (a.dashes, a.long, a.short) refl
list_operands (file ∷ word ∷ words) plain =
    let a = no_flag file plain.0 in
    let b = no_flag word plain.1.0 in
    rw (a.dashes, a.long, a.short, b.dashes, b.long, b.short) refl

-- the operands of `check`
check_operands : (words : List Text) → ArePlain words → at_end (named (codes "check") words) [] ≡ plain_check words
unfolding pef clap_on_literals named at_end
check_operands [] plain = refl
check_operands (script ∷ []) plain =
    let a = no_flag script plain.0 in
    rw (a.dashes, a.long, a.short) refl
check_operands (script ∷ cert ∷ []) plain =
    let a = no_flag script plain.0 in
    let b = no_flag cert plain.1.0 in
    rw (a.dashes, a.long, a.short, b.dashes, b.long, b.short) refl
check_operands (script ∷ cert ∷ word ∷ words) plain =
    let a = no_flag script plain.0 in
    let b = no_flag cert plain.1.0 in
    let c = no_flag word plain.1.1.0 in
    rw (a.dashes, a.long, a.short, b.dashes, b.long, b.short, c.dashes, c.long, c.short) refl

-- the operand of `distances`
distances_operands : (words : List Text) → ArePlain words → at_end (named (codes "distances") words) [] ≡ plain_distances words
unfolding pef clap_on_literals named at_end
distances_operands [] plain = refl
distances_operands (script ∷ []) plain =
    let a = no_flag script plain.0 in
    rw (a.dashes, a.long, a.short) refl
distances_operands (script ∷ word ∷ words) plain =
    let a = no_flag script plain.0 in
    let b = no_flag word plain.1.0 in
    rw (a.dashes, a.long, a.short, b.dashes, b.long, b.short) refl

-- the operands of `extract`
extract_operands : (words : List Text) → ArePlain words → at_end (named (codes "extract") words) [] ≡ plain_extract words
unfolding pef clap_on_literals named at_end
extract_operands [] plain = refl
extract_operands (file ∷ []) plain =
    let a = no_flag file plain.0 in
    rw (a.dashes, a.long, a.short) refl
extract_operands (file ∷ name ∷ []) plain =
    let a = no_flag file plain.0 in
    let b = no_flag name plain.1.0 in
    rw (a.dashes, a.long, a.short, b.dashes, b.long, b.short) refl
extract_operands (file ∷ name ∷ out ∷ []) plain =
    let a = no_flag file plain.0 in
    let b = no_flag name plain.1.0 in
    let c = no_flag out plain.1.1.0 in
    rw (a.dashes, a.long, a.short, b.dashes, b.long, b.short, c.dashes, c.long, c.short) refl
extract_operands (file ∷ name ∷ out ∷ word ∷ words) plain =
    let a = no_flag file plain.0 in
    let b = no_flag name plain.1.0 in
    let c = no_flag out plain.1.1.0 in
    let d = no_flag word plain.1.1.1.0 in
    rw (a.dashes, a.long, a.short, b.dashes, b.long, b.short, c.dashes, c.long, c.short, d.dashes, d.long, d.short) refl

none_asked : asked_by [] ≡ None
unfolding asked_by pef clap_on_literals
none_asked = refl

program_asked : (program : Text) → asked_by (program ∷ []) ≡ None
unfolding asked_by pef clap_on_literals
program_asked program = refl

unknown_asked : (program name : Text) (words : List Text) → bytes_eq (codes "show") name ≡ false → bytes_eq (codes "link") name ≡ false → bytes_eq (codes "list") name ≡ false → bytes_eq (codes "check") name ≡ false → bytes_eq (codes "load") name ≡ false → bytes_eq (codes "distances") name ≡ false → bytes_eq (codes "extract") name ≡ false → bytes_eq (codes "inspect") name ≡ false → bytes_eq (codes "prepare") name ≡ false → bytes_eq (codes "stubs") name ≡ false → IsNoFlag name → asked_by (program ∷ name ∷ words) ≡ None
unfolding asked_by pef clap_on_literals
unknown_asked program name words a b c d e f g h i j free = rw (a, b, c, d, e, f, g, h, i, j, free.dashes, free.long, free.short) refl

-- words of a command that don't begin with `-` make the request that they spell
asked_plain : (words : List Text) → ArePlain (drop 1 words) → asked_by words ≡ plain_words words
unfolding pef
asked_plain [] plain = none_asked
asked_plain (program ∷ []) plain = program_asked program
asked_plain (program ∷ name ∷ words) plain = elim (is_or_not (bytes_eq (codes "show") name)) [
  | inl a ↦ rw a (command_named program name (codes "show") words (rw a refl) refl ∙ show_operands words plain.1)
  | inr a ↦ elim (is_or_not (bytes_eq (codes "link") name)) [
    | inl b ↦ rw (a, b) (command_named program name (codes "link") words (rw (a, b) refl) refl ∙ link_operands words plain.1)
    | inr b ↦ elim (is_or_not (bytes_eq (codes "list") name)) [
      | inl c ↦ rw (a, b, c) (command_named program name (codes "list") words (rw (a, b, c) refl) refl ∙ list_operands words plain.1)
      | inr c ↦ elim (is_or_not (bytes_eq (codes "check") name)) [
        | inl d ↦ rw (a, b, c, d) (command_named program name (codes "check") words (rw (a, b, c, d) refl) refl ∙ check_operands words plain.1)
        | inr d ↦ elim (is_or_not (bytes_eq (codes "load") name)) [
          | inl e ↦ rw (a, b, c, d, e) (command_named program name (codes "load") words (rw (a, b, c, d, e) refl) refl ∙ load_operands words plain.1)
          | inr e ↦ elim (is_or_not (bytes_eq (codes "distances") name)) [
            | inl f ↦ rw (a, b, c, d, e, f) (command_named program name (codes "distances") words (rw (a, b, c, d, e, f) refl) refl ∙ distances_operands words plain.1)
            | inr f ↦ elim (is_or_not (bytes_eq (codes "extract") name)) [
              | inl g ↦ rw (a, b, c, d, e, f, g) (command_named program name (codes "extract") words (rw (a, b, c, d, e, f, g) refl) refl ∙ extract_operands words plain.1)
              | inr g ↦ elim (is_or_not (bytes_eq (codes "inspect") name)) [
                | inl h ↦ rw (a, b, c, d, e, f, g, h) (command_named program name (codes "inspect") words (rw (a, b, c, d, e, f, g, h) refl) refl ∙ inspect_operands words plain.1)
                | inr h ↦ elim (is_or_not (bytes_eq (codes "prepare") name)) [
                  | inl i ↦ rw (a, b, c, d, e, f, g, h, i) (command_named program name (codes "prepare") words (rw (a, b, c, d, e, f, g, h, i) refl) refl ∙ prepare_operands words plain.1)
                  | inr i ↦ elim (is_or_not (bytes_eq (codes "stubs") name)) [
                    | inl j ↦ rw (a, b, c, d, e, f, g, h, i, j) (command_named program name (codes "stubs") words (rw (a, b, c, d, e, f, g, h, i, j) refl) refl ∙ stubs_operands words plain.1)
                    | inr j ↦ rw (a, b, c, d, e, f, g, h, i, j) (unknown_asked program name words a b c d e f g h i j (no_flag name plain.0))
                  ]
                ]
              ]
            ]
          ]
        ]
      ]
    ]
  ]
]

-- such words don't ask for the version
no_version : (words : List Text) → ArePlain (drop 1 words) → asks_version words ≡ false
unfolding asks_version
no_version [] plain = refl
no_version (program ∷ []) plain = refl
no_version (program ∷ [] ∷ []) plain = refl
no_version (program ∷ (b ∷ word) ∷ []) plain = rw (ne_eqb b 45 plain.0) refl
no_version (program ∷ word ∷ next ∷ words) plain = refl

-- words that don't begin with `-` make the request that they spell
pub request_plain : (words : List Text) → ArePlain (drop 1 words) → request_by words ≡ plain_words words
request_plain words plain = rw (no_version words plain) (asked_plain words plain)
