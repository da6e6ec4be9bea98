-- How `load` parses words that don't begin with `-`: each adds one file, and 1 to 256 are accepted.
use Rattle.std.proofs.Common.{◌≡◌, true, false, List, [], ◌∷◌, Option, None, Some, codes, length, nat_le, option_map, arith, refl, ap, ap₂, ◌∙◌, inl, inr}
use Rattle.std.specs.Prelude.{fold}
use Rattle.std.proofs.lemmas.Bool.{leb-false, leb-true}
use Rattle.clap.proofs.OnLiterals.{clap_on_literals}
use Rattle.clap.specs.Faults.{check_fault, defaults_fault, settle_fault, turn_fault, walk_fault}
use Rattle.clap.specs.Kinds.{Kinds, or_else, range_kinds, values_kinds}
use Rattle.clap.specs.Simple.{Shape, filled, with_index}
use Rattle.clap.specs.Walk.{Rule, Text, Walk, finished, nothing_held, settled, walk, walk_from, walked}
use Rattle.clap.specs.declared.builder.value_parser.ValueParser.TheVariants.{String}
use Rattle.clap.specs.declared.error.kind.ErrorKind.{ErrorKind}
use Rattle.clap.specs.declared.error.kind.ErrorKind.TheVariants as kind
use Rattle.pef_request.specs.Arguments.{files_operand}
use Rattle.pef_request.specs.CommandLine.{asked_at, load_command, pef}
use Rattle.pef_request.specs.Plain.{ArePlain, IsPlain, plain_load}
use Rattle.pef_request.specs.Files.{named_files}
use Rattle.pef_request.proofs.NameLemmas.{at_end, is_or_not, named, no_flag}
use Rattle.pef_request.proofs.OperandLemmas.{Takes, TakesSoundly, all_sound, all_taken, all_values, in_range, past_range, taken}
use Rattle.pef_request.specs.Requests.{Asked, load}

-- the built command `load` and its operand
files_rule : Rule
files_rule = with_index 1 (filled (files_operand (codes "NAME=FILE")))

load_shape : Shape
load_shape = record load_command.top { rules = files_rule ∷ []; is_built = true; disable_help_flag = true; disable_help_subcommand = true }

first_taken : (word : Text) → IsPlain word → walked load_shape.rules [] (walk_from nothing_held) word ≡ taken (codes "NAME=FILE") (word ∷ [])
unfolding clap_on_literals files_rule load_shape taken
first_taken word plain =
    let a = no_flag word plain in
    rw (a.dashes, a.long, a.short) refl

first_sound : (word : Text) → IsPlain word → turn_fault load_shape [] (walk_from nothing_held) word ≡ []
unfolding clap_on_literals files_rule load_shape
first_sound word plain =
    let a = no_flag word plain in
    rw (a.dashes, a.long, a.short) refl

next_taken : Takes load_shape.rules (codes "NAME=FILE")
unfolding clap_on_literals files_rule load_shape taken
next_taken before word plain =
    let a = no_flag word plain in
    rw (a.dashes, a.long, a.short) refl

next_sound : TakesSoundly load_shape (codes "NAME=FILE")
unfolding clap_on_literals files_rule load_shape taken
next_sound before word plain =
    let a = no_flag word plain in
    rw (a.dashes, a.long, a.short) refl

-- the request of `load` at the end of the walk over its words, with the faults of the walk
load_end : Walk → Kinds → Option Asked
load_end w faults =
    let s = load_shape in
    asked_at
    (or_else (or_else faults (or_else (settle_fault s.rules s.args_override_self w.held) (or_else (defaults_fault (settled s.rules w.held).rows s.rules) (check_fault s (finished s.rules w.held) false)))) [])
    (Some (codes "load", finished s.rules w.held))

load_ends : (words : List Text) → at_end (named (codes "load") words) [] ≡ load_end (walk load_shape.rules [] nothing_held words) (walk_fault load_shape [] (walk_from nothing_held) words)
unfolding pef clap_on_literals named at_end load_end load_shape files_rule
load_ends words = refl

-- the request of `load`, by the faults of the number of its words and of the words
load_at : Kinds → Kinds → List Text → Option Asked
load_at range values words = asked_at (or_else (or_else (or_else range values) []) []) (Some (codes "load", finished load_shape.rules (taken (codes "NAME=FILE") words).held))

load_settles : (word : Text) (words : List Text) → load_end (taken (codes "NAME=FILE") (word ∷ words)) [] ≡ load_at (range_kinds 1 256 (length (word ∷ words))) (values_kinds false String (word ∷ words)) (word ∷ words)
unfolding load_end load_at clap_on_literals load_shape files_rule taken
load_settles word words = refl

load_within : (word : Text) (words : List Text) → load_at [] [] (word ∷ words) ≡ option_map load (named_files (word ∷ words))
unfolding load_at taken load_shape files_rule
load_within word words = refl

load_past : (k : ErrorKind) (words : List Text) → load_at (k ∷ []) [] words ≡ None
unfolding load_at
load_past k words = refl

load_counted : (word : Text) (words : List Text) → load_at (range_kinds 1 256 (length (word ∷ words))) [] (word ∷ words) ≡ plain_load (word ∷ words)
load_counted word words =
    let n = length (word ∷ words) in
    elim (is_or_not (nat_le n 256)) [
      | inl few ↦ rw few (ap (λ (range : Kinds). load_at range [] (word ∷ words)) (in_range 256 n (omega arith) (omega arith) (leb-true n 256 few)) ∙ load_within word words)
      | inr many ↦ rw many (ap (λ (range : Kinds). load_at range [] (word ∷ words)) (past_range 256 n (omega arith) (leb-false n 256 many)) ∙ load_past kind.TooManyValues (word ∷ words))
    ]

no_files : at_end (named (codes "load") []) [] ≡ None
unfolding pef clap_on_literals named at_end
no_files = refl

-- the operands of `load`
pub load_operands : (words : List Text) → ArePlain words → at_end (named (codes "load") words) [] ≡ plain_load words
unfolding walk_fault
load_operands [] plain = no_files
load_operands (word ∷ words) plain =
    let rules = load_shape.rules in
    let first = first_taken word plain.0 in
    let ended : walk rules [] nothing_held (word ∷ words) ≡ taken (codes "NAME=FILE") (word ∷ words) = ap (λ (w : Walk). fold (walked rules []) w words) first ∙ all_taken rules (codes "NAME=FILE") next_taken (word ∷ []) words plain.1 in
    let sound : walk_fault load_shape [] (walk_from nothing_held) (word ∷ words) ≡ [] =
    ap₂ or_else (first_sound word plain.0) (ap (λ (w : Walk). walk_fault load_shape [] w words) first ∙ all_sound load_shape (codes "NAME=FILE") next_taken next_sound (word ∷ []) words plain.1) in
    load_ends (word ∷ words) ∙ ap₂ load_end ended sound ∙ load_settles word words
    ∙ ap (λ (values : Kinds). load_at (range_kinds 1 256 (length (word ∷ words))) values (word ∷ words)) (all_values (word ∷ words)) ∙ load_counted word words
