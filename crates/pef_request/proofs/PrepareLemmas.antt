-- How `prepare` parses words that don't begin with `-`: each adds one file, and 1 to 256 are accepted.
use Rattle.std.proofs.Common.{◌≡◌, true, false, List, [], ◌∷◌, Option, None, Some, codes, length, nat_le, arith, refl, ap, ap₂, ◌∙◌, inl, inr}
use Rattle.std.specs.Prelude.{fold}
use Rattle.std.proofs.lemmas.Bool.{leb-false, leb-true}
use Rattle.clap.proofs.OnLiterals.{clap_on_literals}
use Rattle.clap.specs.Faults.{check_fault, defaults_fault, settle_fault, turn_fault, walk_fault}
use Rattle.clap.specs.Kinds.{Kinds, or_else, range_kinds, values_kinds}
use Rattle.clap.specs.Simple.{Shape, filled, with_index}
use Rattle.clap.specs.Walk.{Rule, Text, Walk, finished, nothing_held, settled, walk, walk_from, walked}
use Rattle.clap.specs.declared.builder.value_parser.ValueParser.TheVariants.{String}
use Rattle.clap.specs.declared.error.kind.ErrorKind.{ErrorKind}
use Rattle.clap.specs.declared.error.kind.ErrorKind.TheVariants as kind
use Rattle.pef_request.specs.Arguments.{files_operand, flag, lettered, repeated, valued}
use Rattle.pef_request.specs.Prepare.{prepare_command}
use Rattle.pef_request.specs.CommandLine.{asked_at, pef}
use Rattle.pef_request.specs.Plain.{ArePlain, IsPlain, plain_prepare, plain_preparation}
use Rattle.pef_request.specs.Requests.{Asked, prepare}
use Rattle.pef_request.proofs.NameLemmas.{at_end, is_or_not, named, no_flag}
use Rattle.pef_request.proofs.OperandLemmas.{Takes, TakesSoundly, all_sound, all_taken, all_values, in_range, past_range, taken}

-- the built command `prepare`, its options and its operand
root_rule : Rule
root_rule = filled (valued (codes "root"))

library_rule : Rule
library_rule = filled (repeated (valued (codes "library")))

folder_rule : Rule
folder_rule = filled (repeated (lettered (codes "folder") 76))

no_stubs_rule : Rule
no_stubs_rule = filled (flag (codes "no-stubs"))

no_weak_rule : Rule
no_weak_rule = filled (flag (codes "no-weak"))

json_rule : Rule
json_rule = filled (flag (codes "json"))

bytes_rule : Rule
bytes_rule = filled (flag (codes "bytes"))

out_rule : Rule
out_rule = filled (lettered (codes "out") 111)

files_rule : Rule
files_rule = with_index 1 (filled (files_operand (codes "[NAME=]FILE")))

prepare_shape : Shape
prepare_shape = record prepare_command.top { rules = root_rule ∷ library_rule ∷ folder_rule ∷ no_stubs_rule ∷ no_weak_rule ∷ json_rule ∷ bytes_rule ∷ out_rule ∷ files_rule ∷ []; is_built = true; disable_help_flag = true; disable_help_subcommand = true }

first_taken : (word : Text) → IsPlain word → walked prepare_shape.rules [] (walk_from nothing_held) word ≡ taken (codes "[NAME=]FILE") (word ∷ [])
unfolding clap_on_literals root_rule library_rule folder_rule no_stubs_rule no_weak_rule json_rule bytes_rule out_rule files_rule prepare_shape taken
first_taken word plain =
    let a = no_flag word plain in
    rw (a.dashes, a.long, a.short) refl

first_sound : (word : Text) → IsPlain word → turn_fault prepare_shape [] (walk_from nothing_held) word ≡ []
unfolding clap_on_literals root_rule library_rule folder_rule no_stubs_rule no_weak_rule json_rule bytes_rule out_rule files_rule prepare_shape
first_sound word plain =
    let a = no_flag word plain in
    rw (a.dashes, a.long, a.short) refl

next_taken : Takes prepare_shape.rules (codes "[NAME=]FILE")
unfolding clap_on_literals root_rule library_rule folder_rule no_stubs_rule no_weak_rule json_rule bytes_rule out_rule files_rule prepare_shape taken
next_taken before word plain =
    let a = no_flag word plain in
    rw (a.dashes, a.long, a.short) refl

next_sound : TakesSoundly prepare_shape (codes "[NAME=]FILE")
unfolding clap_on_literals root_rule library_rule folder_rule no_stubs_rule no_weak_rule json_rule bytes_rule out_rule files_rule prepare_shape taken
next_sound before word plain =
    let a = no_flag word plain in
    rw (a.dashes, a.long, a.short) refl

-- the request of `prepare` at the end of the walk over its words, with the faults of the walk
prepare_end : Walk → Kinds → Option Asked
prepare_end w faults =
    let s = prepare_shape in
    asked_at
    (or_else (or_else faults (or_else (settle_fault s.rules s.args_override_self w.held) (or_else (defaults_fault (settled s.rules w.held).rows s.rules) (check_fault s (finished s.rules w.held) false)))) [])
    (Some (codes "prepare", finished s.rules w.held))

prepare_ends : (words : List Text) → at_end (named (codes "prepare") words) [] ≡ prepare_end (walk prepare_shape.rules [] nothing_held words) (walk_fault prepare_shape [] (walk_from nothing_held) words)
unfolding pef clap_on_literals named at_end prepare_end prepare_shape root_rule library_rule folder_rule no_stubs_rule no_weak_rule json_rule bytes_rule out_rule files_rule
prepare_ends words = refl

-- the request of `prepare`, by the faults of the number of its words and of the words
prepare_at : Kinds → Kinds → List Text → Option Asked
prepare_at range values words = asked_at (or_else (or_else (or_else range values) []) []) (Some (codes "prepare", finished prepare_shape.rules (taken (codes "[NAME=]FILE") words).held))

prepare_settles : (word : Text) (words : List Text) → prepare_end (taken (codes "[NAME=]FILE") (word ∷ words)) [] ≡ prepare_at (range_kinds 1 256 (length (word ∷ words))) (values_kinds false String (word ∷ words)) (word ∷ words)
unfolding prepare_end prepare_at clap_on_literals prepare_shape root_rule library_rule folder_rule no_stubs_rule no_weak_rule json_rule bytes_rule out_rule files_rule taken
prepare_settles word words = refl

prepare_within : (word : Text) (words : List Text) → prepare_at [] [] (word ∷ words) ≡ Some (prepare (plain_preparation (word ∷ words)))
unfolding prepare_at taken prepare_shape root_rule library_rule folder_rule no_stubs_rule no_weak_rule json_rule bytes_rule out_rule files_rule
prepare_within word words = refl

prepare_past : (k : ErrorKind) (words : List Text) → prepare_at (k ∷ []) [] words ≡ None
unfolding prepare_at
prepare_past k words = refl

prepare_counted : (word : Text) (words : List Text) → prepare_at (range_kinds 1 256 (length (word ∷ words))) [] (word ∷ words) ≡ plain_prepare (word ∷ words)
prepare_counted word words =
    let n = length (word ∷ words) in
    elim (is_or_not (nat_le n 256)) [
      | inl few ↦ rw few (ap (λ (range : Kinds). prepare_at range [] (word ∷ words)) (in_range 256 n (omega arith) (omega arith) (leb-true n 256 few)) ∙ prepare_within word words)
      | inr many ↦ rw many (ap (λ (range : Kinds). prepare_at range [] (word ∷ words)) (past_range 256 n (omega arith) (leb-false n 256 many)) ∙ prepare_past kind.TooManyValues (word ∷ words))
    ]

no_files : at_end (named (codes "prepare") []) [] ≡ None
unfolding pef clap_on_literals named at_end
no_files = refl

-- the operands of `prepare`
pub prepare_operands : (words : List Text) → ArePlain words → at_end (named (codes "prepare") words) [] ≡ plain_prepare words
unfolding walk_fault
prepare_operands [] plain = no_files
prepare_operands (word ∷ words) plain =
    let rules = prepare_shape.rules in
    let first = first_taken word plain.0 in
    let ended : walk rules [] nothing_held (word ∷ words) ≡ taken (codes "[NAME=]FILE") (word ∷ words) = ap (λ (w : Walk). fold (walked rules []) w words) first ∙ all_taken rules (codes "[NAME=]FILE") next_taken (word ∷ []) words plain.1 in
    let sound : walk_fault prepare_shape [] (walk_from nothing_held) (word ∷ words) ≡ [] =
    ap₂ or_else (first_sound word plain.0) (ap (λ (w : Walk). walk_fault prepare_shape [] w words) first ∙ all_sound prepare_shape (codes "[NAME=]FILE") next_taken next_sound (word ∷ []) words plain.1) in
    prepare_ends (word ∷ words) ∙ ap₂ prepare_end ended sound ∙ prepare_settles word words
    ∙ ap (λ (values : Kinds). prepare_at (range_kinds 1 256 (length (word ∷ words))) values (word ∷ words)) (all_values (word ∷ words)) ∙ prepare_counted word words
