-- How `inspect` parses words that don't begin with `-`: each adds one file, and 1 to 65,536 are accepted.
use Rattle.std.proofs.Common.{◌≡◌, true, false, List, [], ◌∷◌, Option, None, Some, codes, length, nat_le, arith, refl, ap, ap₂, ◌∙◌, inl, inr}
use Rattle.std.specs.Prelude.{fold}
use Rattle.std.proofs.lemmas.Bool.{leb-false, leb-true}
use Rattle.clap.proofs.OnLiterals.{clap_on_literals}
use Rattle.clap.specs.Faults.{check_fault, defaults_fault, settle_fault, turn_fault, walk_fault}
use Rattle.clap.specs.Kinds.{Kinds, or_else, range_kinds, values_kinds}
use Rattle.clap.specs.Simple.{Shape, filled, with_index}
use Rattle.clap.specs.Walk.{Rule, Text, Walk, finished, nothing_held, settled, walk, walk_from, walked}
use Rattle.clap.specs.declared.builder.value_parser.ValueParser.TheVariants.{String}
use Rattle.clap.specs.declared.error.kind.ErrorKind.{ErrorKind}
use Rattle.clap.specs.declared.error.kind.ErrorKind.TheVariants as kind
use Rattle.pef_request.specs.Arguments.{flag, valued}
use Rattle.pef_request.specs.CommandLine.{asked_at, inspect_command, inspected_operand, pef}
use Rattle.pef_request.specs.Plain.{ArePlain, IsPlain, plain_inspect}
use Rattle.pef_request.proofs.NameLemmas.{at_end, is_or_not, named, no_flag}
use Rattle.pef_request.proofs.OperandLemmas.{Takes, TakesSoundly, all_sound, all_taken, all_values, in_range, past_range, taken}
use Rattle.pef_request.specs.Requests.{Asked, inspect}

-- the built command `inspect`, its options and its operand
json_rule : Rule
json_rule = filled (flag (codes "json"))

listed_rule : Rule
listed_rule = filled (flag (codes "files0"))

resources_rule : Rule
resources_rule = filled (valued (codes "resources"))

files_rule : Rule
files_rule = with_index 1 (filled inspected_operand)

inspect_shape : Shape
inspect_shape = record inspect_command.top { rules = json_rule ∷ listed_rule ∷ resources_rule ∷ files_rule ∷ []; is_built = true; disable_help_flag = true; disable_help_subcommand = true }

first_taken : (word : Text) → IsPlain word → walked inspect_shape.rules [] (walk_from nothing_held) word ≡ taken (codes "FILE") (word ∷ [])
unfolding clap_on_literals json_rule listed_rule resources_rule files_rule inspect_shape taken
first_taken word plain =
    let a = no_flag word plain in
    rw (a.dashes, a.long, a.short) refl

first_sound : (word : Text) → IsPlain word → turn_fault inspect_shape [] (walk_from nothing_held) word ≡ []
unfolding clap_on_literals json_rule listed_rule resources_rule files_rule inspect_shape
first_sound word plain =
    let a = no_flag word plain in
    rw (a.dashes, a.long, a.short) refl

next_taken : Takes inspect_shape.rules (codes "FILE")
unfolding clap_on_literals json_rule listed_rule resources_rule files_rule inspect_shape taken
next_taken before word plain =
    let a = no_flag word plain in
    rw (a.dashes, a.long, a.short) refl

next_sound : TakesSoundly inspect_shape (codes "FILE")
unfolding clap_on_literals json_rule listed_rule resources_rule files_rule inspect_shape taken
next_sound before word plain =
    let a = no_flag word plain in
    rw (a.dashes, a.long, a.short) refl

-- the request of `inspect` at the end of the walk over its words, with the faults of the walk
inspect_end : Walk → Kinds → Option Asked
inspect_end w faults =
    let s = inspect_shape in
    asked_at
    (or_else (or_else faults (or_else (settle_fault s.rules s.args_override_self w.held) (or_else (defaults_fault (settled s.rules w.held).rows s.rules) (check_fault s (finished s.rules w.held) false)))) [])
    (Some (codes "inspect", finished s.rules w.held))

inspect_ends : (words : List Text) → at_end (named (codes "inspect") words) [] ≡ inspect_end (walk inspect_shape.rules [] nothing_held words) (walk_fault inspect_shape [] (walk_from nothing_held) words)
unfolding pef clap_on_literals named at_end inspect_end inspect_shape json_rule listed_rule resources_rule files_rule
inspect_ends words = refl

-- the request of `inspect`, by the faults of the number of its words and of the words
inspect_at : Kinds → Kinds → List Text → Option Asked
inspect_at range values words = asked_at (or_else (or_else (or_else range values) []) []) (Some (codes "inspect", finished inspect_shape.rules (taken (codes "FILE") words).held))

inspect_settles : (word : Text) (words : List Text) → inspect_end (taken (codes "FILE") (word ∷ words)) [] ≡ inspect_at (range_kinds 1 65536 (length (word ∷ words))) (values_kinds false String (word ∷ words)) (word ∷ words)
unfolding inspect_end inspect_at clap_on_literals inspect_shape json_rule listed_rule resources_rule files_rule taken
inspect_settles word words = refl

inspect_within : (word : Text) (words : List Text) → inspect_at [] [] (word ∷ words) ≡ Some (inspect false (word ∷ words))
unfolding inspect_at taken inspect_shape json_rule listed_rule resources_rule files_rule
inspect_within word words = refl

inspect_past : (k : ErrorKind) (words : List Text) → inspect_at (k ∷ []) [] words ≡ None
unfolding inspect_at
inspect_past k words = refl

inspect_counted : (word : Text) (words : List Text) → inspect_at (range_kinds 1 65536 (length (word ∷ words))) [] (word ∷ words) ≡ plain_inspect (word ∷ words)
inspect_counted word words =
    let n = length (word ∷ words) in
    elim (is_or_not (nat_le n 65536)) [
      | inl few ↦ rw few (ap (λ (range : Kinds). inspect_at range [] (word ∷ words)) (in_range 65536 n (omega arith) (omega arith) (leb-true n 65536 few)) ∙ inspect_within word words)
      | inr many ↦ rw many (ap (λ (range : Kinds). inspect_at range [] (word ∷ words)) (past_range 65536 n (omega arith) (leb-false n 65536 many)) ∙ inspect_past kind.TooManyValues (word ∷ words))
    ]

no_files : at_end (named (codes "inspect") []) [] ≡ None
unfolding pef clap_on_literals named at_end
no_files = refl

-- the operands of `inspect`
pub inspect_operands : (words : List Text) → ArePlain words → at_end (named (codes "inspect") words) [] ≡ plain_inspect words
unfolding walk_fault
inspect_operands [] plain = no_files
inspect_operands (word ∷ words) plain =
    let rules = inspect_shape.rules in
    let first = first_taken word plain.0 in
    let ended : walk rules [] nothing_held (word ∷ words) ≡ taken (codes "FILE") (word ∷ words) = ap (λ (w : Walk). fold (walked rules []) w words) first ∙ all_taken rules (codes "FILE") next_taken (word ∷ []) words plain.1 in
    let sound : walk_fault inspect_shape [] (walk_from nothing_held) (word ∷ words) ≡ [] =
    ap₂ or_else (first_sound word plain.0) (ap (λ (w : Walk). walk_fault inspect_shape [] w words) first ∙ all_sound inspect_shape (codes "FILE") next_taken next_sound (word ∷ []) words plain.1) in
    inspect_ends (word ∷ words) ∙ ap₂ inspect_end ended sound ∙ inspect_settles word words
    ∙ ap (λ (values : Kinds). inspect_at (range_kinds 1 65536 (length (word ∷ words))) values (word ∷ words)) (all_values (word ∷ words)) ∙ inspect_counted word words
